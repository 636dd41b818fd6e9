-- How many bouts a run over rings has.
use Rattle.std.specs.Prelude.{ℕ, ◌+◌, ◌*◌, ◌^◌, filter_map, length}
use Rattle.row_cells.specs.declared.table.Side.TheVariants.{R, S}
use Rattle.epoch_tags.specs.Messages.{order_epochs}
use Rattle.epoch_tags.specs.Posts.{feeder_msg}
use Rattle.epoch_tags.specs.declared.actor.Actor.{Actor}
use Rattle.epoch_tags.specs.declared.actor.Actor.TheVariants.{Controller, Feeder}
use Rattle.trace_law.specs.Join.{row_count}
use Rattle.actor_core.specs.Lists.{ActorLists}
use Rattle.actor_core.specs.Tasks.{Task}

-- how many orders the controller sent to the first feeder, by these lists
abbrev pub orders_in : (Actor → ActorLists) → ℕ
orders_in lists = length (order_epochs (filter_map feeder_msg ((lists Controller).sent (Feeder 0))))

-- the most bouts of a run with so many orders: two for each event that it can have
abbrev pub most_bouts : Task → ℕ → ℕ
most_bouts task orders =
    16 * (row_count task.input R + row_count task.input S + task.setting.feeders + 2) * 2 ^ task.setting.k
    * (orders + 2)
