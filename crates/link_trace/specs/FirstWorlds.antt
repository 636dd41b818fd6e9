-- The world before the first event of a run: all of it is determined by the input and the setting.
use Rattle.std.specs.Prelude.{◌≡◌, ℕ, List, [], Some, length, replicate, slice_get}
use Rattle.epoch_tags.specs.declared.message.Msg.{Msg}
use Rattle.actor_core.specs.declared.cast.Cast.{Cast}
use Rattle.actor_core.specs.FirstCores.{IsFirstAt}
use Rattle.actor_core.specs.Families.{start_for}
use Rattle.actor_core.specs.Lists.{no_lists}
use Rattle.actor_core.specs.Numbers.{actor_at, cast_of, count_of}
use Rattle.actor_core.specs.Players.{AllStand}
use Rattle.actor_core.specs.Standing.{Stands}
use Rattle.actor_core.specs.Tasks.{Task}
use Rattle.actor_core.specs.declared.machines.Core.{Core}
use Rattle.link_trace.specs.Worlds.{WorldState}

-- at each of so many actors there is a queue for each of so many, and nothing waits
abbrev pub none_waits : ℕ → List (List (List Msg))
none_waits count = replicate count (replicate count [])

-- the world of these with these machines, where nothing waits
abbrev pub new_world : Cast → List Core → WorldState
new_world cast cores = record { cast = cast; cores = cores; waiting = none_waits (count_of cast) }

-- the machines stand for empty lists of the actors of some task
pub record AreNewForSome (cast : Cast) (cores : List Core) : Type 0 where
  pub task : Task
  pub stand : AllStand task cast cores (λ actor. no_lists)

-- these are so many machines, and P holds of each and its number
pub record AreEach (P : ℕ → Core → Type 0) (count : ℕ) (cores : List Core) : Type 0 where
  pub all : length cores ≡ count
  pub each : (n : ℕ) (core : Core) → slice_get cores n ≡ Some core → P n core

-- these are the machines of the first so many actors, each of which stands for empty lists
abbrev pub AreNew : Task → ℕ → List Core → Type 0
AreNew task count cores =
    AreEach (λ n core. Stands (start_for task (actor_at (cast_of task.setting) n)) no_lists core) count cores

-- these are the machines of the first so many actors, each of which has just begun
abbrev pub HaveBegun : Task → ℕ → List Core → Type 0
HaveBegun task count cores = AreEach (IsFirstAt task) count cores

-- the world has the machines of all actors of the task, each of which has just begun, and nothing waits
pub record IsFirstWorld (task : Task) (w : WorldState) : Type 0 where
  pub cast : w.cast ≡ cast_of task.setting
  pub machines : HaveBegun task (count_of (cast_of task.setting)) w.cores
  pub waiting : w.waiting ≡ none_waits (count_of (cast_of task.setting))

-- two such worlds of one task are one
abbrev pub FirstWorldsAreOne : Type 0
FirstWorldsAreOne = (task : Task) (one two : WorldState) → IsFirstWorld task one → IsFirstWorld task two → one ≡ two
