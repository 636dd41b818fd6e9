-- The events of a wave are fewer than a number of 64 bits counts.
use Rattle.std.specs.Prelude.{◌-◌, ◌^◌, ◌<◌, List}
use Rattle.epoch_tags.specs.declared.actor.Actor.{Actor}
use Rattle.load_controller.specs.declared.line.TurnLine.{TurnLine}
use Rattle.trace_law.specs.Family.{IsRestFor, migrations}
use Rattle.trace_law.specs.MostEvents.{most_events}
use Rattle.trace_law.specs.Validity.{IsValidInput, IsValidSetting}
use Rattle.actor_core.specs.Families.{family_of}
use Rattle.actor_core.specs.Lists.{ActorLists}
use Rattle.actor_core.specs.Tasks.{Task, Agrees}

-- an agreeing family never has a journal by which a wave could have more events than a number of 64 bits counts
abbrev pub EventsFit : Type 0
EventsFit = (task : Task) (journal : List TurnLine) (lists : Actor → ActorLists)
    → IsValidInput task.input → IsValidSetting task.setting → IsRestFor task.input task.setting task.rest
    → Agrees task (family_of journal lists)
    → most_events task.input task.setting (migrations task.rest.line journal) < 2 ^ 64 - 1
