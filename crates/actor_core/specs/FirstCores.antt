-- The machines before the first event of a run: all that they hold is determined by how they began.
use Rattle.std.specs.Prelude.{◌≡◌, ℕ}
use Rattle.theta_pred.specs.Formula.{Meaning}
use Rattle.reshuffler_core.specs.Standing.{just_begun as feeder_begun}
use Rattle.joiner_law.specs.Law.{JoinerStart}
use Rattle.joiner_core.specs.Beginnings.{HasBegun}
use Rattle.joiner_core.specs.Standing.{JoinerState}
use Rattle.load_controller.specs.Standing.{just_begun as controller_begun}
use Rattle.pair_collector.specs.Standing.{just_begun as collector_begun}
use Rattle.actor_core.specs.Families.{start_for}
use Rattle.actor_core.specs.Numbers.{actor_at, cast_of}
use Rattle.actor_core.specs.Standing.{Start, OfFeeder, OfJoiner, OfController, OfCollector}
use Rattle.actor_core.specs.Tasks.{Task}
use Rattle.actor_core.specs.declared.machines.Core.{Core}
use Rattle.actor_core.specs.declared.machines.Core.TheVariants.{Feeder as TheFeeder, Joiner as TheJoiner}
use Rattle.actor_core.specs.declared.machines.Core.TheVariants.{Controller as TheController, Collector as TheCollector}

-- the machine is a joiner's that joins by this predicate, and has just begun so
pub record IsFirstJoiner (theta : Meaning) (start : JoinerStart) (core : Core) : Type 0 where
  pub joiner : JoinerState
  pub begun : HasBegun start.k start.id start.shift start.epoch start.feeders theta start.base joiner
  pub is : core ≡ TheJoiner joiner

-- the machine has just begun so; a joiner's joins by this predicate
abbrev pub IsFirst : Meaning → Start → Core → Type 0
IsFirst theta (OfFeeder p feeders start) core = core ≡ TheFeeder (feeder_begun start)
IsFirst theta (OfJoiner start) core = IsFirstJoiner theta start core
IsFirst theta (OfController start) core = core ≡ TheController (controller_begun start.rules start.first)
IsFirst theta (OfCollector joiners) core = core ≡ TheCollector (collector_begun joiners)

-- the machine with this number, as the task begins with it
abbrev pub IsFirstAt : Task → ℕ → Core → Type 0
IsFirstAt task n core = IsFirst task.input.theta (start_for task (actor_at (cast_of task.setting) n)) core

-- two machines that have begun so are one
abbrev pub FirstCoresAreOne : Type 0
FirstCoresAreOne = (theta : Meaning) (start : Start) (one two : Core) → IsFirst theta start one
    → IsFirst theta start two → one ≡ two
