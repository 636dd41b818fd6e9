-- The end of a run: its last two machines, and what they answer.
use Rattle.std.specs.Prelude.{◌≡◌, ℕ, ◌+◌, List, length, slice_get, Some}
use Rattle.load_controller.specs.Standing.{ControllerState}
use Rattle.load_controller.specs.declared.line.TurnLine.{TurnLine}
use Rattle.pair_collector.specs.declared.collected.Collected.{Collected}
use Rattle.pair_collector.specs.Answer.{Collects}
use Rattle.pair_collector.specs.Law.{CollectorLists}
use Rattle.pair_collector.specs.Standing.{CollectorState}
use Rattle.trace_law.specs.declared.run.Run.{Run}
use Rattle.trace_law.specs.Runs.{run_of}
use Rattle.actor_core.specs.declared.machines.Core.{Core}
use Rattle.actor_core.specs.declared.machines.Core.TheVariants.{Controller as TheController, Collector as TheCollector}

-- the last two machines are this controller and this collector
pub record AreLast (cores : List Core) (controller : ControllerState) (collector : CollectorState) : Type 0 where
  pub before : ℕ
  pub many : length cores ≡ before + 2
  pub controller_is : slice_get cores before ≡ Some (TheController controller)
  pub collector_is : slice_get cores (before + 1) ≡ Some (TheCollector collector)

-- the last two machines are some controller's and some collector's
pub record HaveLast (cores : List Core) : Type 0 where
  pub controller : ControllerState
  pub collector : CollectorState
  pub are : AreLast cores controller collector

-- the run that a collector with these lists answers, with this journal
pub record IsAnswerOf (joiners : ℕ) (lists : CollectorLists) (journal : List TurnLine) (bouts : ℕ)
    (run : Run) : Type 0 where
  pub collected : Collected
  pub collects : Collects joiners lists collected
  pub run_is : run ≡ run_of collected journal bouts
