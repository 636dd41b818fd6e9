-- What a run tells, and what a wave does.
use Rattle.std.specs.Prelude.{◌≡◌, ◌≤◌}
use Rattle.epoch_tags.specs.declared.actor.Actor.{Actor}
use Rattle.load_controller.specs.Journal.{last_line}
use Rattle.load_controller.specs.declared.line.TurnLine.{TurnLine}
use Rattle.trace_law.specs.Family.{migrations}
use Rattle.trace_law.specs.MostEvents.{most_events}
use Rattle.actor_core.specs.Lists.{no_lists}
use Rattle.actor_core.specs.Players.{AgreesOnLinks, IsFinishedFamily}
use Rattle.actor_core.specs.Rests.{IsRestOf}
use Rattle.actor_core.specs.Tasks.{IsRun, IsTask, Task}
use Rattle.join_runtime.specs.declared.ends.WaveTold.{WaveTold}
use Rattle.join_runtime.specs.Bouts.{AllJoinBy, SeatsView, StandsFor, lists_in}
use Rattle.join_runtime.specs.Endings.{lists_left}

-- the seats of a task of which the laws speak, before their first event
pub record IsBegun (task : Task) (v : SeatsView) : Type 0 where
  pub is_task : IsTask task
  pub stands : StandsFor task v
  pub empty : (a : Actor) → lists_in v a ≡ no_lists

-- the lists that are left are a finished family of this task with the wave's journal, and went over the run's links;
-- the wave's run is its result, and had no more bouts than there can be events
pub record HasRunWave (task : Task) (told : WaveTold) : Type 0 where
  pub family : IsFinishedFamily task told.wave.run.journal (lists_left told.ends)
  pub linked : AgreesOnLinks task.setting (lists_left told.ends)
  pub run : IsRun task told.wave.run.journal told.wave.run
  pub bound : told.wave.run.bouts
      ≤ most_events task.input task.setting (migrations task.rest.line told.wave.run.journal)

-- of whatever task these seats began: what its run is, and what its wave leaves for the next
pub record TellsOf (v : SeatsView) (told : WaveTold) : Type 0 where
  pub wave : (task : Task) → IsBegun task v → HasRunWave task told
  pub rest : (task : Task) → IsBegun task v → AllJoinBy task.input.theta v
      → IsRestOf task.input task.setting told.wave.rest
  pub line : (first : TurnLine) → told.wave.rest.line ≡ last_line first told.wave.run.journal
