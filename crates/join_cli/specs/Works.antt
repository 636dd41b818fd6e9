-- What runs, and of what it is asked for.
use Rattle.std.specs.Prelude.{◌≡◌, ℕ, Option}
use Rattle.trace_law.specs.declared.input.Input.{Input}
use Rattle.trace_law.specs.declared.run.Run.{Run}
use Rattle.trace_law.specs.declared.setting.Setting.{Setting}
use Rattle.trace_law.specs.Family.{Rest}
use Rattle.actor_core.specs.Tasks.{IsRun, Task, task_of}
use Rattle.elastic_grow.specs.Growth.{grown_setting}
use Rattle.join_words.specs.Words.{Asked, replay_of}
use Rattle.join_plan.specs.declared.fitting.Planned.{Planned}
use Rattle.join_cli.specs.declared.work.Work.{Work}
use Rattle.join_cli.specs.Plan.{input_of, setting_of}

-- what runs: an input, with the setting of its run, and the number of a replay where it is one
pub record WorkView : Type 0 where
  pub number : Option ℕ
  pub input : Input
  pub setting : Setting

-- that of the code
abbrev pub view_of : Work → WorkView
view_of work = record { number = work.number; input = work.input.now; setting = work.setting.now }

-- that of a plan, as a replay where it has a number
abbrev pub work_asked : Option ℕ → Asked → Planned → WorkView
work_asked number asked planned = record {
  number = number;
  input = input_of asked.seed planned;
  setting = setting_of asked;
}

-- with four times as many joiners
abbrev pub grown_work : WorkView → WorkView
grown_work work = record work { setting = grown_setting work.setting }

-- its task from this rest on
abbrev pub task_from : WorkView → Rest → Task
task_from work rest = record { input = work.input; setting = work.setting; rest = rest }

-- it runs with the setting that is asked for, and as a replay where one is
pub record IsWorkOf (asked : Asked) (work : Work) : Type 0 where
  pub setting : work.setting.now ≡ setting_of asked
  pub number : work.number ≡ replay_of asked.kind

-- a run of it, from its first row to its last
abbrev pub IsWholeRun : Work → Run → Type 0
IsWholeRun work run = IsRun (task_of work.input.now work.setting.now) run.journal run
