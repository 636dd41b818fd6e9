-- What a wave is given, as one: the files, how it runs, and what it goes on from.
use Rattle.std.specs.Prelude.{List}
use Rattle.load_controller.specs.declared.line.TurnLine.{TurnLine}
use Rattle.trace_law.specs.Family.{Family, Rest, IsAgreeing, IsRestFor, first_rest}
use Rattle.trace_law.specs.Runs.{IsRunOf}
use Rattle.trace_law.specs.Validity.{IsValid}
use Rattle.trace_law.specs.declared.input.Input.{Input}
use Rattle.trace_law.specs.declared.run.Run.{Run}
use Rattle.trace_law.specs.declared.setting.Setting.{Setting}

-- what a wave is given: the files, how it runs, and what it goes on from
pub record Task : Type 0 where
  pub input : Input
  pub setting : Setting
  pub rest : Rest

-- the task of a run, that is of the wave that begins with no rows
abbrev pub task_of : Input → Setting → Task
task_of input setting = record { input = input; setting = setting; rest = first_rest setting }

-- what the laws ask of a task: files and a setting within the limits, and a rest that stands for them
pub record IsTask (task : Task) : Type 0 where
  pub valid : IsValid task.input task.setting
  pub begins : IsRestFor task.input task.setting task.rest

-- these lists are a family of the task that agrees
abbrev pub Agrees : Task → Family → Type 0
Agrees task f = IsAgreeing task.input task.setting task.rest f

-- the run is one of the task, with this journal
abbrev pub IsRun : Task → List TurnLine → Run → Type 0
IsRun task journal run = IsRunOf task.input task.setting task.rest.line journal run
