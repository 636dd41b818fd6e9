-- Which tasks the laws hold of.
use Rattle.trace_law.specs.declared.input.Input.{Input}
use Rattle.trace_law.specs.declared.setting.Setting.{Setting}
use Rattle.trace_law.specs.Validity.{IsValid, IsValidInput, IsValidSetting}
use Rattle.trace_law.proofs.First.{stands as first_stands}
use Rattle.trace_law.proofs.Validity.{within_limits}
use Rattle.actor_core.specs.declared.rests.Rest.{Rest}
use Rattle.actor_core.specs.declared.rests.Upto.{Upto}
use Rattle.actor_core.specs.Rests.{IsRestOf, IsWithin, task_upto, upto}
use Rattle.actor_core.specs.Tasks.{IsTask, task_of}
use Rattle.actor_core.proofs.UptoEnd.{valid_upto}

-- they hold of a run, whose rest has no rows
pub first_is_task : (input : Input) (setting : Setting) → IsValid input setting → IsTask (task_of input setting)
first_is_task input setting valid = record { valid = valid; begins = first_stands input setting valid }

-- and of a wave that goes on from a rest of the input and ends within it
pub upto_is_task : (end : Upto) (input : Input) (setting : Setting) (rest : Rest) → IsWithin end input
    → IsValidInput input → IsValidSetting setting → IsRestOf (upto end input) setting rest
    → IsTask (task_upto end input setting rest)
upto_is_task end input setting rest within of_input of_setting is =
    record {
      valid = within_limits (upto end input) setting (valid_upto end input within of_input) of_setting;
      begins = is.stands;
    }
