use Rattle.migration_plan.proofs.OneStep.{one_step_lem}
use Rattle.migration_plan.proofs.law.one_step.Goals as goal

pub returns : goal.returns
returns c = one_step_lem
