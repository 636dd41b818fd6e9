use Rattle.trace_law.proofs.TwoMigrationsLaws.{leaves_a_rest}
use Rattle.trace_law.proofs.laws.some_family_leaves_a_rest.Goals as goal

pub returns : goal.returns
returns c = leaves_a_rest
