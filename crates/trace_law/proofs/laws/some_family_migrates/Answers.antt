use Rattle.trace_law.proofs.TwoMigrationsLaws.{finished_after_two}
use Rattle.trace_law.proofs.laws.some_family_migrates.Goals as goal

pub returns : goal.returns
returns c = finished_after_two
