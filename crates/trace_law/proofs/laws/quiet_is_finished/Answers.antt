use Rattle.trace_law.proofs.Quiet.{finishes}
use Rattle.trace_law.proofs.laws.quiet_is_finished.Goals as goal

pub returns : goal.returns
returns c = λ input setting rest f valid stands agrees quiet. finishes input setting rest f valid stands agrees quiet
