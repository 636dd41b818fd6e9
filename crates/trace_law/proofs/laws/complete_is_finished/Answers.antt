use Rattle.trace_law.proofs.Complete.{complete_finishes}
use Rattle.trace_law.proofs.laws.complete_is_finished.Goals as goal

pub returns : goal.returns
returns c =
    λ input setting rest f valid stands agrees complete.
    complete_finishes input setting rest f valid stands agrees complete
