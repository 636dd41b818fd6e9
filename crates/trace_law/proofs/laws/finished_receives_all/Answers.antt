use Rattle.trace_law.proofs.Complete.{all_received}
use Rattle.trace_law.proofs.laws.finished_receives_all.Goals as goal

pub returns : goal.returns
returns c =
    λ input setting rest f valid stands agrees finished.
    all_received input setting rest f valid stands agrees finished.collector
