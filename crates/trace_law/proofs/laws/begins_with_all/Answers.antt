use Rattle.trace_law.proofs.First.{stands, all_pairs, all_shares}
use Rattle.trace_law.proofs.laws.begins_with_all.Goals as goal

pub returns : goal.returns
returns c =
    λ input setting valid. (stands input setting valid, all_pairs input setting, λ p. all_shares input setting p)
