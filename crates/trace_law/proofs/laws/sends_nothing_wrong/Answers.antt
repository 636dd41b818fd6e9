use Rattle.trace_law.proofs.Sent.{nothing_wrong}
use Rattle.trace_law.proofs.laws.sends_nothing_wrong.Goals as goal

pub returns : goal.returns
returns c = λ input setting rest f valid stands agrees. nothing_wrong input setting valid rest stands f agrees
