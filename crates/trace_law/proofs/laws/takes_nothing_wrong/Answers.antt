use Rattle.trace_law.proofs.Order.{nothing_wrong_taken}
use Rattle.trace_law.proofs.laws.takes_nothing_wrong.Goals as goal

pub returns : goal.returns
returns c = λ input setting rest f valid stands agrees. nothing_wrong_taken input setting valid rest stands f agrees
