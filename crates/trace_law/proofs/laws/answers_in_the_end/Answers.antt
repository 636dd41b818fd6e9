use Rattle.trace_law.proofs.Numbers.{answers_the_join}
use Rattle.trace_law.proofs.laws.answers_in_the_end.Goals as goal

pub returns : goal.returns
returns c =
    λ input setting rest f valid stands agrees finished.
    answers_the_join input setting valid rest stands f agrees finished
