use Rattle.trace_law.proofs.Widths.{feeders_wide, joiners_wide}
use Rattle.trace_law.proofs.laws.none_is_strange.Goals as goal

pub returns : goal.returns
returns c = λ input setting rest f valid stands agrees. (
  λ p j h h'. feeders_wide input setting valid rest stands f agrees p j h h',
  λ i j h h'. joiners_wide input setting valid rest stands f agrees i j h,
)
