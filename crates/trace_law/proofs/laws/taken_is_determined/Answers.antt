use Rattle.trace_law.proofs.OneTaken.{feeder_took, took_of_feeder, took_of_joiner, same_after}
use Rattle.trace_law.proofs.laws.taken_is_determined.Goals as goal

pub returns : goal.returns
returns c = λ input setting rest f valid stands one other. (
  feeder_took input setting valid.some rest f one other,
  (λ j p h low. took_of_feeder input setting valid.some rest f one other j h p low),
  (λ j i h hi. took_of_joiner input setting valid.some rest f one other j h i hi),
  (λ j n h low. same_after input setting valid.some rest f one other j h n low),
)
