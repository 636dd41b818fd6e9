use Rattle.std.proofs.Common.{◌≡◌, ◌++◌, drop}
use Rattle.theta_pred.specs.Numeric.{term_places}
use Rattle.theta_pred.proofs.numeric.add_sum_places.Given as goal

abbrev pub invariant-loop-term : goal.invariant-loop-term
invariant-loop-term l = record {
  places : l.places.items ++ term_places l.side (drop l.term-index l.term-items) ≡ l.fn.places.items
      ++ term_places l.side l.sum;
  all : l.term-items ≡ l.sum;
}
