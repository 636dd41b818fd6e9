use Rattle.std.proofs.Common.{◌≡◌, ◌*◌, ◌^◌, ◌+ℤ◌, drop}
use Rattle.theta_pred.specs.Keys.{constant_of}
use Rattle.theta_pred.specs.Sizes.{IsAtMost}
use Rattle.theta_pred.proofs.bounds.constant.Given as goal

abbrev pub invariant-loop-term : goal.invariant-loop-term
invariant-loop-term l = record {
  value : l.value +ℤ constant_of (drop l.term-index l.sum) ≡ constant_of l.sum;
  small : IsAtMost (2 ^ 63 * l.term-index) l.value;
}
