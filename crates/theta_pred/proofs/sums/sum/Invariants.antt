use Rattle.std.proofs.Common.{◌≡◌, ◌*◌, ◌^◌, drop, Some}
use Rattle.theta_pred.specs.Sizes.{IsAtMost}
use Rattle.theta_pred.specs.Sums.{plus, sum_of}
use Rattle.theta_pred.proofs.sums.sum.Given as goal

abbrev pub invariant-loop-term : goal.invariant-loop-term
invariant-loop-term l =
    let left = drop l.term-index l.term-items in
    record {
      value : plus (Some l.value) (sum_of l.r l.s left) ≡ sum_of l.r l.s l.terms;
      small : IsAtMost (2 ^ 63 * l.term-index) l.value;
      all : l.term-items ≡ l.terms;
    }
