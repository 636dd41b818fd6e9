use Rattle.std.proofs.Common.{◌≡◌, ◌*◌, ◌^◌, Some, drop}
use Rattle.theta_pred.specs.Linear.{value_of}
use Rattle.theta_pred.specs.Sizes.{IsAtMost}
use Rattle.theta_pred.specs.Sums.{plus}
use Rattle.theta_pred.proofs.atom.Linear.value.Given as goal

abbrev pub invariant-loop-part : goal.invariant-loop-part
invariant-loop-part l =
    let left = drop l.part-index l.part-items in
    record {
      value : plus (Some l.value) (value_of left l.row) ≡ value_of l.self.parts l.row;
      small : IsAtMost (2 ^ 63 * l.part-index) l.value;
      all : l.part-items ≡ l.self.parts;
    }
