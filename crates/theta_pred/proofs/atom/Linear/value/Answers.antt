use Rattle.std.proofs.Common.{◌≡◌, ◌<◌, ◌≤◌, ◌+◌, ◌*◌, ◌^◌, false, length, drop, Some, ◌+ℤ◌, to_z, of_z, arith, subst}
use Rattle.std.proofs.Common.{ap}
use Rattle.std.specs.Int.{w128}
use Rattle.std.proofs.lemmas.Int.{ints}
use Rattle.theta_pred.specs.declared.atom.Part.{Part}
use Rattle.theta_pred.specs.Linear.{value_of}
use Rattle.theta_pred.specs.Sizes.{IsAtMost}
use Rattle.theta_pred.specs.Sums.{plus}
use Rattle.theta_pred.proofs.SumSteps.{IsAtMost-next}
use Rattle.theta_pred.proofs.KeySums.{value_step}
use Rattle.theta_pred.proofs.atom.Linear.value.Goals as goal

pub loop-part-preserved : goal.loop-part-preserved
loop-part-preserved c =
    let row = c.args.row.now in
    let items = c.as_slice-part-items.result.now in
    let i = c.loop-part.part-index in
    let default : Part = record { minus = false; column = 0 } in
    let x = c.in_ok-value.field-0 in
    let before = to_z w128 c.loop-part.value-bits in
    let after = to_z w128 (of_z w128 (before +ℤ to_z w128 (of_z w128 x))) in
    let x_small = c.in_ok-value.ensures.small in
    let v_small = c.loop-part.invariant.small in
    let all = ap length c.loop-part.invariant.all in
    let short : length c.args.self.now.parts ≤ 32 = c.args.self.now.short in
    let i_small : i < 32 = omega (arith, short, all, c.loop-part-test.true) in
    let is : before +ℤ x ≡ after = omega (arith, ints) in
    record {
      value = subst (λ v. plus (Some v) (value_of (drop (i + 1) items) row) ≡ value_of c.args.self.now.parts row) is
          (value_step row items i default before x _ c.loop-part-test.true c.in_ok-value.ensures.value
          c.loop-part.invariant.value);
      small = subst (IsAtMost (2 ^ 63 * (i + 1))) is (IsAtMost-next (2 ^ 63) i before x v_small x_small);
      all = c.loop-part.invariant.all;
    }
