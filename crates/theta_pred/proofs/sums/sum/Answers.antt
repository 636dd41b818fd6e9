use Rattle.std.proofs.Common.{◌≡◌, ◌+◌, ◌*◌, ◌^◌, ◌<◌, false, length, drop, Some, pos, ◌+ℤ◌, to_z, of_z, arith, subst}
use Rattle.std.proofs.Common.{ap}
use Rattle.std.specs.Int.{w128}
use Rattle.std.proofs.lemmas.Int.{ints}
use Rattle.theta_pred.specs.declared.tree.SignedTerm.{SignedTerm}
use Rattle.theta_pred.specs.declared.tree.Number.TheVariants.{Given}
use Rattle.theta_pred.specs.Sizes.{IsAtMost}
use Rattle.theta_pred.specs.Sums.{plus, sum_of}
use Rattle.theta_pred.proofs.SumSteps.{sum_step, IsAtMost-next}
use Rattle.theta_pred.proofs.sums.sum.Goals as goal

pub loop-term-preserved : goal.loop-term-preserved
loop-term-preserved c =
    let r = c.args.r.now in
    let s = c.args.s.now in
    let items = c.as_slice-term-items.result.now in
    let i = c.loop-term.term-index in
    let default : SignedTerm = record { minus = false; number = Given (pos 0) } in
    let x = c.in_ok-value.field-0 in
    let before = to_z w128 c.loop-term.value-bits in
    let after = to_z w128 (of_z w128 (before +ℤ to_z w128 (of_z w128 x))) in
    let x_small = c.in_ok-value.ensures.small in
    let v_small = c.loop-term.invariant.small in
    let all = ap length c.loop-term.invariant.all in
    let i_small : i < 16 = omega (arith, c.requires, all) in
    let is : before +ℤ x ≡ after = omega (arith, ints) in
    record {
      value = subst (λ v. plus (Some v) (sum_of r s (drop (i + 1) items)) ≡ sum_of r s c.args.terms.now) is
          (sum_step r s items i default before x _ c.loop-term-test.true c.in_ok-value.ensures.value
          c.loop-term.invariant.value);
      small = subst (IsAtMost (2 ^ 63 * (i + 1))) is (IsAtMost-next (2 ^ 63) i before x v_small x_small);
      all = c.loop-term.invariant.all;
    }
