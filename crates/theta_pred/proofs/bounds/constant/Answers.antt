use Rattle.std.proofs.Common.{◌≡◌, ◌<◌, ◌+◌, ◌*◌, ◌^◌, false, drop, pos, ◌+ℤ◌, to_z, of_z, arith, subst}
use Rattle.std.specs.Int.{w128}
use Rattle.std.proofs.lemmas.Int.{ints}
use Rattle.theta_pred.specs.declared.tree.SignedTerm.{SignedTerm}
use Rattle.theta_pred.specs.declared.tree.Number.TheVariants.{Given}
use Rattle.theta_pred.specs.Keys.{constant_of}
use Rattle.theta_pred.specs.Sizes.{IsAtMost}
use Rattle.theta_pred.proofs.SumSteps.{IsAtMost-next}
use Rattle.theta_pred.proofs.KeySums.{constant_step}
use Rattle.theta_pred.proofs.bounds.constant.Goals as goal

pub loop-term-preserved : goal.loop-term-preserved
loop-term-preserved c =
    let items = c.args.sum.now in
    let i = c.loop-term.term-index in
    let default : SignedTerm = record { minus = false; number = Given (pos 0) } in
    let x = c.constant_in-value.result in
    let before = to_z w128 c.loop-term.value-bits in
    let after = to_z w128 (of_z w128 (before +ℤ to_z w128 (of_z w128 x))) in
    let x_small = c.constant_in-value.ensures.small in
    let v_small = c.loop-term.invariant.small in
    let i_small : i < 16 = omega (arith, c.requires, c.loop-term-test.true) in
    let is : before +ℤ x ≡ after = omega (arith, ints) in
    record {
      value = subst (λ v. v +ℤ constant_of (drop (i + 1) items) ≡ constant_of items) is
          (constant_step items i default before x _ c.loop-term-test.true c.constant_in-value.ensures.value
          c.loop-term.invariant.value);
      small = subst (IsAtMost (2 ^ 63 * (i + 1))) is (IsAtMost-next (2 ^ 63) i before x v_small x_small);
    }
