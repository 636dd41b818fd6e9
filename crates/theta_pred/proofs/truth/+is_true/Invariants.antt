use Rattle.std.proofs.Common.{◌≡◌, map, drop}
use Rattle.theta_pred.specs.Formula.{formula_of, formulas}
use Rattle.theta_pred.specs.Sound.{AreSound}
use Rattle.theta_pred.specs.Truth
use Rattle.theta_pred.proofs.truth.+is_true.Given as goal

abbrev pub decreases-is_true : goal.decreases-is_true
decreases-is_true l = goal.size-is_true l

abbrev pub invariant-loop-member : goal.invariant-loop-member
invariant-loop-member l =
    let left = formulas (map formula_of (drop l.member-index l.member-items)) in
    record {
      value : Truth.some_is_true l.r l.s left ≡ Truth.is_true l.r l.s (formula_of l.tree);
      sound : AreSound l.width_r l.width_s left;
    }

abbrev pub invariant-loop-member-2 : goal.invariant-loop-member-2
invariant-loop-member-2 l =
    let left = formulas (map formula_of (drop l.member-index l.member-items)) in
    record {
      value : Truth.each_is_true l.r l.s left ≡ Truth.is_true l.r l.s (formula_of l.tree);
      sound : AreSound l.width_r l.width_s left;
    }
