use Rattle.std.proofs.Common.{◌≡◌, ◌++◌, map, drop}
use Rattle.theta_pred.specs.Accesses.{agreement_of, agreements_of, agreements_in, AreOver}
use Rattle.theta_pred.specs.Formula.{formula_of, formulas}
use Rattle.theta_pred.specs.Sound.{AreSound}
use Rattle.theta_pred.proofs.tree_agreements.+add_sames.Given as goal

abbrev pub invariant-loop-member : goal.invariant-loop-member
invariant-loop-member l =
    let left = formulas (map formula_of (drop l.member-index l.member-items)) in
    record {
      sames : map agreement_of l.sames.items ++ agreements_in left
          ≡ map agreement_of l.fn.sames.items ++ agreements_of (formula_of l.tree);
      widths : AreOver l.width_r l.width_s l.fn.sames.items → AreOver l.width_r l.width_s l.sames.items;
      sound : AreSound l.width_r l.width_s left;
    }
