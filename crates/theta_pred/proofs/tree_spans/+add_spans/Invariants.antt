use Rattle.std.proofs.Common.{◌≡◌, ◌++◌, map, drop}
use Rattle.theta_pred.specs.Accesses.{spans_of, spans_in}
use Rattle.theta_pred.specs.Formula.{formula_of, formulas}
use Rattle.theta_pred.specs.Keys.{atom_of}
use Rattle.theta_pred.specs.Sound.{AreSound}
use Rattle.theta_pred.proofs.tree_spans.+add_spans.Given as goal

abbrev pub invariant-loop-member : goal.invariant-loop-member
invariant-loop-member l =
    let left = formulas (map formula_of (drop l.member-index l.member-items)) in
    record {
      spans : map atom_of l.spans.items ++ spans_in l.kind left
          ≡ map atom_of l.fn.spans.items ++ spans_of l.kind (formula_of l.tree);
      sound : AreSound l.width_r l.width_s left;
    }
