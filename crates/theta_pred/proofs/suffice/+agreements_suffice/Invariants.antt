use Rattle.std.proofs.Common.{◌≡◌, map, drop}
use Rattle.theta_pred.specs.Formula.{formula_of, formulas}
use Rattle.theta_pred.specs.Sufficing.{agreements_suffice, each_suffices}
use Rattle.theta_pred.proofs.suffice.+agreements_suffice.Given as goal

abbrev pub decreases-agreements_suffice : goal.decreases-agreements_suffice
decreases-agreements_suffice l = goal.size-agreements_suffice l

abbrev pub invariant-loop-member : goal.invariant-loop-member
invariant-loop-member l = each_suffices (formulas (map formula_of (drop l.member-index l.member-items)))
    ≡ agreements_suffice (formula_of l.tree)
