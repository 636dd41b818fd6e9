use Rattle.std.proofs.Common.{◌≡◌, map, drop}
use Rattle.theta_pred.specs.Formula.{formula_of, formulas}
use Rattle.theta_pred.specs.OneSided.{names, some_names}
use Rattle.theta_pred.proofs.one_sided.+names.Given as goal

abbrev pub decreases-names : goal.decreases-names
decreases-names l = goal.size-names l

abbrev pub invariant-loop-member : goal.invariant-loop-member
invariant-loop-member l = some_names l.side (formulas (map formula_of (drop l.member-index l.member-items)))
    ≡ names l.side (formula_of l.tree)

abbrev pub invariant-loop-member-2 : goal.invariant-loop-member-2
invariant-loop-member-2 l = some_names l.side (formulas (map formula_of (drop l.member-index l.member-items)))
    ≡ names l.side (formula_of l.tree)
