use Rattle.std.proofs.Common.{◌≡◌, ◌++◌, map, drop}
use Rattle.theta_pred.specs.Formula.{formula_of, formulas}
use Rattle.theta_pred.specs.Numeric.{sum_places, all_sum_places}
use Rattle.theta_pred.proofs.numeric.+add_places.Given as goal

abbrev pub invariant-loop-member : goal.invariant-loop-member
invariant-loop-member l =
    l.places.items ++ all_sum_places l.side (formulas (map formula_of (drop l.member-index l.member-items)))
    ≡ l.fn.places.items ++ sum_places l.side (formula_of l.tree)

abbrev pub invariant-loop-member-2 : goal.invariant-loop-member-2
invariant-loop-member-2 l =
    l.places.items ++ all_sum_places l.side (formulas (map formula_of (drop l.member-index l.member-items)))
    ≡ l.fn.places.items ++ sum_places l.side (formula_of l.tree)
