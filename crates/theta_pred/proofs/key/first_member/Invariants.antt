use Rattle.std.proofs.Common.{◌≡◌, map, drop}
use Rattle.theta_pred.specs.Formula.{formula_of, formulas}
use Rattle.theta_pred.specs.Keys.{first_of}
use Rattle.theta_pred.proofs.key.first_member.Given as goal

abbrev pub invariant-loop-member : goal.invariant-loop-member
invariant-loop-member l =
    first_of l.kind (formulas (map formula_of (drop l.member-index l.members)))
    ≡ first_of l.kind (formulas (map formula_of l.members))
