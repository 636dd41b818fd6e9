use Rattle.std.proofs.Common.{◌≡◌, map, drop}
use Rattle.theta_pred.specs.Accesses.{first_interval}
use Rattle.theta_pred.specs.Keys.{atom_of}
use Rattle.theta_pred.proofs.range.first_interval.Given as goal

abbrev pub invariant-loop-other : goal.invariant-loop-other
invariant-loop-other l =
    first_interval l.points (atom_of l.atom) (map atom_of (drop l.other-index l.others))
    ≡ first_interval l.points (atom_of l.atom) (map atom_of l.others)
