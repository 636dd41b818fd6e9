use Rattle.std.proofs.Common.{◌≡◌, map, drop}
use Rattle.theta_pred.specs.Accesses.{first_narrow}
use Rattle.theta_pred.specs.Keys.{atom_of}
use Rattle.theta_pred.proofs.range.first_narrow.Given as goal

abbrev pub invariant-loop-atom : goal.invariant-loop-atom
invariant-loop-atom l =
    first_narrow (map atom_of l.all) (map atom_of (drop l.atom-index l.atoms))
    ≡ first_narrow (map atom_of l.all) (map atom_of l.atoms)
