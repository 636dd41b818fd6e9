use Rattle.std.proofs.Common.{◌≡◌, map, take}
use Rattle.theta_pred.specs.Formula.{formula_of}
use Rattle.theta_pred.proofs.copies.+copies.Given as goal

abbrev pub invariant-copies_of-loop-tree : goal.invariant-copies_of-loop-tree
invariant-copies_of-loop-tree l = map formula_of l.copies.items ≡ map formula_of (take l.tree-index l.tree-items)
