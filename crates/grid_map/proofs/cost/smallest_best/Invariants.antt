use Rattle.std.proofs.Common.{◌≡◌, ◌≤◌}
use Rattle.grid_map.specs.Load.{smallest_best}
use Rattle.grid_map.proofs.cost.smallest_best.Given as goal

abbrev pub invariant-loop-below : goal.invariant-loop-below
invariant-loop-below l = (l.best ≡ smallest_best l.k l.below l.x l.y) × (l.best ≤ l.below)
