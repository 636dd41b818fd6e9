use Rattle.std.proofs.Common.{◌≡◌, ◌*◌}
use Rattle.row_cells.specs.Lists.{gather}
use Rattle.elastic_grow.specs.Stores.{side_at}
use Rattle.elastic_grow.proofs.whole.gathered.Given as goal

abbrev pub invariant-loop-i : goal.invariant-loop-i
invariant-loop-i l = l.all ≡ gather l.i (λ i. side_at l.stores l.side (i * l.step))
