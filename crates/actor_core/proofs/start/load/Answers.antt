use Rattle.row_cells.specs.declared.table.Side.TheVariants.{R, S}
use Rattle.actor_core.proofs.start.load.Goals as goal

pub share-requires-clause-rows_r : goal.share-requires-clause-rows_r
share-requires-clause-rows_r c = rw c.len-rows_r.ensures (c.requires.input.sides R).few

pub share-requires-clause-rows_s : goal.share-requires-clause-rows_s
share-requires-clause-rows_s c = rw c.len-rows_s.ensures (c.requires.input.sides S).few
