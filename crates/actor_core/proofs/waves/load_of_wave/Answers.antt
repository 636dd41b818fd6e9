use Rattle.std.proofs.Common.{arith}
use Rattle.row_cells.specs.declared.table.Side.TheVariants.{R, S}
use Rattle.actor_core.proofs.waves.load_of_wave.Goals as goal

pub share-requires-clause-rows_r : goal.share-requires-clause-rows_r
share-requires-clause-rows_r c =
    let low = c.requires.end.rows_r in let few = (c.requires.input.sides R).few in omega (arith, low, few)

pub share-requires-clause-rows_s : goal.share-requires-clause-rows_s
share-requires-clause-rows_s c =
    let low = c.requires.end.rows_s in let few = (c.requires.input.sides S).few in omega (arith, low, few)
