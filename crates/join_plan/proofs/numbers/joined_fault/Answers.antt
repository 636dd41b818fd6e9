use Rattle.std.proofs.Common.{◌∙◌, ◌<◌, ◌+◌, All, ap, sym, subst, length}
use Rattle.row_cells.specs.declared.table.Side.TheVariants.{R}
use Rattle.join_plan.specs.Numbers.{joined_fault}
use Rattle.join_plan.proofs.Picked.{summed_columns-places}
use Rattle.join_plan.proofs.numbers.joined_fault.Goals as goal

pub joined_columns_fault-requires-clause-columns : goal.joined_columns_fault-requires-clause-columns
joined_columns_fault-requires-clause-columns c =
    subst (All (λ column. column < length c.args.tables.now.of_r.names + length c.args.tables.now.of_s.names))
    (sym c.as_slice.ensures)
    (subst (λ width. All (λ column. column < width) c.numeric.result.now) c.requires.width c.numeric.ensures.within)

pub returns : goal.returns
returns c =
    c.joined_columns_fault.ensures
    ∙ ap (joined_fault c.args.tables.now c.args.ends.now)
    (c.as_slice.ensures ∙ sym (summed_columns-places c.args.theta.now R c.numeric.result.now c.numeric.ensures))
