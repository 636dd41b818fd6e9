use Rattle.std.proofs.Common.{◌∙◌, ◌<◌, All, ap, sym, subst, length}
use Rattle.join_plan.specs.Numbers.{number_fault}
use Rattle.join_plan.proofs.Picked.{summed_columns-places}
use Rattle.join_plan.proofs.numbers.side_fault.Goals as goal

pub columns_fault-requires-clause-columns : goal.columns_fault-requires-clause-columns
columns_fault-requires-clause-columns c =
    subst (All (λ column. column < length c.args.table.now.names)) (sym c.as_slice.ensures)
    (subst (λ width. All (λ column. column < width) c.numeric.result.now) c.requires.width c.numeric.ensures.within)

pub returns : goal.returns
returns c =
    c.columns_fault.ensures
    ∙ ap (number_fault c.args.side c.args.wave c.args.ends.now c.args.table.now.rows)
    (c.as_slice.ensures ∙ sym (summed_columns-places c.args.theta.now c.args.side c.numeric.result.now
    c.numeric.ensures))
