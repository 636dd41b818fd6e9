use Rattle.std.proofs.Common.{◌∙◌, sym}
use Rattle.join_plan.specs.Numbers.{column_fault}
use Rattle.join_plan.proofs.Bad.{first_of-here}
use Rattle.join_plan.proofs.numbers.columns_fault.Goals as goal

pub returns-in-Some : goal.returns-in-Some
returns-in-Some c =
    sym (sym c.loop-column.invariant
    ∙ first_of-here (column_fault c.args.side c.args.wave c.args.ends.now c.args.table.now.rows)
    c.args.columns.now c.loop-column.column-index c.in-Some.fault
    c.loop-column-test.true (sym c.in-Some.ensures))
