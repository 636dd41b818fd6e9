use Rattle.std.proofs.Common.{◌∙◌, sym}
use Rattle.join_plan.specs.Numbers.{joined_column_fault}
use Rattle.join_plan.proofs.Bad.{first_of-here}
use Rattle.join_plan.proofs.numbers.joined_columns_fault.Goals as goal

pub returns-in-Some : goal.returns-in-Some
returns-in-Some c =
    sym (sym c.loop-column.invariant
    ∙ first_of-here (joined_column_fault c.args.tables.now c.args.ends.now)
    c.args.columns.now c.loop-column.column-index c.in-Some.fault
    c.loop-column-test.true (sym c.in-Some.ensures))
