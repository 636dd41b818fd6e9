use Rattle.join_plan.proofs.Bad.{no_fault, first_fault}
use Rattle.join_plan.proofs.numbers.column_fault.Goals as goal

pub returns-in-Ok : goal.returns-in-Ok
returns-in-Ok c =
    no_fault c.args.side c.args.wave c.args.column c.args.ends.now c.args.table.now.rows c.in-Ok.ensures.ok

pub returns-in-Err : goal.returns-in-Err
returns-in-Err c =
    first_fault c.args.side c.args.wave c.args.column c.args.ends.now c.args.table.now.rows c.in-Err.bad.row
    c.located-place.result c.in-Err.ensures.first c.located-place.ensures
