use Rattle.std.proofs.Common.{◌≡◌, drop}
use Rattle.join_plan.specs.Numbers.{number_fault}
use Rattle.join_plan.proofs.numbers.columns_fault.Given as goal

abbrev pub invariant-loop-column : goal.invariant-loop-column
invariant-loop-column l =
    number_fault l.side l.wave l.ends l.table.rows (drop l.column-index l.columns)
    ≡ number_fault l.side l.wave l.ends l.table.rows l.columns
