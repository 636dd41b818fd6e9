use Rattle.std.proofs.Common.{◌≡◌, drop}
use Rattle.join_plan.specs.Numbers.{joined_fault}
use Rattle.join_plan.proofs.numbers.joined_columns_fault.Given as goal

abbrev pub invariant-loop-column : goal.invariant-loop-column
invariant-loop-column l =
    joined_fault l.tables l.ends (drop l.column-index l.columns) ≡ joined_fault l.tables l.ends l.columns
