use Rattle.std.proofs.Common.{◌≡◌, ◌++◌}
use Rattle.join_plan.proofs.rows.appended.Given as goal

abbrev pub invariant-loop-row : goal.invariant-loop-row
invariant-loop-row l = l.all.items ++ l.row-iterator.rest.items ≡ l.fn.rows ++ l.fn.more
