use Rattle.std.proofs.Common.{◌≡◌, take}
use Rattle.group_split.proofs.parts.rows_of.Given as goal

abbrev pub invariant-loop-row : goal.invariant-loop-row
invariant-loop-row l = l.copy ≡ take l.row-index l.row-items
