use Rattle.std.proofs.Common.{◌≡◌, map, take}
use Rattle.joined_rows.specs.Joined.{joined_row}
use Rattle.joined_rows.proofs.rows.joined_rows.Given as goal

abbrev pub invariant-loop-pair : goal.invariant-loop-pair
invariant-loop-pair l = l.rows ≡ map (joined_row l.rows_r l.rows_s) (take l.pair-index l.pairs)
