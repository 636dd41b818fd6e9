use Rattle.std.proofs.Common.{◌-◌, length}
use Rattle.row_cells.proofs.ShortNumbers.{IsWritten}
use Rattle.row_cells.proofs.number.short_number.Given as goal

abbrev pub invariant-loop-place : goal.invariant-loop-place
invariant-loop-place l = IsWritten l.text l.place l.number

abbrev pub decreases-loop-place : goal.decreases-loop-place
decreases-loop-place l = length l.text - l.place
