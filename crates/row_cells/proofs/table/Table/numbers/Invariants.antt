use Rattle.std.proofs.Common.{◌≡◌, ◌<◌, ◌-◌, ℕ, List, Some, length}
use Rattle.std.specs.List.{slice_get}
use Rattle.row_cells.specs.Columns.{IsBad}
use Rattle.row_cells.specs.declared.table.Cell.{Cell}
use Rattle.row_cells.proofs.table.Table.numbers.Given as goal

abbrev pub invariant-loop-place : goal.invariant-loop-place
invariant-loop-place l = (earlier : ℕ) (other : List Cell) → earlier < l.place
    → slice_get l.self.rows earlier ≡ Some other → ¬ (IsBad l.column other)

abbrev pub decreases-loop-place : goal.decreases-loop-place
decreases-loop-place l = length l.self.rows - l.place
