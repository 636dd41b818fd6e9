use Rattle.std.proofs.Common.{◌≡◌, ℕ, List, map, take}
use Rattle.row_cells.specs.Cells.{cells_of}
use Rattle.row_cells.specs.Shared.{AreRowsOf}
use Rattle.row_cells.proofs.cells.rows_over.Given as goal

abbrev pub invariant-loop-place : goal.invariant-loop-place
invariant-loop-place l = (rows : List (List (List ℕ))) → AreRowsOf rows l.width l.count l.fn.texts
    → l.rows ≡ map cells_of (take l.place rows)
