use Rattle.std.proofs.Common.{◌≡◌, ◌++◌, take}
use Rattle.row_cells.specs.Cells.{cells_of}
use Rattle.row_cells.proofs.cells.Cells.add_texts.Given as goal

abbrev pub invariant-loop-place : goal.invariant-loop-place
invariant-loop-place l = cells_of l.texts ≡ cells_of l.fn.texts ++ take l.place l.self
