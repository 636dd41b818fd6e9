-- The columns of an equality of a text of R and one of S, and the text of a column.
use Rattle.std.specs.Prelude.{ℕ, List, Option, Some, None, slice_get}
use Rattle.row_cells.specs.Cells.{text_in}
use Rattle.row_cells.specs.declared.table.Cell.{Cell}
use Rattle.row_cells.specs.declared.table.Side.{Side}
use Rattle.row_cells.specs.declared.table.Side.TheVariants.{R, S}
use Rattle.theta_pred.specs.declared.text_atom.TextAtom.{TextAtom}
use Rattle.theta_pred.specs.declared.tree.Column.{Column}

-- two places, where they are of different sides
abbrev pub of_sides : Side → Side → ℕ → ℕ → Option TextAtom
of_sides R S left right = Some (record { r = left; s = right })
of_sides S R left right = Some (record { r = right; s = left })
of_sides _ _ left right = None

-- two columns, where they are of different sides
abbrev pub of_columns : Column → Column → Option TextAtom
of_columns left right = of_sides left.side right.side left.place right.place

-- the text of a row in a column, empty where the row has no such column
abbrev pub text_at : ℕ → List Cell → List ℕ
text_at column row = text_in (slice_get row column)
