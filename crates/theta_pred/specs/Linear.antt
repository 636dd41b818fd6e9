-- Sums of columns of one side, over a row.
use Rattle.std.specs.Prelude.{ℕ, ◌<◌, List, [], ◌∷◌, ℤ, pos, Option, Some, option_and_then, option_map, slice_get, All}
use Rattle.row_cells.specs.declared.table.Cell.{Cell}
use Rattle.theta_pred.specs.declared.atom.Part.{Part}
use Rattle.theta_pred.specs.Sums.{with_sign, plus}

-- the number of a part's cell with its sign, where the cell has one
abbrev pub part_of : Part → List Cell → Option ℤ
part_of part row =
    option_map (with_sign part.minus) (option_and_then (λ cell. cell.num) (slice_get row part.column))

-- the whole number that a sum is over a row, where each of its cells is a number
abbrev pub value_of : List Part → List Cell → Option ℤ
value_of [] row = Some (pos 0)
value_of (part ∷ parts) row = plus (part_of part row) (value_of parts row)

-- the columns are below the width
abbrev pub AreBelow : ℕ → List Part → Type 0
AreBelow width parts = All (λ part. part.column < width) parts
