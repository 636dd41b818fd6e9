-- The text of joined rows: a record of CSV for each pair.
use Rattle.std.specs.Prelude.{ℕ, List, [], ◌++◌, map, flat_map}
use Rattle.std.specs.List.{slice_index_or}
use Rattle.csv.specs.Writing.{default_writer, row_text}
use Rattle.epoch_tags.specs.declared.tuple.Pair.{Pair}
use Rattle.row_cells.specs.declared.table.Cell.{Cell}

-- the texts of the cells of a row
abbrev pub texts_of : List Cell → List (List ℕ)
texts_of row = map (λ cell. cell.text) row

-- the row at a place; one that isn't there has no cell
abbrev pub row_at : List (List Cell) → ℕ → List Cell
row_at rows place = slice_index_or rows place []

-- the fields of the rows of a pair, that of R first
abbrev pub joined_fields : List (List Cell) → List (List Cell) → Pair → List (List ℕ)
joined_fields rows_r rows_s pair = texts_of (row_at rows_r pair.i) ++ texts_of (row_at rows_s pair.j)

-- the record that a writer of csv writes of them by default
abbrev pub row_line : List (List Cell) → List (List Cell) → Pair → List ℕ
row_line rows_r rows_s pair = row_text default_writer (joined_fields rows_r rows_s pair)

-- the lines of pairs, in their order
abbrev pub row_lines : List (List Cell) → List (List Cell) → List Pair → List ℕ
row_lines rows_r rows_s pairs = flat_map (row_line rows_r rows_s) pairs
