-- A column of a table that is to hold numbers.
use Rattle.std.specs.Prelude.{◌≡◌, ◌<◌, ◌+◌, ◌==◌, ◌&&◌, ℕ, Bool, true, not, List, Some, length}
use Rattle.std.specs.List.{slice_get}
use Rattle.std.specs.Option.{is_some}
use Rattle.row_cells.specs.Numbers.{spaces_at}
use Rattle.row_cells.specs.declared.table.Cell.{Cell}

-- whether a cell isn't empty, having other bytes than spaces, and has no number
abbrev pub is_bad : Cell → Bool
is_bad cell = not (spaces_at cell.text == length cell.text) && not (is_some cell.num)

-- the row has such a cell in this column
pub record IsBad (column : ℕ) (row : List Cell) : Type 0 where
  pub cell : Cell
  pub there : slice_get row column ≡ Some cell
  pub bad : is_bad cell ≡ true

-- the row of this number, counted from 1, is the first such
pub record IsFirstBad (column : ℕ) (rows : List (List Cell)) (number : ℕ) : Type 0 where
  pub place : ℕ
  pub row : List Cell
  pub there : slice_get rows place ≡ Some row
  pub bad : IsBad column row
  pub before : (earlier : ℕ) (other : List Cell) → earlier < place → slice_get rows earlier ≡ Some other
      → ¬ (IsBad column other)
  pub counted : number ≡ place + 1
