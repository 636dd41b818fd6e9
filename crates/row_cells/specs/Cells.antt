-- The cells of texts, and the number that a cell has.
use Rattle.std.specs.Prelude.{◌≡◌, ◌↔◌, refl, ℕ, ℤ, List, [], length, map, Option, Some, None}
use Rattle.std.specs.List.{AllByRecursion}
use Rattle.row_cells.specs.Numbers.{IsNumber, number_of}
use Rattle.row_cells.specs.declared.table.Cell.{Cell}

-- the cell of a text
abbrev pub cell_of : List ℕ → Cell
cell_of text = record { text = text; num = number_of text; own = refl }

-- the text of a cell, empty where there is no cell
abbrev pub text_in : Option Cell → List ℕ
text_in (Some cell) = cell.text
text_in None = []

-- the row of these fields
abbrev pub cells_of : List (List ℕ) → List Cell
cells_of fields = map cell_of fields

-- a cell has a number where its text writes one, and that number
abbrev pub HasItsNumber : Cell → Type 0
HasItsNumber cell = (number : ℤ) → (cell.num ≡ Some number) ↔ IsNumber cell.text number

-- each row of texts has as many as this
abbrev pub AreWide : ℕ → List (List (List ℕ)) → Type 0
AreWide width rows = AllByRecursion (λ row. length row ≡ width) rows
