-- The cells of columns, and the whole numbers that sums of them are.
use Rattle.std.specs.Prelude.{ℕ, Bool, true, false, List, [], ◌∷◌, ℤ, pos, ◌+ℤ◌, neg_ℤ, Option, Some, None}
use Rattle.std.specs.Prelude.{option_and_then, option_map, slice_get}
use Rattle.row_cells.specs.Cells.{text_in}
use Rattle.row_cells.specs.declared.table.Cell.{Cell}
use Rattle.row_cells.specs.declared.table.Side.{Side}
use Rattle.row_cells.specs.declared.table.Side.TheVariants.{R, S}
use Rattle.theta_pred.specs.declared.tree.Column.{Column}
use Rattle.theta_pred.specs.declared.tree.SignedTerm.{SignedTerm}
use Rattle.theta_pred.specs.declared.tree.Number.{Number}
use Rattle.theta_pred.specs.declared.tree.Number.TheVariants as numbers
use Rattle.theta_pred.specs.declared.tree.Text.{Text}
use Rattle.theta_pred.specs.declared.tree.Text.TheVariants as texts

-- the one of two that belongs to a side
abbrev pub of_side : {X : Type 0} → X → X → Side → X
of_side r s R = r
of_side r s S = s

-- the cell of a column in a row of R and a row of S
abbrev pub cell_at : List Cell → List Cell → Column → Option Cell
cell_at r s column = slice_get (of_side r s column.side) column.place

-- the number of a column's cell, where it has one
abbrev pub number_at : List Cell → List Cell → Column → Option ℤ
number_at r s column = option_and_then (λ cell. cell.num) (cell_at r s column)

-- what a term without its sign stands for
abbrev pub number_of : List Cell → List Cell → Number → Option ℤ
number_of r s (numbers.Given value) = Some value
number_of r s (numbers.Cell column) = number_at r s column

-- a number with its sign, turned where there is a minus
abbrev pub with_sign : Bool → ℤ → ℤ
with_sign false value = value
with_sign true value = neg_ℤ value

-- the sum of two numbers, where both are there
abbrev pub plus : Option ℤ → Option ℤ → Option ℤ
plus (Some x) (Some y) = Some (x +ℤ y)
plus _ _ = None

-- what a term with its sign stands for
abbrev pub signed_of : List Cell → List Cell → SignedTerm → Option ℤ
signed_of r s term = option_map (with_sign term.minus) (number_of r s term.number)

-- the whole number that a sum is, where each of its columns has a number
abbrev pub sum_of : List Cell → List Cell → List SignedTerm → Option ℤ
sum_of r s [] = Some (pos 0)
sum_of r s (term ∷ terms) = plus (signed_of r s term) (sum_of r s terms)

-- what a side of a test on texts stands for
abbrev pub text_of : List Cell → List Cell → Text → List ℕ
text_of r s (texts.Given bytes) = bytes
text_of r s (texts.Cell column) = text_in (cell_at r s column)
