-- Rows without a bad cell in a column.
use Rattle.std.proofs.Common.{◌≡◌, ◌≤◌, ◌<◌, ◌+◌, ◌∙◌, ◌⊎◌, inl, inr, ℕ, true, false, List, Some, length, arith, sym}
use Rattle.std.proofs.Common.{None, Option, ap, refl, subst}
use Rattle.std.specs.List.{slice_get}
use Rattle.std.proofs.lemmas.Option.{slice_get_past}
use Rattle.row_cells.specs.Cells.{cell_of, text_in}
use Rattle.row_cells.specs.Columns.{IsBad, is_bad}
use Rattle.row_cells.proofs.SharedRows.{cell-is}
use Rattle.row_cells.specs.declared.table.Cell.{Cell}

-- a row whose cell is good
good-row : (column : ℕ) (row : List Cell) (cell : Cell) → slice_get row column ≡ Some cell → is_bad cell ≡ false
    → ¬ (IsBad column row)
good-row column row cell there good bad =
    let same : cell ≡ bad.cell = let e : Some cell ≡ Some bad.cell = sym there ∙ bad.there in cc e in
    let never : false ≡ true = sym good ∙ ap is_bad same ∙ bad.bad in
    cc never

-- what the text of its cell says of a row whose cell, or want of one, is known
of_text : (column : ℕ) (row : List Cell) (text : List ℕ) (found : Option Cell) → slice_get row column ≡ found
    → text ≡ text_in found
    → (is_bad (cell_of text) ≡ false → ¬ (IsBad column row)) × (is_bad (cell_of text) ≡ true → IsBad column row)
of_text column row text None there is = (
  λ good bad. let never : None ≡ Some bad.cell = sym there ∙ bad.there in cc never,
  λ bad. let never : false ≡ true = sym (ap (λ text. is_bad (cell_of text)) is) ∙ bad in cc never,
)
of_text column row text (Some cell) there is =
    let same : cell_of text ≡ cell = ap cell_of is ∙ cell-is cell in (
      λ good. good-row column row cell there (sym (ap is_bad same) ∙ good),
      λ bad. record { cell = cell; there = there; bad = sym (ap is_bad same) ∙ bad },
    )

-- a row whose text in the column is good
pub good-text : (column : ℕ) (row : List Cell) (text : List ℕ) → text ≡ text_in (slice_get row column)
    → is_bad (cell_of text) ≡ false → ¬ (IsBad column row)
good-text column row text is = (of_text column row text (slice_get row column) refl is).0

-- and one whose text isn't
pub bad-text : (column : ℕ) (row : List Cell) (text : List ℕ) → text ≡ text_in (slice_get row column)
    → is_bad (cell_of text) ≡ true → IsBad column row
bad-text column row text is = (of_text column row text (slice_get row column) refl is).1

-- one more such row
pub good-more : (column : ℕ) (rows : List (List Cell)) (place : ℕ) (row : List Cell) → slice_get rows place ≡ Some row
    → ¬ (IsBad column row)
    → ((earlier : ℕ) (other : List Cell) → earlier < place → slice_get rows earlier ≡ Some other
    → ¬ (IsBad column other))
    → (earlier : ℕ) (other : List Cell) → earlier < place + 1 → slice_get rows earlier ≡ Some other
    → ¬ (IsBad column other)
good-more column rows place row there good before earlier other h e = elim cases [
  | inl less ↦ before earlier other less e
  | inr same ↦
      let row_is : row ≡ other = let p : Some row ≡ Some other = sym there ∙ sym (ap (slice_get rows) same) ∙ e in
      cc p in
      subst (λ (r : List Cell). ¬ (IsBad column r)) row_is good
]
  where
    cases : (earlier < place) ⊎ (earlier ≡ place)
    cases = grind (arith, h)

-- a row of the list stands below its length
pub row-within : (rows : List (List Cell)) (place : ℕ) (row : List Cell) → slice_get rows place ≡ Some row
    → place < length rows
row-within rows place row e = elim cases [
  | inl less ↦ less
  | inr past ↦ let never = sym (slice_get_past rows place past) ∙ e in cc never
]
  where
    cases : (place < length rows) ⊎ (length rows ≤ place)
    cases = grind arith
