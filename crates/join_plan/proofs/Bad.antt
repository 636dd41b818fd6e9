-- The first bad cell of a column.
use Rattle.std.proofs.Common.{◌≡◌, ◌<◌, ◌+◌, ℕ, zero, suc, Bool, true, false, List, [], ◌∷◌, drop, get_or, length, refl}
use Rattle.std.proofs.Common.{◌∙◌, ap, Option, Some, None, arith}
use Rattle.std.specs.List.{slice_get}
use Rattle.std.specs.Option.{unwrap_or}
use Rattle.std.proofs.lemmas.Option.{none-some}
use Rattle.row_cells.specs.declared.table.Cell.{Cell}
use Rattle.row_cells.specs.Columns.{IsBad, IsFirstBad, is_bad}
use Rattle.row_cells.specs.declared.table.Side.{Side}
use Rattle.join_plan.specs.declared.fault.InputFault.TheVariants.{Number}
use Rattle.join_plan.specs.declared.fault.InputFault.{InputFault}
use Rattle.join_plan.specs.declared.places.Place.{Place}
use Rattle.join_plan.specs.declared.waves.WaveEnd.{WaveEnd}
use Rattle.join_plan.specs.Located.{located}
use Rattle.join_plan.specs.Numbers.{is_bad_cell, first_bad, column_fault, first_of}

bad_is : (column : ℕ) (row : List Cell) → IsBad column row → is_bad_cell (slice_get row column) ≡ true
bad_is column row bad = ap is_bad_cell bad.there ∙ bad.bad

good_is : (column : ℕ) (row : List Cell) → ¬ (IsBad column row) → is_bad_cell (slice_get row column) ≡ false
good_is column row good = by (slice_get row column) refl
  where
    of : (cell : Cell) → slice_get row column ≡ Some cell → (b : Bool) → is_bad cell ≡ b → is_bad cell ≡ false
    of cell there true bad = absurd (good (record { cell = cell; there = there; bad = bad }))
    of cell there false bad = bad

    by : (found : Option Cell) → slice_get row column ≡ found → is_bad_cell found ≡ false
    by None there = refl
    by (Some cell) there = of cell there (is_bad cell) refl

-- where no row has a bad cell in the column, none is found
pub first_bad-none : (column number : ℕ) (rows : List (List Cell))
    → ((place : ℕ) (row : List Cell) → slice_get rows place ≡ Some row → ¬ (IsBad column row))
    → first_bad column number rows ≡ None
first_bad-none column number [] good = refl
first_bad-none column number (row ∷ rows) good =
    rw (
      good_is column row (good 0 row refl),
      first_bad-none column (number + 1) rows
          (λ place other there. good (suc place) other there),
    ) refl

first_bad-at : (column number : ℕ) (rows : List (List Cell)) (place : ℕ) (row : List Cell)
    → slice_get rows place ≡ Some row → IsBad column row
    → ((earlier : ℕ) (other : List Cell) → earlier < place → slice_get rows earlier ≡ Some other
    → ¬ (IsBad column other))
    → first_bad column number rows ≡ Some (number + place)
first_bad-at column number [] place row there bad before = absurd (none-some row there)
first_bad-at column number (first ∷ rows) zero row there bad before =
    let same : first ≡ row = ap (λ found. unwrap_or found first) there in
    let is : is_bad_cell (slice_get first column) ≡ true = rw same (bad_is column row bad) in
    let sum : number + 0 ≡ number = omega arith in
    rw (is, sum) refl
first_bad-at column number (first ∷ rows) (suc place) row there bad before =
    let is : is_bad_cell (slice_get first column) ≡ false = good_is column first (before 0 first (omega arith) refl) in
    let rest = first_bad-at column (number + 1) rows place row there bad
    (λ earlier other lower at. before (suc earlier) other (omega (arith, lower)) at) in
    let sum : number + suc place ≡ number + 1 + place = omega arith in
    rw (is, sum) rest

-- the first row with a bad cell, counted from 1, is the one that is found
pub first_bad-first : (column : ℕ) (rows : List (List Cell)) (number : ℕ) → IsFirstBad column rows number
    → first_bad column 1 rows ≡ Some number
first_bad-first column rows number first =
    let sum : number ≡ 1 + first.place = omega (arith, first.counted) in
    rw sum (first_bad-at column 1 rows first.place first.row first.there first.bad first.before)

-- a column with no bad cell has no fault
pub no_fault : (side : Side) (wave column : ℕ) (ends : List WaveEnd) (rows : List (List Cell))
    → ((place : ℕ) (row : List Cell) → slice_get rows place ≡ Some row → ¬ (IsBad column row))
    → None ≡ column_fault side wave ends rows column
no_fault side wave column ends rows good = rw (first_bad-none column 1 rows good) refl

-- and one with a first bad cell has that, told of the file that it comes from
pub first_fault : (side : Side) (wave column : ℕ) (ends : List WaveEnd) (rows : List (List Cell)) (number : ℕ)
    (place : Place)
    → IsFirstBad column rows number → place ≡ located side wave 0 ends number
    → Some (Number side place.wave (column + 1) place.row) ≡ column_fault side wave ends rows column
first_fault side wave column ends rows number place first is = rw (first_bad-first column rows number first, is) refl

-- of several columns one with a fault is the first from its place on
pub first_of-here : (fault_of : ℕ → Option InputFault) (columns : List ℕ) (i : ℕ) (fault : InputFault)
    → i < length columns
    → fault_of (get_or columns i 0) ≡ Some fault → first_of fault_of (drop i columns) ≡ Some fault
first_of-here fault_of [] i fault within is = absurd (omega (arith, within))
first_of-here fault_of (column ∷ columns) zero fault within is = rw is refl
first_of-here fault_of (column ∷ columns) (suc i) fault within is =
    first_of-here fault_of columns i fault (omega (arith, within)) is
