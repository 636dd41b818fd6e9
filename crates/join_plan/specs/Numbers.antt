-- The cells that a predicate reads as numbers.
use Rattle.std.specs.Prelude.{◌≡◌, ℕ, ◌+◌, ◌-◌, ◌==◌, nat_lt, Bool, false, List, [], ◌∷◌, filter, if◌then◌else◌, length}
use Rattle.std.specs.Prelude.{Option, None, Some, option_map}
use Rattle.std.specs.Option.{option_or}
use Rattle.std.specs.List.{list_any, range_with_len, slice_get}
use Rattle.row_cells.specs.declared.table.Cell.{Cell}
use Rattle.row_cells.specs.declared.table.Table.{Table}
use Rattle.row_cells.specs.declared.table.Side.{Side}
use Rattle.row_cells.specs.declared.table.Side.TheVariants.{R, S}
use Rattle.row_cells.specs.Columns.{is_bad}
use Rattle.theta_pred.specs.Formula.{Meaning}
use Rattle.theta_pred.specs.Numeric.{sum_places}
use Rattle.theta_pred.specs.Truth.{width_of}
use Rattle.join_plan.specs.declared.fault.InputFault.{InputFault}
use Rattle.join_plan.specs.declared.fault.InputFault.TheVariants.{Number}
use Rattle.join_plan.specs.declared.files.Tables.{Tables}
use Rattle.join_plan.specs.declared.fitting.Planned.{Planned}
use Rattle.join_plan.specs.declared.fitting.Third.{Third}
use Rattle.join_plan.specs.declared.places.Place.{Place}
use Rattle.join_plan.specs.declared.waves.WaveEnd.{WaveEnd}
use Rattle.join_plan.specs.Located.{located}

-- whether the row has a cell in this column that isn't empty and is no number
abbrev pub is_bad_cell : Option Cell → Bool
is_bad_cell None = false
is_bad_cell (Some cell) = is_bad cell

-- the number of the first such row, if there is one, where the first is this
abbrev pub first_bad : ℕ → ℕ → List (List Cell) → Option ℕ
first_bad column number [] = None
first_bad column number (row ∷ rows) = if is_bad_cell (slice_get row column) then Some number
    else first_bad column (number + 1) rows

-- the fault of a column and a row, told of the file that the row comes from; rows and columns are counted from 1 in it
abbrev pub fault_at : Side → ℕ → Place → InputFault
fault_at side column place = Number side place.wave (column + 1) place.row

-- the first such row of a column of a side, where the first of its waves is this, and they end here
abbrev pub column_fault : Side → ℕ → List WaveEnd → List (List Cell) → ℕ → Option InputFault
column_fault side wave ends rows column =
    option_map (λ row. fault_at side column (located side wave 0 ends row)) (first_bad column 1 rows)

-- the fault of the first of these columns that has one
abbrev pub first_of : (ℕ → Option InputFault) → List ℕ → Option InputFault
first_of fault_of [] = None
first_of fault_of (column ∷ columns) = option_or (fault_of column) (first_of fault_of columns)

-- that of a side's columns
abbrev pub number_fault : Side → ℕ → List WaveEnd → List (List Cell) → List ℕ → Option InputFault
number_fault side wave ends rows columns = first_of (column_fault side wave ends rows) columns

-- a side's columns that stand in a sum, from the left
abbrev pub summed_columns : Meaning → Side → List ℕ
summed_columns theta side =
    filter (λ column. list_any (λ place. place == column) (sum_places side theta.formula))
    (range_with_len 0 (width_of theta side))

-- the predicate is one over the header of this table
abbrev pub HasWidth : Meaning → Side → Table → Type 0
HasWidth theta side table = width_of theta side ≡ length table.names

-- the first cell of R, or else of S, that is to be a number and is none
abbrev pub first_fault : Tables → List WaveEnd → Meaning → Option InputFault
first_fault tables ends theta =
    option_or (number_fault R 1 ends tables.of_r.rows (summed_columns theta R))
    (number_fault S 1 ends tables.of_s.rows (summed_columns theta S))

-- ---- the second join

-- a column of the joined rows is one of R, or behind these one of S, and its fault is of the file that it comes from
abbrev pub joined_column_fault : Tables → List WaveEnd → ℕ → Option InputFault
joined_column_fault tables ends column =
    if nat_lt column (length tables.of_r.names) then column_fault R 1 ends tables.of_r.rows column
    else column_fault S 1 ends tables.of_s.rows (column - length tables.of_r.names)

-- that of the joined columns
abbrev pub joined_fault : Tables → List WaveEnd → List ℕ → Option InputFault
joined_fault tables ends columns = first_of (joined_column_fault tables ends) columns

-- the first cell of the joined rows' columns, or else of the third file, that is to be a number and is none; all rows
-- of the
-- third file are of wave 2
abbrev pub second_fault : Tables → List WaveEnd → Third → Option InputFault
second_fault tables ends third =
    option_or (joined_fault tables ends (summed_columns third.theta R))
    (number_fault S 2 [] third.table.rows (summed_columns third.theta S))

-- the same of the second join, where there is one
abbrev pub third_fault : Tables → List WaveEnd → Option Third → Option InputFault
third_fault tables ends None = None
third_fault tables ends (Some third) = second_fault tables ends third

-- the first cell of a plan that is to be a number and is none
abbrev pub number_fault_of : Planned → Option InputFault
number_fault_of planned = option_or (first_fault planned.tables planned.ends planned.theta)
    (third_fault planned.tables planned.ends planned.third)
