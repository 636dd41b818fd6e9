-- The tables that the generator makes.
use Rattle.std.specs.Prelude.{ℕ, ◌+◌, ◌*◌, ◌%◌, List, [], ◌∷◌, map, codes}
use Rattle.std.specs.Fmt.{decimal}
use Rattle.std.specs.List.{range_with_len}
use Rattle.row_cells.specs.Cells.{cells_of}
use Rattle.row_cells.specs.declared.table.Side.{Side}
use Rattle.row_cells.specs.declared.table.Side.TheVariants.{R, S}
use Rattle.row_cells.specs.declared.table.Table.{Table}

-- the three names of the header
abbrev pub made_names : List (List ℕ)
made_names = codes "id" ∷ codes "key" ∷ codes "val" ∷ []

-- the numbers under them in the row at place i, counted from 0
abbrev pub made_id : ℕ → ℕ
made_id i = i + 1

-- the key of a made row
abbrev pub made_key : Side → ℕ → ℕ
made_key R i = 7 * i % 1000
made_key S i = 11 * i % 1000

-- its value
abbrev pub made_val : Side → ℕ → ℕ
made_val R i = i % 97
made_val S i = i % 89

-- the row at place i: each number in decimal
abbrev pub made_fields : Side → ℕ → List (List ℕ)
made_fields side i = decimal (made_id i) ∷ decimal (made_key side i) ∷ decimal (made_val side i) ∷ []

-- the table of so many rows
abbrev pub made_table : Side → ℕ → Table
made_table side count = record {
  names = made_names;
  rows = map (λ i. cells_of (made_fields side i)) (range_with_len 0 count);
}
