-- A row of a side in the file that it comes from.
use Rattle.std.specs.Prelude.{◌+◌, ◌-◌, ℕ, List, [], ◌∷◌, if◌then◌else◌, nat_le}
use Rattle.row_cells.specs.declared.table.Side.{Side}
use Rattle.join_plan.specs.declared.places.Place.{Place}
use Rattle.join_plan.specs.declared.waves.WaveEnd.{WaveEnd}
use Rattle.join_plan.specs.Waves.{rows_upto}

-- the wave of this row, where the first wave is this, so many rows stand before it, and the waves from it on end here;
-- and
-- the row in its file. Rows are counted from 1
abbrev pub located : Side → ℕ → ℕ → List WaveEnd → ℕ → Place
located side wave before [] row = record { wave = wave; row = row - before }
located side wave before (end ∷ ends) row =
    if nat_le row (rows_upto side end) then record { wave = wave; row = row - before }
    else located side (wave + 1) (rows_upto side end) ends row
