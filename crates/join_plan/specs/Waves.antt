-- Where the waves end in the tables.
use Rattle.std.specs.Prelude.{◌≡◌, ◌≤◌, ◌++◌, ℕ, All, AllPairs, List, [], ◌∷◌, length}
use Rattle.row_cells.specs.declared.table.Side.{Side}
use Rattle.row_cells.specs.declared.table.Side.TheVariants.{R, S}
use Rattle.join_plan.specs.declared.files.Tables.{Tables}
use Rattle.join_plan.specs.declared.waves.WaveEnd.{WaveEnd}
use Rattle.join_plan.specs.declared.waves.InWaves.{InWaves}

-- where the tables end
abbrev pub end_of : Tables → WaveEnd
end_of tables = record { rows_r = length tables.of_r.rows; rows_s = length tables.of_s.rows }

-- an end isn't past another, on either side
pub record IsUpTo (end other : WaveEnd) : Type 0 where
  pub rows_r : end.rows_r ≤ other.rows_r
  pub rows_s : end.rows_s ≤ other.rows_s

-- ends rise, and each is within the tables
pub record AreWithin (tables : Tables) (ends : List WaveEnd) : Type 0 where
  pub rising : AllPairs IsUpTo ends
  pub each : All (λ end. IsUpTo end (end_of tables)) ends

-- these are the ends of one to four waves: they rise, each is within the tables, and the last is where the tables end
pub record AreEnds (tables : Tables) (ends : List WaveEnd) : Type 0 where
  pub within : AreWithin tables ends
  pub few : length ends ≤ 4
  pub before : List WaveEnd
  pub last : ends ≡ before ++ end_of tables ∷ []

-- the tables of the first wave alone
abbrev pub first_wave : Tables → InWaves
first_wave tables = record { tables = tables; ends = end_of tables ∷ [] }

-- how many rows of a side there are up to an end
abbrev pub rows_upto : Side → WaveEnd → ℕ
rows_upto R end = end.rows_r
rows_upto S end = end.rows_s
