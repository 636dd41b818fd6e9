-- The files of the later waves, whose rows stand behind those of the first, and all that is gathered.
use Rattle.std.specs.Prelude.{◌++◌, ◌+◌, ℕ, Bool, true, false, List, [], ◌∷◌, length, nat_lt, Option, Result, Ok, Err}
use Rattle.row_cells.specs.declared.table.Side.{Side}
use Rattle.row_cells.specs.declared.table.Side.TheVariants.{R, S}
use Rattle.row_cells.specs.declared.table.Table.{Table}
use Rattle.join_rows.specs.Records.{most_rows}
use Rattle.join_words.specs.Words.{Asked, chain_of, later_of}
use Rattle.join_plan.specs.declared.fault.Refusal.{Refusal}
use Rattle.join_plan.specs.declared.fault.Refusal.TheVariants.{Input, Limit}
use Rattle.join_plan.specs.declared.fault.InputFault.TheVariants.{Header}
use Rattle.join_plan.specs.declared.fault.LimitFault.TheVariants.{Total}
use Rattle.join_plan.specs.declared.files.Gathered.{Gathered}
use Rattle.join_plan.specs.declared.files.Tables.{Tables}
use Rattle.join_plan.specs.declared.waves.InWaves.{InWaves}
use Rattle.join_plan.specs.declared.waves.WaveEnd.{WaveEnd}
use Rattle.join_plan.specs.Files.{Source, later_sources, table_found, tables_by, third_by}
use Rattle.join_plan.specs.Headers.{same_names}
use Rattle.join_plan.specs.Refusals.{then_of}
use Rattle.join_plan.specs.Waves.{end_of, first_wave}

-- ---- one later file

-- the side's table
abbrev pub side_of : Side → Tables → Table
side_of R tables = tables.of_r
side_of S tables = tables.of_s

-- the tables with another for a side
abbrev pub with_side : Side → Table → Tables → Tables
with_side R table tables = record { of_r = table; of_s = tables.of_s }
with_side S table tables = record { of_r = tables.of_r; of_s = table }

-- the rows stand behind those of the side, unless there are too many of them in all
abbrev pub unless_past : Side → ℕ → Table → Bool → Table → Result Table Refusal
unless_past side wave first true more = Err (Limit (Total side wave (length first.rows + length more.rows)))
unless_past side wave first false more = Ok (record { names = first.names; rows = first.rows ++ more.rows })

-- the same, unless the file has another header than the first of its side
abbrev pub unless_other : Side → ℕ → Table → Bool → Table → Result Table Refusal
unless_other side wave first false more = Err (Input (Header side wave))
unless_other side wave first true more =
    unless_past side wave first (nat_lt most_rows (length first.rows + length more.rows)) more

-- a side's table with the rows of a later one behind its own
abbrev pub continued : Side → ℕ → Table → Table → Result Table Refusal
continued side wave first more = unless_other side wave first (same_names first.names more.names) more

-- the tables with the rows of a later one
abbrev pub with_rows : Source → Tables → Table → Result Tables Refusal
with_rows source tables more =
    then_of (continued source.side source.wave (side_of source.side tables) more)
    (λ table. Ok (with_side source.side table tables))

-- a wave ends behind its file of S
abbrev pub ended : Side → Tables → List WaveEnd → InWaves
ended R tables ends = record { tables = tables; ends = ends }
ended S tables ends = record { tables = tables; ends = ends ++ end_of tables ∷ [] }

-- the waves with the rows of a later table
abbrev pub with_more : Source → InWaves → Table → Result InWaves Refusal
with_more source waves more =
    then_of (with_rows source waves.tables more) (λ tables. Ok (ended source.side tables waves.ends))

-- and with those of a later file
abbrev pub step : Source → InWaves → Option (List ℕ) → Result InWaves Refusal
step source waves bytes = then_of (table_found source.side source.wave bytes) (with_more source waves)

-- ---- all of them

-- the waves with the rows of these files, one after the other
abbrev pub gathered : (List ℕ → Option (List ℕ)) → InWaves → List Source → Result InWaves Refusal
gathered files waves [] = Ok waves
gathered files waves (source ∷ sources) =
    then_of (step source waves (files source.name)) (λ waves'. gathered files waves' sources)

-- the tables of the first wave, and behind them the rows of the later ones
abbrev pub waves_by : Asked → (List ℕ → Option (List ℕ)) → Tables → Result InWaves Refusal
waves_by asked files tables = gathered files (first_wave tables) (later_sources 2 (later_of asked.kind))

-- the tables of all waves, and then the third
abbrev pub with_third : InWaves → Result (Option Table) Refusal → Result Gathered Refusal
with_third waves third =
    then_of third (λ found. Ok (record { tables = waves.tables; ends = waves.ends; third = found }))

-- behind two tables the later files, and then the third
abbrev pub gathered_behind : Asked → (List ℕ → Option (List ℕ)) → Tables → Result Gathered Refusal
gathered_behind asked files tables =
    then_of (waves_by asked files tables) (λ waves. with_third waves (third_by (chain_of asked.kind) files))

-- all tables that are asked for, or the first refusal
abbrev pub gathered_by : Asked → (List ℕ → Option (List ℕ)) → Result Gathered Refusal
gathered_by asked files =
    then_of (tables_by asked.make files asked.name_r asked.name_s) (gathered_behind asked files)
