-- The tables: made, or read of the files.
use Rattle.std.specs.Prelude.{◌+◌, ◌++◌, ℕ, List, [], ◌∷◌, Option, None, Some, Result, Ok, Err}
use Rattle.row_cells.specs.declared.table.Side.{Side}
use Rattle.row_cells.specs.declared.table.Side.TheVariants.{R, S}
use Rattle.row_cells.specs.declared.table.Table.{Table}
use Rattle.join_rows.specs.declared.fault.TableFault.{TableFault}
use Rattle.join_rows.specs.Made.{made_table}
use Rattle.join_rows.specs.Records.{table_of}
use Rattle.join_words.specs.Words.{Asked, AskedChain, AskedWave, chain_of, later_of}
use Rattle.join_plan.specs.declared.fault.Refusal.{Refusal}
use Rattle.join_plan.specs.declared.fault.Refusal.TheVariants.{Read}
use Rattle.join_plan.specs.declared.files.Tables.{Tables}
use Rattle.join_plan.specs.declared.reading.File.{File}
use Rattle.join_plan.specs.Refusals.{file_refusal, then_of}

-- a file that is asked for: its side and its wave, and its name
pub record Source : Type 0 where
  pub side : Side
  pub wave : ℕ
  pub name : List ℕ

-- what a file of the code is
abbrev pub source_of : File → Source
source_of file = record { side = file.side; wave = file.wave; name = file.name.now }

-- the file of R and that of S of a later wave
abbrev pub wave_sources : ℕ → AskedWave → List Source
wave_sources number wave =
    record { side = R; wave = number; name = wave.name_r } ∷ record {
      side = S;
      wave = number;
      name = wave.name_s;
    } ∷ []

-- those of each wave from this number on
abbrev pub later_sources : ℕ → List AskedWave → List Source
later_sources number [] = []
later_sources number (wave ∷ waves) = wave_sources number wave ++ later_sources (number + 1) waves

-- the third file, where there is one: that of S in wave 2
abbrev pub third_source : Option AskedChain → List Source
third_source None = []
third_source (Some chain) = record { side = S; wave = 2; name = chain.name } ∷ []

-- the files that are asked for where no tables are made, in the order in which they are read
abbrev pub sources : Asked → List Source
sources asked =
    record { side = R; wave = 1; name = asked.name_r } ∷ record {
      side = S;
      wave = 1;
      name = asked.name_s;
    } ∷ (later_sources 2 (later_of asked.kind) ++ third_source (chain_of asked.kind))

-- the table of a side's file in a wave, or the refusal that its fault is
abbrev pub or_refused : Side → ℕ → Result Table TableFault → Result Table Refusal
or_refused side wave (Ok table) = Ok table
or_refused side wave (Err fault) = Err (file_refusal side wave fault)

-- the table of a side's file in a wave, where there is one
abbrev pub table_found : Side → ℕ → Option (List ℕ) → Result Table Refusal
table_found side wave None = Err Read
table_found side wave (Some bytes) = or_refused side wave (table_of bytes)

-- what the bytes of a side's file in a wave answer: the table that they are, or the refusal of what is wrong with them;
-- where they weren't read, why
abbrev pub bytes_found : Side → ℕ → Result (List ℕ) Refusal → Result Table Refusal
bytes_found side wave (Ok bytes) = table_found side wave (Some bytes)
bytes_found side wave (Err refusal) = Err refusal

-- two tables, R before S, or the first refusal
abbrev pub both_found : Result Table TableFault → Result Table TableFault → Result Tables Refusal
both_found made_r made_s =
    then_of (or_refused R 1 made_r) (λ r. then_of (or_refused S 1 made_s) (λ s. Ok (record { of_r = r; of_s = s })))

-- the tables in two files, R before S
abbrev pub tables_in : Option (List ℕ) → Option (List ℕ) → Result Tables Refusal
tables_in file_r file_s =
    then_of (table_found R 1 file_r) (λ r. then_of (table_found S 1 file_s) (λ s. Ok (record { of_r = r; of_s = s })))

-- and under two names
abbrev pub tables_of : (List ℕ → Option (List ℕ)) → List ℕ → List ℕ → Result Tables Refusal
tables_of files name_r name_s = tables_in (files name_r) (files name_s)

-- the tables that are made where there are no files
abbrev pub made_tables : ℕ → Tables
made_tables count = record { of_r = made_table R count; of_s = made_table S count }

-- made tables, or those of the two files
abbrev pub tables_by : Option ℕ → (List ℕ → Option (List ℕ)) → List ℕ → List ℕ → Result Tables Refusal
tables_by None files name_r name_s = tables_of files name_r name_s
tables_by (Some count) files name_r name_s = Ok (made_tables count)

-- the table in the third file, where there is one
abbrev pub third_by : Option AskedChain → (List ℕ → Option (List ℕ)) → Result (Option Table) Refusal
third_by None files = Ok None
third_by (Some chain) files = then_of (table_found S 2 (files chain.name)) (λ table. Ok (Some table))
