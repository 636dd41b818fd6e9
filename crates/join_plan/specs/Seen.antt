-- What was read of the files, whatever the shelf tells of them.
use Rattle.std.specs.Prelude.{◌≡◌, ◌^◌, ◌+◌, ℕ, List, [], ◌∷◌, length, take, Option, None, Some, Result, Ok, Err}
use Rattle.std.specs.Prelude.{MatchResult}
use Rattle.join_rows.specs.Records.{table_of}
use Rattle.join_rows.specs.Shelves.{Spot, Tells, Told}
use Rattle.row_cells.specs.declared.table.Side.TheVariants.{S}
use Rattle.row_cells.specs.declared.table.Table.{Table}
use Rattle.join_words.specs.Words.{Asked, AskedChain, chain_of, later_of}
use Rattle.join_plan.specs.declared.fault.Refusal.{Refusal}
use Rattle.join_plan.specs.declared.files.Gathered.{Gathered}
use Rattle.join_plan.specs.declared.files.Tables.{Tables}
use Rattle.join_plan.specs.declared.fitting.Planned.{Planned}
use Rattle.join_plan.specs.declared.waves.InWaves.{InWaves}
use Rattle.join_plan.specs.Files.{Source, later_sources, made_tables, table_found, tables_in}
use Rattle.join_plan.specs.Later.{step, with_third}
use Rattle.join_plan.specs.Plan.{fitted}
use Rattle.join_plan.specs.Refusals.{then_of}
use Rattle.join_plan.specs.Texts.{AreRead, Readings, Trees, trees_of}
use Rattle.join_plan.specs.Waves.{first_wave}

-- a told file begins with these bytes, and they are all of it or one more than the limit
abbrev pub BeginsWith : Told → List ℕ → List ℕ → Type 0
BeginsWith told name seen = (file : List ℕ) → Tells told name file → seen ≡ take (2 ^ 24 + 1) file

-- the answer is that of bytes which were read of the named file, as many as the place in it says
pub record IsSeen (told : Told) (spot : Spot) (source : Source) (result : Result Table Refusal) : Type 0 where
  pub seen : List ℕ
  pub place : spot ≡ Some (source.name, length seen)
  pub first : BeginsWith told source.name seen
  pub answer : result ≡ table_found source.side source.wave (Some seen)

-- these bytes were read of the two files: the shelf stands at their end in S's file, or in R's where that is no table
pub record AreSeen (told : Told) (spot : Spot) (name_r name_s seen_r seen_s : List ℕ) : Type 0 where
  pub first_r : BeginsWith told name_r seen_r
  pub first_s : BeginsWith told name_s seen_s
  pub place : MatchResult (table_of seen_r)
      (λ table. spot ≡ Some (name_s, length seen_s)) (λ fault. spot ≡ Some (name_r, length seen_r))

-- the answer is that of such bytes
pub record TablesSeen (told : Told) (spot : Spot) (name_r name_s : List ℕ)
    (result : Result Tables Refusal) : Type 0 where
  pub seen_r : List ℕ
  pub seen_s : List ℕ
  pub are : AreSeen told spot name_r name_s seen_r seen_s
  pub answer : result ≡ tables_in (Some seen_r) (Some seen_s)

-- the answer is that of such bytes, or made tables
abbrev pub TablesAsked : Told → Spot → Asked → Option ℕ → Result Tables Refusal → Type 0
TablesAsked told spot asked None result = TablesSeen told spot asked.name_r asked.name_s result
TablesAsked told spot asked (Some count) result = result ≡ Ok (made_tables count)

-- the answer is that of bytes which were read of a later file, whose rows stand behind these waves' then
pub record IsNextSeen (told : Told) (spot : Spot) (source : Source) (waves : InWaves)
    (result : Result InWaves Refusal) : Type 0 where
  pub seen : List ℕ
  pub place : spot ≡ Some (source.name, length seen)
  pub first : BeginsWith told source.name seen
  pub answer : result ≡ step source waves (Some seen)

-- of these files, one after the other, bytes were read, and the answer is that of them: at a refusal, or behind the
-- last,
-- the shelf stands at the end of those that were read last, where it stood at last
abbrev pub SeenFrom : Told → Spot → Spot → InWaves → List Source → Result InWaves Refusal → Type 0
SeenFrom told last spot waves [] result = (spot ≡ last) × (result ≡ Ok waves)
SeenFrom told last spot waves (source ∷ sources) result =
    (seen : List ℕ) × BeginsWith told source.name seen × MatchResult (step source waves (Some seen))
    (λ waves'. SeenFrom told (Some (source.name, length seen)) spot waves' sources result)
    (λ refusal. (spot ≡ Some (source.name, length seen)) × (result ≡ Err refusal))

-- behind two tables come the later files, and behind a refusal nothing
abbrev pub LaterSeen : Told → Spot → Spot → Asked → Result Tables Refusal → Result InWaves Refusal → Type 0
LaterSeen told middle spot asked (Err refusal) result = (spot ≡ middle) × (result ≡ Err refusal)
LaterSeen told middle spot asked (Ok tables) result =
    SeenFrom told middle spot (first_wave tables) (later_sources 2 (later_of asked.kind)) result

-- a third table is that of bytes which were read of the third file; where there is none, the shelf stands as it stood
abbrev pub ThirdSeen : Told → Spot → Spot → Option AskedChain → Result (Option Table) Refusal → Type 0
ThirdSeen told middle spot None result = (spot ≡ middle) × (result ≡ Ok None)
ThirdSeen told middle spot (Some chain) result = (table : Result Table Refusal)
    × IsSeen told spot (record { side = S; wave = 2; name = chain.name }) table
    × (result ≡ then_of table (λ found. Ok (Some found)))

-- behind the tables of all waves comes the third, and behind a refusal nothing
abbrev pub AllSeen : Told → Spot → Spot → Option AskedChain → Result InWaves Refusal → Result Gathered Refusal → Type 0
AllSeen told middle spot chain (Err refusal) result = (spot ≡ middle) × (result ≡ Err refusal)
AllSeen told middle spot chain (Ok waves) result = (third : Result (Option Table) Refusal)
    × ThirdSeen told middle spot chain third × (result ≡ with_third waves third)

-- the answer is that of bytes which were read of the later files and of the third, one after the other, behind these
-- two tables or a refusal
pub record BehindSeen (told : Told) (begun spot : Spot) (asked : Asked) (tables : Result Tables Refusal)
    (result : Result Gathered Refusal) : Type 0 where
  pub middle : Spot
  pub waves : Result InWaves Refusal
  pub later : LaterSeen told begun middle asked tables waves
  pub third : AllSeen told middle spot (chain_of asked.kind) waves result

-- the answer is that of bytes which were read of the files, one after the other, or of made tables
pub record GatheredSeen (told : Told) (spot : Spot) (asked : Asked) (result : Result Gathered Refusal) : Type 0 where
  pub middle : Spot
  pub tables : Result Tables Refusal
  pub first : TablesAsked told middle asked asked.make tables
  pub behind : BehindSeen told middle spot asked tables result

-- the plan, or the refusal, is that of such bytes
pub record PlanSeen (told : Told) (spot : Spot) (asked : Asked) (trees : Trees)
    (result : Result Planned Refusal) : Type 0 where
  pub found : Result Gathered Refusal
  pub seen : GatheredSeen told spot asked found
  pub answer : result ≡ then_of found (fitted trees)

-- of texts with these trees the answer is that of what was read of the files, and of a text without one its refusal
abbrev pub SeenBehind : Told → Spot → Asked → Result Trees Refusal → Result Planned Refusal → Type 0
SeenBehind told spot asked (Ok trees) result = PlanSeen told spot asked trees result
SeenBehind told spot asked (Err refusal) result = result ≡ Err refusal

-- the answer is that of the texts, as they read, and behind them that of what was read of the files
pub record IsSeenPlan (told : Told) (spot : Spot) (asked : Asked) (result : Result Planned Refusal) : Type 0 where
  pub readings : Readings
  pub read : AreRead asked readings
  pub seen : SeenBehind told spot asked (trees_of readings) result
