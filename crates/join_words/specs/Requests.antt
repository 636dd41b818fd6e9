-- What may be asked for.
use Rattle.std.specs.Prelude.{◌≡◌, ◌≤◌, ℕ, Bool, true, false, List, [], length, map, Option, Some, None, IfSome}
use Rattle.grid_map.specs.Load.{AreWeights}
use Rattle.grid_map.specs.declared.cost.Weights.{Weights}
use Rattle.row_tickets.specs.declared.place.Feed.{Feed}
use Rattle.join_words.specs.declared.kind.Chain.{Chain}
use Rattle.join_words.specs.declared.kind.Grid.{Grid}
use Rattle.join_words.specs.declared.kind.Kind.{Kind}
use Rattle.join_words.specs.declared.kind.Kind.TheVariants as runs
use Rattle.join_words.specs.declared.kind.Wave.{Wave}

-- a second join, of the joined rows with a third file: the text of its predicate, and the name of the file
pub record AskedChain : Type 0 where
  pub on : List ℕ
  pub name : List ℕ

-- what such a join of the code says
abbrev pub asked_chain : Chain → AskedChain
asked_chain chain = record { on = chain.on.now; name = chain.name.now }

-- a wave behind the first: the names of its two files
pub record AskedWave : Type 0 where
  pub name_r : List ℕ
  pub name_s : List ℕ

-- what such a wave of the code says
abbrev pub asked_wave : Wave → AskedWave
asked_wave wave = record { name_r = wave.name_r.now; name_s = wave.name_s.now }

-- how the tables are joined: in waves, on a grid, in the order of this seed where they are a replay, with the later
-- waves and after how many waves each joiner splits into four, where they are to; early, the pairs as they are found;
-- by so many joiners in groups; over rings; or in a chain with a second join
pub data AskedKind : Type 0 where
  in_waves : Grid → Option ℕ → List AskedWave → Option ℕ → AskedKind
  early : Grid → AskedKind
  in_groups : ℕ → AskedKind
  over_rings : Grid → AskedKind
  in_chain : Grid → AskedChain → AskedKind

-- what such a kind of the code says
abbrev pub asked_kind : Kind → AskedKind
asked_kind (runs.Waves grid replay later grow) = in_waves grid replay (map asked_wave later.items) grow
asked_kind (runs.Early grid) = early grid
asked_kind (runs.Groups joiners) = in_groups joiners
asked_kind (runs.Rings grid) = over_rings grid
asked_kind (runs.Chain grid chain) = in_chain grid (asked_chain chain)

-- the grid; groups have one each, so theirs is that of a single joiner
abbrev pub grid_of : AskedKind → Grid
grid_of (in_waves grid replay later grow) = grid
grid_of (early grid) = grid
grid_of (in_groups joiners) = record { k = 0; fixed = None }
grid_of (over_rings grid) = grid
grid_of (in_chain grid chain) = grid

-- the later waves
abbrev pub later_of : AskedKind → List AskedWave
later_of (in_waves grid replay later grow) = later
later_of _ = []

-- the seed of the order of a replay, where one is asked for
abbrev pub replay_of : AskedKind → Option ℕ
replay_of (in_waves grid replay later grow) = replay
replay_of _ = None

-- after how many waves each joiner splits into four, where they are to
abbrev pub grow_of : AskedKind → Option ℕ
grow_of (in_waves grid replay later grow) = grow
grow_of _ = None

-- whether the pairs of each bout are wanted early
abbrev pub is_early : AskedKind → Bool
is_early (early grid) = true
is_early _ = false

-- how many joiners there are, where they form groups
abbrev pub members_of : AskedKind → Option ℕ
members_of (in_groups joiners) = Some joiners
members_of _ = None

-- whether messages go over rings
abbrev pub is_over_rings : AskedKind → Bool
is_over_rings (over_rings grid) = true
is_over_rings _ = false

-- the second join, where one is asked for
abbrev pub chain_of : AskedKind → Option AskedChain
chain_of (in_chain grid chain) = Some chain
chain_of _ = None

-- what the words ask for: the predicate's text; how the tables are joined; the feeders; the workers, which are the
-- threads of a run that isn't a replay; how many rows each feeder asks for at once and in which order; what a row of
-- each side weighs in a grid's load; the seed of the tickets; how many rows a side has, where tables are to be made;
-- whether a report is wanted; whether joined rows are; and the names of the first wave's two files, empty where there
-- are none
pub record Asked : Type 0 where
  pub on : List ℕ
  pub kind : AskedKind
  pub feeders : ℕ
  pub workers : ℕ
  pub batch : ℕ
  pub feed : Feed
  pub weights : Weights
  pub seed : ℕ
  pub make : Option ℕ
  pub report : Bool
  pub rows : Bool
  pub name_r : List ℕ
  pub name_s : List ℕ

-- 1 to 8 feeders, 1 to 16 workers, and 1 to 4096 rows in a batch
pub record AreCounted (feeder_count worker_count batch_size : ℕ) : Type 0 where
  pub feeders : (1 ≤ feeder_count) × (feeder_count ≤ 8)
  pub workers : (1 ≤ worker_count) × (worker_count ≤ 16)
  pub batch : (1 ≤ batch_size) × (batch_size ≤ 4096)

-- of how the tables are joined, of how many rows they are made of, where they are, and of whether joined rows are
-- wanted: the bounds of each number; a fixed shift is one of the grid; joiners split behind a wave that isn't the last
-- and with no fixed shift; made tables stand without later waves, early pairs, a second join and joined rows; early
-- pairs and a second join stand without joined rows too
pub record StandTogether (kind : AskedKind) (made : Option ℕ) (joined : Bool) : Type 0 where
  pub small : (grid_of kind).k ≤ 6
  pub fits : IfSome (grid_of kind).fixed (λ fixed. fixed ≤ (grid_of kind).k)
  pub groups : IfSome (members_of kind) (λ joiners. (1 ≤ joiners) × (joiners ≤ 64))
  pub later : length (later_of kind) ≤ 3
  pub grow : IfSome (grow_of kind) (λ wave. (1 ≤ wave) × (wave ≤ length (later_of kind)))
  pub free : IfSome (grow_of kind) (λ _. (grid_of kind).fixed ≡ None)
  pub make : IfSome made (λ count. (1 ≤ count) × (count ≤ 65536))
  pub made_once : IfSome made (λ _. later_of kind ≡ [])
  pub made_whole : IfSome made (λ _. is_early kind ≡ false)
  pub made_rows : IfSome made (λ _. joined ≡ false)
  pub early : is_early kind ≡ true → (made ≡ None) × (joined ≡ false)
  pub chained : IfSome (chain_of kind) (λ _. (made ≡ None) × (joined ≡ false))

-- what may be asked for at once
pub record AreOptions (asked : Asked) : Type 0 where
  pub counted : AreCounted asked.feeders asked.workers asked.batch
  pub weighed : AreWeights asked.weights
  pub together : StandTogether asked.kind asked.make asked.rows
