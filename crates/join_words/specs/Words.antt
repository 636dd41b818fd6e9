-- What the words of the command line ask for.
use Rattle.std.specs.Prelude.{◌≡◌, ◌≤◌, ◌*◌, ⊤, ℕ, Bool, true, false, List, [], ◌∷◌, length, map, Option, Some, None}
use Rattle.std.specs.Prelude.{IfSome, is_some, Result, Ok, Err, codes, unwrap_or, option_map, nat_le, nat_lt}
use Rattle.std.specs.Prelude.{if◌then◌else◌}
use Rattle.std.specs.Int.{is_power_of_two, trailing_zeros, w64}
use Rattle.std.specs.declared.alloc.Global.{Global}
use Rattle.std.specs.declared.vec.Vec.{Vec}
use Rattle.std.specs.Str.{bytes_eq}
use Rattle.grid_map.specs.Load.{AreWeights}
use Rattle.row_tickets.specs.declared.place.Feed.{Feed}
use Rattle.row_tickets.specs.declared.place.Feed.TheVariants.{Alternate, RFirst, SFirst}
use Rattle.clap.specs.Walk.{Row, Text}
use Rattle.clap.specs.Simple.{matches_of}
use Rattle.clap.specs.Faults.{fault_of}
use Rattle.clap.specs.Kinds.{Kinds}
use Rattle.join_words.specs.Apart.{any_of, apart}
use Rattle.join_words.specs.Command.{jm_command}
use Rattle.join_words.specs.Found.{batch_at, early_at, feeders_at, flag_at, groups_at, grow_at, joiners_at, make_at}
use Rattle.join_words.specs.Found.{names_given, number_at, replay_at, rings_at, text_at, then_at, weights_at}
use Rattle.join_words.specs.Found.{workers_at}
use Rattle.join_words.specs.declared.apart.Given.{Given}
use Rattle.join_words.specs.declared.checks.Begun.{Begun}
use Rattle.join_words.specs.declared.names.Named.{Named}
use Rattle.join_words.specs.declared.kind.Grid.{Grid}
use Rattle.join_words.specs.declared.kind.Wave.{Wave}
use Rattle.join_words.specs.declared.options.Options.{Options}
use Rattle.join_words.specs.declared.options.WordsError.{WordsError}
use Rattle.join_words.specs.declared.options.WordsError.TheVariants.{Fault, Memory}
use Rattle.join_words.specs.declared.options.WordsFault.{WordsFault}
use Rattle.join_words.specs.declared.options.WordsFault.TheVariants.{NoMatch, Joiners, Fixed, Together, Files}
pub use Rattle.join_words.specs.Requests.{AreCounted, AreOptions, Asked, AskedChain, AskedKind, AskedWave}
pub use Rattle.join_words.specs.Requests.{StandTogether}
pub use Rattle.join_words.specs.Requests.{asked_chain, asked_kind, asked_wave, chain_of, early, grid_of, grow_of}
pub use Rattle.join_words.specs.Requests.{in_chain, in_groups, in_waves, is_early, is_over_rings, later_of}
pub use Rattle.join_words.specs.Requests.{members_of, over_rings, replay_of}

-- what these options say
abbrev pub asked : Options → Asked
asked options = record {
  on = options.on.now;
  kind = asked_kind options.kind;
  feeders = options.feeders;
  workers = options.workers;
  batch = options.batch;
  feed = options.feed;
  weights = options.weights;
  seed = options.seed;
  make = options.make;
  report = options.report;
  rows = options.rows;
  name_r = options.name_r.now;
  name_s = options.name_s.now;
}

-- whether no wave is behind so many: twice their number isn't below this number of names
abbrev pub no_wave_behind : Option ℕ → ℕ → Bool
no_wave_behind None names = false
no_wave_behind (Some wave) names = nat_le names (2 * wave)

-- which of the words are given that don't stand together with each other one
abbrev pub given_by : List Row → Given
given_by rows = record {
  fixed = is_some (number_at (codes "fixed") rows);
  replay = is_some (replay_at rows);
  make = is_some (make_at rows);
  early = early_at rows;
  rows = flag_at (codes "rows") rows;
  groups = groups_at rows;
  chain = is_some (then_at rows);
  rings = rings_at rows;
  many_files = nat_lt 2 (length (names_given rows));
  grow = is_some (grow_at rows);
  few_files = no_wave_behind (grow_at rows) (length (names_given rows));
}

-- ---- the checks, in their order

-- one check after another
abbrev pub then_of : {A B : Type 0} → Result A WordsFault → (A → Result B WordsFault) → Result B WordsFault
then_of (Ok x) next = next x
then_of (Err fault) next = Err fault

-- the order in which a feeder takes its rows; a name of none is no match
abbrev pub feed_named : Text → Result Feed WordsFault
feed_named name =
    if bytes_eq name (codes "alternate") then Ok Alternate
    else (if bytes_eq name (codes "rfirst") then Ok RFirst
    else (if bytes_eq name (codes "sfirst") then Ok SFirst
    else Err NoMatch))

-- k of 2^k joiners
abbrev pub exponent_of : ℕ → Result ℕ WordsFault
exponent_of joiners = if is_power_of_two joiners then Ok (trailing_zeros w64 joiners) else Err Joiners

-- a grid that stays is one of 2^k joiners
abbrev pub fixed_within : ℕ → Option ℕ → Result (Option ℕ) WordsFault
fixed_within k None = Ok None
fixed_within k (Some fixed) = if nat_le fixed k then Ok (Some fixed) else Err Fixed

-- the grid of the joiners' number, and of the shift at which it stays, where one is given; groups have one each, and
-- neither is looked at here
abbrev pub grid_by : Bool → ℕ → Option ℕ → Result Grid WordsFault
grid_by true joiners fixed = Ok (record { k = 0; fixed = None })
grid_by false joiners fixed = then_of (exponent_of joiners) (λ k.
    then_of (fixed_within k fixed) (λ fixed. Ok (record { k = k; fixed = fixed })))

-- no two words are given that don't stand together
abbrev pub unless_apart : {A : Type 0} → Given → Result A WordsFault → Result A WordsFault
unless_apart given next = if any_of given apart then Err Together else next

-- the names of the first wave's two files, those of the later waves, and the second join with a third file, where one
-- is asked for
pub record Names : Type 0 where
  pub name_r : Text
  pub name_s : Text
  pub later : List AskedWave
  pub chain : Option AskedChain

-- a wave of these two names
abbrev pub wave_named : Text → Text → AskedWave
wave_named name_r name_s = record { name_r = name_r; name_s = name_s }

-- the later waves of these names, two each, at most three waves
abbrev pub later_names : List Text → Result (List AskedWave) WordsFault
later_names [] = Ok []
later_names (r2 ∷ s2 ∷ []) = Ok (wave_named r2 s2 ∷ [])
later_names (r2 ∷ s2 ∷ r3 ∷ s3 ∷ []) = Ok (wave_named r2 s2 ∷ wave_named r3 s3 ∷ [])
later_names (r2 ∷ s2 ∷ r3 ∷ s3 ∷ r4 ∷ s4 ∷ []) =
    Ok (wave_named r2 s2 ∷ wave_named r3 s3 ∷ wave_named r4 s4 ∷ [])
later_names _ = Err Files

-- two, four, six or eight names, two for each wave
abbrev pub wave_names : List Text → Result Names WordsFault
wave_names (name_r ∷ name_s ∷ rest) =
    then_of (later_names rest) (λ later. Ok (record { name_r = name_r; name_s = name_s; later = later; chain = None }))
wave_names _ = Err Files

-- just three names, the third of a second join with this predicate
abbrev pub three_names : Text → List Text → Result Names WordsFault
three_names on (name_r ∷ name_s ∷ name_q ∷ []) =
    Ok (record { name_r = name_r; name_s = name_s; later = []; chain = Some (record { on = on; name = name_q }) })
three_names on _ = Err Files

-- no name
abbrev pub no_names : List Text → Result Names WordsFault
no_names [] = Ok (record { name_r = []; name_s = []; later = []; chain = None })
no_names _ = Err Files

-- the names of the files, two for each wave; with a second predicate there are three, and where tables are made there
-- is none
abbrev pub names_by : Option ℕ → Option Text → List Text → Result Names WordsFault
names_by (Some count) on names = no_names names
names_by None None names = wave_names names
names_by None (Some on) names = three_names on names

-- what the checks before that of the names find, or the first of them that a match fails
abbrev pub begun_by : List Row → Result Begun WordsFault
begun_by rows =
    then_of (feed_named (text_at (codes "feed") rows)) (λ feed.
    then_of (grid_by (groups_at rows) (joiners_at rows) (number_at (codes "fixed") rows)) (λ grid.
    unless_apart (given_by rows) (Ok (record { feed = feed; grid = grid }))))

-- how the tables are joined where there is no second join: by groups, over rings or early, of which no two are given
-- at once, and else in waves
abbrev pub single_kind : List Row → Grid → List AskedWave → AskedKind
single_kind rows grid later =
    if groups_at rows then in_groups (joiners_at rows)
    else (if rings_at rows then over_rings grid
    else (if early_at rows then early grid
    else in_waves grid (replay_at rows) later (grow_at rows)))

-- how the tables are joined, by a match that passed the checks
abbrev pub kind_by : List Row → Grid → List AskedWave → Option AskedChain → AskedKind
kind_by rows grid later (Some chain) = in_chain grid chain
kind_by rows grid later None = single_kind rows grid later

-- what a match asks for that passed the checks, with what these found
abbrev pub asked_with : List Row → Begun → Names → Asked
asked_with rows begun names = record {
  on = text_at (codes "on") rows;
  kind = kind_by rows begun.grid names.later names.chain;
  feeders = feeders_at rows;
  workers = workers_at rows;
  batch = batch_at rows;
  feed = begun.feed;
  weights = weights_at rows;
  seed = unwrap_or (number_at (codes "seed") rows) 1;
  make = make_at rows;
  report = flag_at (codes "report") rows;
  rows = flag_at (codes "rows") rows;
  name_r = names.name_r;
  name_s = names.name_s;
}

-- what a match asks for, or the first check that it fails
abbrev pub asked_by : List Row → Result Asked WordsFault
asked_by rows =
    then_of (begun_by rows) (λ begun.
    then_of (names_by (make_at rows) (then_at rows) (names_given rows)) (λ names. Ok (asked_with rows begun names)))

-- ---- the words

-- what the match asks for, where there is one
abbrev pub asked_unless : Kinds → List Row → Result Asked WordsFault
asked_unless [] rows = asked_by rows
asked_unless (kind ∷ kinds) rows = Err NoMatch

-- what these words ask for, the program's name first, or the first thing that is wrong with them
unfoldable pub asked_of : List Text → Result Asked WordsFault
asked_of words = asked_unless (fault_of jm_command words) (matches_of jm_command words)

-- the numbers of a match are within the bounds of their arguments
pub record AreBounded (rows : List Row) : Type 0 where
  pub joiners : (1 ≤ joiners_at rows) × (joiners_at rows ≤ 64)
  pub feeders : (1 ≤ feeders_at rows) × (feeders_at rows ≤ 8)
  pub workers : (1 ≤ workers_at rows) × (workers_at rows ≤ 16)
  pub batch : (1 ≤ batch_at rows) × (batch_at rows ≤ 4096)
  pub weights : AreWeights (weights_at rows)
  pub make : IfSome (make_at rows) (λ count. (1 ≤ count) × (count ≤ 65536))
  pub grow : IfSome (grow_at rows) (λ wave. (1 ≤ wave) × (wave ≤ 3))

-- the command has a match for the words, and these are its rows
pub record IsMatch (words : List Text) (rows : List Row) : Type 0 where
  pub no_fault : fault_of jm_command words ≡ []
  pub rows_are : rows ≡ matches_of jm_command words
  pub bounded : AreBounded rows

-- ---- what a call answers

-- what the code's names say
abbrev pub names_of : Named → Names
names_of named = record {
  name_r = named.name_r.now;
  name_s = named.name_s.now;
  later = map asked_wave named.later.items;
  chain = option_map asked_chain named.chain;
}

-- the code's later waves are those, or memory ran out
abbrev pub GivesWaves : Result (List AskedWave) WordsFault → Result (Vec Wave Global) WordsError → Type 0
GivesWaves wanted (Ok later) = wanted ≡ Ok (map asked_wave later.items)
GivesWaves wanted (Err (Fault fault)) = wanted ≡ Err fault
GivesWaves wanted (Err Memory) = ⊤

-- the code's names are those, or memory ran out
abbrev pub GivesFiles : Result Names WordsFault → Result Named WordsError → Type 0
GivesFiles wanted (Ok named) = wanted ≡ Ok (names_of named)
GivesFiles wanted (Err (Fault fault)) = wanted ≡ Err fault
GivesFiles wanted (Err Memory) = ⊤

-- the code's options are those, or memory ran out
abbrev pub Gives : Result Asked WordsFault → Result Options WordsError → Type 0
Gives wanted (Ok options) = wanted ≡ Ok (asked options)
Gives wanted (Err (Fault fault)) = wanted ≡ Err fault
Gives wanted (Err Memory) = ⊤
