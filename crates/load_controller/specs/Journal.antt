-- The lawful journal. A past is the lines so far, the latest first.
use Rattle.std.specs.Prelude.{◌≡◌, ℕ, ◌+◌, ◌*◌, ◌/◌, ◌^◌, ◌<◌, ◌≤◌, ◌==◌, nat_lt, nat_le, Bool, true, false, not, ◌&&◌}
use Rattle.std.specs.Prelude.{◌||◌, IsTrue, ⊤, Option, Some, None, is_none, unwrap_or, List, [], ◌∷◌, ◌++◌, map}
use Rattle.std.specs.Prelude.{reverse, length, filter, if◌then◌else◌}
use Rattle.std.specs.List.{list_any}
use Rattle.row_cells.specs.Lists.{IsPrefix}
use Rattle.grid_map.specs.declared.cost.Weights.{Weights}
use Rattle.grid_map.specs.Load.{best_shift, HasFewest}
use Rattle.migration_plan.specs.Steps.{next_step}
use Rattle.load_controller.specs.declared.line.Cause.{Cause}
use Rattle.load_controller.specs.declared.line.Cause.TheVariants.{Start, Wave, Count, Settle, Drain}
use Rattle.load_controller.specs.declared.line.TurnLine.{TurnLine}

-- over what a journal is said
pub record Rules : Type 0 where
  pub k : ℕ
  pub feeders : ℕ
  pub fixed : Option ℕ
  -- what a row of each side weighs
  pub weights : Weights

-- ---- what a line's cause tells

-- how many rows of R it counts
abbrev pub counted_r : Cause → ℕ
counted_r Start = 0
counted_r Wave = 0
counted_r (Count feeder dr ds) = dr
counted_r (Settle joiner) = 0
counted_r (Drain feeder) = 0

-- how many rows of S it counts
abbrev pub counted_s : Cause → ℕ
counted_s Start = 0
counted_s Wave = 0
counted_s (Count feeder dr ds) = ds
counted_s (Settle joiner) = 0
counted_s (Drain feeder) = 0

-- whether it is a joiner's
abbrev pub is_settle : Cause → Bool
is_settle Start = false
is_settle Wave = false
is_settle (Count feeder dr ds) = false
is_settle (Settle joiner) = true
is_settle (Drain feeder) = false

-- whether it is joiner j's
abbrev pub is_settle_of : ℕ → Cause → Bool
is_settle_of j Start = false
is_settle_of j Wave = false
is_settle_of j (Count feeder dr ds) = false
is_settle_of j (Settle joiner) = joiner == j
is_settle_of j (Drain feeder) = false

-- whether it is that feeder p has drained
abbrev pub is_drain_of : ℕ → Cause → Bool
is_drain_of p Start = false
is_drain_of p Wave = false
is_drain_of p (Count feeder dr ds) = false
is_drain_of p (Settle joiner) = false
is_drain_of p (Drain feeder) = feeder == p

-- whether it is that rows of feeder p are counted
abbrev pub is_count_of : ℕ → Cause → Bool
is_count_of p Start = false
is_count_of p Wave = false
is_count_of p (Count feeder dr ds) = feeder == p
is_count_of p (Settle joiner) = false
is_count_of p (Drain feeder) = false

-- ---- a step

-- the lines after the one that began the current epoch
abbrev pub since_begun : List TurnLine → List TurnLine
since_begun [] = []
since_begun (line ∷ []) = []
since_begun (line ∷ before ∷ past) = if line.epoch == before.epoch then line ∷ since_begun (before ∷ past) else []

-- how many joiners have settled in the current epoch
abbrev pub settled_count : List TurnLine → ℕ
settled_count past = length (filter (λ line. is_settle line.cause) (since_begun past))

-- joiner j has settled in the current epoch
abbrev pub has_settled : ℕ → List TurnLine → Bool
has_settled j past = list_any (λ line. is_settle_of j line.cause) (since_begun past)

-- the feeder has drained
abbrev pub has_drained : ℕ → List TurnLine → Bool
has_drained p past = list_any (λ line. is_drain_of p line.cause) past

-- the cause is the last joiner's word that the step is settled
abbrev pub ends_step : Rules → List TurnLine → Cause → Bool
ends_step rules past cause = is_settle cause && (settled_count past + 1 == 2 ^ rules.k)

-- ---- a line after the past

-- a side has as many new rows since the last decision as it had then
abbrev pub has_doubled : ℕ → ℕ → Bool
has_doubled base rows = nat_lt base rows && nat_le (2 * base) rows

-- of a cause after a past that begins with the line `before`: a step is open then
abbrev pub is_open : Rules → TurnLine → List TurnLine → Cause → Bool
is_open rules before past cause = before.moving && not (ends_step rules (before ∷ past) cause)

-- and a decision is due
abbrev pub is_due : Rules → TurnLine → List TurnLine → Cause → Bool
is_due rules before past cause =
    not (is_open rules before past cause) && is_none rules.fixed
    && (has_doubled before.base_r (before.rows_r + counted_r cause)
    || has_doubled before.base_s (before.rows_s + counted_s cause))

-- the line that it makes
abbrev pub line_after : Rules → TurnLine → List TurnLine → Cause → TurnLine
line_after rules before past cause =
    let rows_r = before.rows_r + counted_r cause in
    let rows_s = before.rows_s + counted_s cause in
    let opens = is_open rules before past cause in
    let decides = is_due rules before past cause in
    let goal =
    if decides then best_shift rules.k before.shift (rules.weights.r * rows_r) (rules.weights.s * rows_s)
    else before.goal in
    let steps = not opens && not (before.shift == goal) in
    record {
      cause = cause;
      rows_r = rows_r;
      rows_s = rows_s;
      base_r = if decides then rows_r else before.base_r;
      base_s = if decides then rows_s else before.base_s;
      epoch = if steps then before.epoch + 1 else before.epoch;
      shift = if steps then next_step before.shift goal else before.shift;
      goal = goal;
      moving = opens || steps;
    }

-- how many lines have a due decision
abbrev pub due_lines : Rules → List TurnLine → ℕ
due_lines rules [] = 0
due_lines rules (line ∷ []) = 0
due_lines rules (line ∷ before ∷ past) =
    due_lines rules (before ∷ past) + (if is_due rules before past line.cause then 1 else 0)

-- the causes that may come: a feeder's at any time, a joiner's once in each step
abbrev pub IsAllowed : Rules → TurnLine → List TurnLine → Cause → Type 0
IsAllowed rules before past Start = ⊥
IsAllowed rules before past Wave = ⊥
IsAllowed rules before past (Count feeder dr ds) = feeder < rules.feeders
IsAllowed rules before past (Settle joiner) =
    (joiner < 2 ^ rules.k) × IsTrue before.moving × IsTrue (not (has_settled joiner (before ∷ past)))
IsAllowed rules before past (Drain feeder) = feeder < rules.feeders

-- ---- a journal

-- a past that begins with this first line, and whose every other line follows from the lines before it
abbrev pub Follows : Rules → TurnLine → List TurnLine → Type 0
Follows rules first [] = ⊥
Follows rules first (line ∷ []) = line ≡ first
Follows rules first (line ∷ before ∷ past) =
    (line ≡ line_after rules before past line.cause) × IsAllowed rules before past line.cause
    × Follows rules first (before ∷ past)

-- the first line of a run
abbrev pub start_line : Rules → TurnLine
start_line rules =
    let shift = unwrap_or rules.fixed (rules.k / 2) in
    record {
      cause = Start;
      rows_r = 0;
      rows_s = 0;
      base_r = 0;
      base_s = 0;
      epoch = 0;
      shift = shift;
      goal = shift;
      moving = false;
    }

-- the causes of feeder p's lines, in order
abbrev pub causes_of : ℕ → List TurnLine → List Cause
causes_of p journal = filter (λ cause. is_count_of p cause || is_drain_of p cause) (map (λ line. line.cause) journal)

-- what they are in the end: one count for each batch, with its numbers of rows, and then that it drained
abbrev pub all_causes : ℕ → List (ℕ × ℕ) → List Cause
all_causes p sizes = map (λ size. Count p size.0 size.1) sizes ++ Drain p ∷ []

-- at every moment: the journal begins with this line, each other follows from those before, and each feeder's causes
-- begin those that it will have
pub record IsLawfulSoFar (rules : Rules) (first : TurnLine) (batches : ℕ → List (ℕ × ℕ))
    (journal : List TurnLine) : Type 0 where
  pub follows : Follows rules first (reverse journal)
  pub counts : (p : ℕ) → p < rules.feeders → IsPrefix (causes_of p journal) (all_causes p (batches p))

-- in the end: each feeder's batches are counted and it has drained, and no step is open
pub record IsLawful (rules : Rules) (first : TurnLine) (batches : ℕ → List (ℕ × ℕ))
    (journal : List TurnLine) : Type 0 where
  pub so_far : IsLawfulSoFar rules first batches journal
  pub counted : (p : ℕ) → p < rules.feeders → causes_of p journal ≡ all_causes p (batches p)
  pub ended : (line : TurnLine) (past : List TurnLine) → reverse journal ≡ line ∷ past → line.moving ≡ false

-- a line from which a controller can begin
pub record Fits (rules : Rules) (line : TurnLine) : Type 0 where
  pub still : line.moving ≡ false
  pub reached : line.goal ≡ line.shift
  pub within : line.shift ≤ rules.k
  pub few_r : line.rows_r ≤ 2 ^ 32
  pub few_s : line.rows_s ≤ 2 ^ 32
  pub base_r : line.base_r ≤ line.rows_r
  pub base_s : line.base_s ≤ line.rows_s
  pub free : rules.fixed ≡ None
      → IsTrue (not (has_doubled line.base_r line.rows_r || has_doubled line.base_s line.rows_s))
      × HasFewest rules.k line.shift (rules.weights.r * line.base_r) (rules.weights.s * line.base_s)
  pub fixed : (shift : ℕ) → rules.fixed ≡ Some shift → line.shift ≡ shift

-- why a first line stands: a run begins, or a wave
abbrev pub IsFirst : Cause → Type 0
IsFirst Start = ⊤
IsFirst Wave = ⊤
IsFirst (Count feeder dr ds) = ⊥
IsFirst (Settle joiner) = ⊥
IsFirst (Drain feeder) = ⊥

-- ---- several waves

-- a run begins where no line was made before, and else a wave does
abbrev pub begun_by : Cause → Cause
begun_by Start = Start
begun_by Wave = Wave
begun_by (Count feeder dr ds) = Wave
begun_by (Settle joiner) = Wave
begun_by (Drain feeder) = Wave

-- the first line of a wave that goes on from this line
abbrev pub begun : TurnLine → TurnLine
begun line = record line { cause = begun_by line.cause }

-- the last line of the wave before, once more, as the first line of a wave
abbrev pub goes_on : TurnLine → TurnLine
goes_on line = record line { cause = Wave }

-- the last line of a wave's journal, the wave going on from this line
abbrev pub last_line : TurnLine → List TurnLine → TurnLine
last_line line [] = line
last_line line (next ∷ journal) = last_line next journal

-- the waves of a run, each with the sizes of its feeders' batches and its journal, of which the first wave goes on from
-- this line: each journal is lawful, and the next wave goes on from its last line
abbrev pub AreLawful : Rules → TurnLine → List ((ℕ → List (ℕ × ℕ)) × List TurnLine) → Type 0
AreLawful rules line [] = ⊤
AreLawful rules line ((batches, journal) ∷ waves) =
    IsLawful rules (begun line) batches journal × AreLawful rules (last_line line journal) waves

-- the last line of all waves
abbrev pub last_of : TurnLine → List ((ℕ → List (ℕ × ℕ)) × List TurnLine) → TurnLine
last_of line [] = line
last_of line ((batches, journal) ∷ waves) = last_of (last_line line journal) waves

-- how many lines of all waves have a due decision
abbrev pub due_in : Rules → List ((ℕ → List (ℕ × ℕ)) × List TurnLine) → ℕ
due_in rules [] = 0
due_in rules ((batches, journal) ∷ waves) = due_lines rules (reverse journal) + due_in rules waves

-- ---- what follows from a journal

-- the shift of the lines of an epoch: that of the first of them, or the fallback where there is none
abbrev pub shift_at : ℕ → ℕ → List TurnLine → ℕ
shift_at fallback e [] = fallback
shift_at fallback e (line ∷ journal) = if line.epoch == e then line.shift else shift_at fallback e journal

-- the epochs of feeder p's counts, in order: the stamp of its n-th batch is the n-th of them
abbrev pub count_epochs : ℕ → List TurnLine → List ℕ
count_epochs p journal = map (λ line. line.epoch) (filter (λ line. is_count_of p line.cause) journal)

-- the last epoch; less the first one it is the number of migrations
abbrev pub last_epoch : List TurnLine → ℕ
last_epoch [] = 0
last_epoch (line ∷ []) = line.epoch
last_epoch (line ∷ next ∷ journal) = last_epoch (next ∷ journal)
