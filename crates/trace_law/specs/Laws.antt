-- What every agreeing family keeps to.
use Rattle.std.specs.Prelude.{◌∷◌, length, true, IsSome, ℕ, ◌≡◌, ◌+◌, ◌*◌, ◌^◌, ◌<◌, ◌≤◌, All, Some, List, [], map}
use Rattle.std.specs.Prelude.{reverse}
use Rattle.std.specs.List.{AllByRecursion}
use Rattle.row_cells.specs.declared.table.Side.TheVariants.{R, S}
use Rattle.row_cells.specs.Lists.{SameBag, IsWithinBag}
use Rattle.epoch_tags.specs.declared.tuple.Pair.{Pair}
use Rattle.load_controller.specs.declared.line.TurnLine.{TurnLine}
use Rattle.load_controller.specs.Journal.{IsLawful, IsLawfulSoFar, begun, start_line, last_epoch, due_lines}
use Rattle.pair_collector.specs.Law.{IsComplete, pairs_taken}
use Rattle.pair_collector.specs.Order.{InOrder}
use Rattle.trace_law.specs.declared.input.Input.{Input}
use Rattle.trace_law.specs.Join.{row_count, is_before, nested_loop, wave_pairs}
use Rattle.trace_law.specs.Batches.{size_of}
use Rattle.trace_law.specs.Widths.{HasRow}
use Rattle.pair_collector.specs.declared.collected.Collected.{Collected}
use Rattle.pair_collector.specs.Answer.{Collects}
use Rattle.trace_law.specs.declared.run.Run.{Run}
use Rattle.row_cells.specs.declared.table.Side.{Side}
use Rattle.row_tickets.specs.Share.{share, place_at}
use Rattle.epoch_tags.specs.Messages.{turns, moved_of}
use Rattle.epoch_tags.specs.declared.tuple.Tuple.{Tuple}
use Rattle.epoch_tags.specs.declared.message.ToJoiner.{ToJoiner}
use Rattle.epoch_tags.specs.declared.message.ToJoiner.TheVariants.{Tup, Moved}
use Rattle.trace_law.specs.Runs.{StaysAt, IsRunOf, run_of, AreLawful, journal_of, decisions_in}
use Rattle.joiner_law.specs.Law.{opened, shift_after}
use Rattle.epoch_tags.specs.declared.actor.Actor.TheVariants.{Joiner}
use Rattle.epoch_tags.specs.Links.{HasLink}
use Rattle.trace_law.specs.Stored.{StoresItsRows}
use Rattle.trace_law.specs.declared.setting.Setting.{Setting}
use Rattle.trace_law.specs.Validity.{IsValidInput, IsValidSetting, IsValid}
use Rattle.trace_law.specs.MostEvents.{most_events}
use Rattle.trace_law.specs.Family.{Rest, IsLineFor, IsRestFor, first_rest, own_rows, migrations, Family, IsAgreeing}
use Rattle.trace_law.specs.Family.{joiner_start, IsQuiet, IsFinished, IsAllReceived, NothingWrongIsSent, AnswersTheJoin}
use Rattle.trace_law.specs.Family.{batches, rest_after, rules_of, stamp_at, events}

-- ---- for which inputs

-- what a run takes meets what the laws ask
abbrev pub LimitsSuffice : Type 0
LimitsSuffice =
    (input : Input) (setting : Setting) → IsValidInput input → IsValidSetting setting → IsValid input setting

-- a run begins with a rest that stands for every input, and its wave has all rows: all pairs, and all of each feeder's
-- share
abbrev pub BeginsWithAll : Type 0
BeginsWithAll = (input : Input) (setting : Setting) → IsValid input setting
    → IsRestFor input setting (first_rest setting)
    × (wave_pairs input (first_rest setting).line ≡ nested_loop input)
    × ((p : ℕ)
    → own_rows input setting (first_rest setting).line p
    ≡ share setting.feed setting.feeders p (row_count input R) (row_count input S))

-- ---- at every moment

-- no pair is sent twice, and none is wrong
abbrev pub SendsNothingWrong : Type 0
SendsNothingWrong =
    (input : Input) (setting : Setting) (rest : Rest) (f : Family) → IsValid input setting
    → IsRestFor input setting rest → IsAgreeing input setting rest f → NothingWrongIsSent input setting rest f

-- the collector has taken nothing wrong, and nothing twice
abbrev pub TakesNothingWrong : Type 0
TakesNothingWrong =
    (input : Input) (setting : Setting) (rest : Rest) (f : Family) → IsValid input setting
    → IsRestFor input setting rest → IsAgreeing input setting rest f
    → IsWithinBag (pairs_taken (2 ^ setting.k) f.collector) (wave_pairs input rest.line)

-- a joiner stores what it holds of the rows that were counted
abbrev pub StoresWhatItHolds : Type 0
StoresWhatItHolds =
    (input : Input) (setting : Setting) (rest : Rest) (f : Family) → IsValid input setting
    → IsRestFor input setting rest → (agrees : IsAgreeing input setting rest f)
    → StoresItsRows input setting rest f agrees

-- each row that a feeder or a joiner sent to a joiner has the predicate's width of its side
abbrev pub NoneIsStrange : Type 0
NoneIsStrange =
    (input : Input) (setting : Setting) (rest : Rest) (f : Family) → IsValid input setting
    → IsRestFor input setting rest → IsAgreeing input setting rest f
    → ((p j : ℕ) → p < setting.feeders → j < 2 ^ setting.k
    → AllByRecursion (HasRow input.theta) ((f.feeder p).to_joiner j))
    × ((i j : ℕ) → i < 2 ^ setting.k → j < 2 ^ setting.k
    → AllByRecursion (HasRow input.theta) ((f.joiner i).to_joiner j))

-- between joiners that no link joins nothing is sent
abbrev pub NoLinkNoMessage : Type 0
NoLinkNoMessage =
    (input : Input) (setting : Setting) (rest : Rest) (f : Family) → IsValid input setting
    → IsRestFor input setting rest → IsAgreeing input setting rest f
    → (i j : ℕ) → i < 2 ^ setting.k → j < 2 ^ setting.k → ¬ HasLink setting.k setting.feeders (Joiner i) (Joiner j)
    → ((f.joiner i).to_joiner j ≡ []) × ((f.joiner j).from_joiner i ≡ [])

-- the journal is lawful so far
abbrev pub KeepsALawfulJournal : Type 0
KeepsALawfulJournal =
    (input : Input) (setting : Setting) (rest : Rest) (f : Family) → IsValid input setting
    → IsRestFor input setting rest → IsAgreeing input setting rest f
    → IsLawfulSoFar (rules_of setting) (begun rest.line) (λ p. map size_of (batches input setting rest.line p))
    f.controller.journal

-- a journal that is lawful so far has at most k migrations, and one decision, for each binary digit of the numbers of
-- rows
abbrev pub LawfulIsBounded : Type 0
LawfulIsBounded =
    (input : Input) (setting : Setting) (line : TurnLine) (journal : List TurnLine) → IsValid input setting
    → IsLineFor input setting line
    → IsLawfulSoFar (rules_of setting) (begun line) (λ p. map size_of (batches input setting line p)) journal
    → (a c : ℕ) → row_count input R < 2 ^ a → row_count input S < 2 ^ c
    → (migrations line journal ≤ setting.k * (a + c)) × (due_lines (rules_of setting) (reverse journal) ≤ a + c)

-- neither have the journals of a run's waves together, whose first wave begins with no rows
abbrev pub LawfulRunIsBounded : Type 0
LawfulRunIsBounded = (setting : Setting) (waves : List (Input × List TurnLine)) → IsValidSetting setting
    → AreLawful setting (start_line (rules_of setting)) waves
    → (a c : ℕ) → AllByRecursion (λ wave. (row_count wave.0 R < 2 ^ a) × (row_count wave.0 S < 2 ^ c)) waves
    → (last_epoch (journal_of waves) ≤ setting.k * (a + c)) × (decisions_in setting waves ≤ a + c)

-- where a shift is fixed, no line leaves it and there is no migration
abbrev pub FixedStays : Type 0
FixedStays =
    (input : Input) (setting : Setting) (line : TurnLine) (journal : List TurnLine) → IsValid input setting
    → IsLineFor input setting line
    → IsLawfulSoFar (rules_of setting) (begun line) (λ p. map size_of (batches input setting line p)) journal
    → (shift : ℕ) → setting.fixed ≡ Some shift
    → All (StaysAt line.epoch shift) journal × (last_epoch journal ≡ line.epoch)

-- so its run moves nothing
abbrev pub FixedMovesNothing : Type 0
FixedMovesNothing =
    (input : Input) (setting : Setting) (line : TurnLine) (journal : List TurnLine) (run : Run)
    → IsLineFor input setting line → IsRunOf input setting line journal run
    → (shift : ℕ) → setting.fixed ≡ Some shift → run.moved ≡ []

-- a lawful journal has counted each row
abbrev pub LawfulCountsEachRow : Type 0
LawfulCountsEachRow =
    (input : Input) (setting : Setting) (line : TurnLine) (journal : List TurnLine) → IsValid input setting
    → IsLawful (rules_of setting) (begun line) (λ p. map size_of (batches input setting line p)) journal
    → (side : Side) (index : ℕ) → index < row_count input side
    → IsSome (stamp_at input setting line journal (place_at side index))

-- a family has not more events than this, its journal having that many migrations
abbrev pub EventsAreFew : Type 0
EventsAreFew =
    (input : Input) (setting : Setting) (rest : Rest) (f : Family) → IsValid input setting
    → IsRestFor input setting rest → IsAgreeing input setting rest f
    → events setting f ≤ most_events input setting (migrations rest.line f.controller.journal)

-- what the actors took is determined by the lists, and so are the shifts of the epochs that joiners opened
abbrev pub TakenIsDetermined : Type 0
TakenIsDetermined =
    (input : Input) (setting : Setting) (rest : Rest) (f : Family) → IsValid input setting
    → IsRestFor input setting rest → (one other : IsAgreeing input setting rest f)
    → ((p : ℕ) → p < setting.feeders → one.taken_by_feeder p ≡ other.taken_by_feeder p)
    × ((j p : ℕ) → j < 2 ^ setting.k → p < setting.feeders
    → (one.taken_by_joiner j).from_feeder p ≡ (other.taken_by_joiner j).from_feeder p)
    × ((j i : ℕ) → j < 2 ^ setting.k → i < 2 ^ setting.k
    → (one.taken_by_joiner j).from_joiner i ≡ (other.taken_by_joiner j).from_joiner i)
    × ((j n : ℕ) → j < 2 ^ setting.k → n ≤ opened (joiner_start input setting rest j) (one.taken_by_joiner j)
    → shift_after (joiner_start input setting rest j) (one.taken_by_joiner j) n
    ≡ shift_after (joiner_start input setting rest j) (other.taken_by_joiner j) n)

-- ---- in the end

-- where nothing is under way and no feeder would begin, all is finished
abbrev pub QuietIsFinished : Type 0
QuietIsFinished =
    (input : Input) (setting : Setting) (rest : Rest) (f : Family) → IsValid input setting
    → IsRestFor input setting rest → (agrees : IsAgreeing input setting rest f) → IsQuiet input setting rest f agrees
    → IsFinished input setting rest f agrees

-- where the collector is complete, all is finished
abbrev pub CompleteIsFinished : Type 0
CompleteIsFinished =
    (input : Input) (setting : Setting) (rest : Rest) (f : Family) → IsValid input setting
    → IsRestFor input setting rest → (agrees : IsAgreeing input setting rest f) → IsComplete (2 ^ setting.k) f.collector
    → IsFinished input setting rest f agrees

-- a finished family has received all that was sent
abbrev pub FinishedReceivesAll : Type 0
FinishedReceivesAll =
    (input : Input) (setting : Setting) (rest : Rest) (f : Family) → IsValid input setting
    → IsRestFor input setting rest → (agrees : IsAgreeing input setting rest f) → IsFinished input setting rest f agrees
    → IsAllReceived setting f

-- a finished family has the nested loop's answer, and its numbers
abbrev pub AnswersInTheEnd : Type 0
AnswersInTheEnd =
    (input : Input) (setting : Setting) (rest : Rest) (f : Family) → IsValid input setting
    → IsRestFor input setting rest → (agrees : IsAgreeing input setting rest f) → IsFinished input setting rest f agrees
    → AnswersTheJoin input setting rest f agrees

-- what its collector answers, with its journal, is the run of the input and the setting
abbrev pub FinishedAnswers : Type 0
FinishedAnswers =
    (input : Input) (setting : Setting) (rest : Rest) (f : Family) → IsValid input setting
    → IsRestFor input setting rest → (agrees : IsAgreeing input setting rest f) → IsFinished input setting rest f agrees
    → (collected : Collected) → Collects (2 ^ setting.k) f.collector collected
    → (bouts : ℕ) → IsRunOf input setting rest.line f.controller.journal (run_of collected f.controller.journal bouts)

-- pairs that are in order and, as a bag, those of the wave, are the wave's
abbrev pub SortsIntoTheLoop : Type 0
SortsIntoTheLoop =
    (input : Input) (line : TurnLine) (pairs : List Pair) → InOrder pairs → SameBag pairs (wave_pairs input line)
    → pairs ≡ wave_pairs input line

-- ---- the premises can be met

-- a finished, quiet family with two migrations
pub record FinishedAfterTwoMigrations : Type 0 where
  pub input : Input
  pub setting : Setting
  pub family : Family
  pub valid : IsValid input setting
  pub agrees : IsAgreeing input setting (first_rest setting) family
  pub finished : IsFinished input setting (first_rest setting) family agrees
  pub quiet : IsQuiet input setting (first_rest setting) family agrees
  pub migrated : last_epoch family.controller.journal ≡ 2

-- such a family leaves a rest that stands for its input, with all rows of both sides, from which a wave can go on
pub record LeavesARest : Type 0 where
  pub input : Input
  pub setting : Setting
  pub family : Family
  pub valid : IsValid input setting
  pub agrees : IsAgreeing input setting (first_rest setting) family
  pub finished : IsFinished input setting (first_rest setting) family agrees
  pub rest : Rest
  pub left : rest ≡ rest_after input setting (first_rest setting) family agrees
  pub stands : IsRestFor input setting rest
  pub eight_r : row_count input R ≡ 8
  pub eight_s : row_count input S ≡ 8
  pub rows_r : rest.line.rows_r ≡ 8
  pub rows_s : rest.line.rows_s ≡ 8
  pub epoch : rest.line.epoch ≡ 2

-- and one of two feeders with one migration, in which joiner 1 moves a row of the old epoch to joiner 0
pub record FinishedWithAnOldRowMoved : Type 0 where
  pub input : Input
  pub setting : Setting
  pub family : Family
  pub valid : IsValid input setting
  pub agrees : IsAgreeing input setting (first_rest setting) family
  pub finished : IsFinished input setting (first_rest setting) family agrees
  pub quiet : IsQuiet input setting (first_rest setting) family agrees
  pub two_feeders : setting.feeders ≡ 2
  pub migrated : last_epoch family.controller.journal ≡ 1
  pub moved : 0 < length (moved_of 1 ((family.joiner 1).to_joiner 0))

-- and an agreeing family on its way: at joiner 1 the first feeder has turned and the second has not, so that the
-- second's rows of the old epoch come late; joiner 1 has moved one of them to joiner 0, which holds it before any step
-- of its own
pub record HoldsAMovedRow : Type 0 where
  pub input : Input
  pub setting : Setting
  pub family : Family
  pub valid : IsValid input setting
  pub agrees : IsAgreeing input setting (first_rest setting) family
  pub first_turned : turns ((agrees.taken_by_joiner 1).from_feeder 0) ≡ 1
  pub second_not : turns ((agrees.taken_by_joiner 1).from_feeder 1) ≡ 0
  pub row : Tuple
  pub old : row.stamp ≡ 0
  pub more : List ToJoiner
  pub late : (agrees.taken_by_joiner 1).from_feeder 1 ≡ Tup row ∷ more
  pub received : (family.joiner 0).from_joiner 1 ≡ Moved 1 row ∷ []
  pub held : (agrees.taken_by_joiner 0).from_joiner 1 ≡ []
  pub not_opened : opened (joiner_start input setting (first_rest setting) 0) (agrees.taken_by_joiner 0) ≡ 0

-- and a finished family of a later wave, in which joiner 1 moves a row from before the wave to joiner 0, with the older
-- stamp that it has, and the pair of the two rows from before it is not found again
pub record FinishedLaterWave : Type 0 where
  pub input : Input
  pub setting : Setting
  pub rest : Rest
  pub family : Family
  pub valid : IsValid input setting
  pub stands : IsRestFor input setting rest
  pub agrees : IsAgreeing input setting rest family
  pub finished : IsFinished input setting rest family agrees
  pub quiet : IsQuiet input setting rest family agrees
  pub migrated : migrations rest.line family.controller.journal ≡ 1
  pub row : Tuple
  pub old : is_before rest.line row.side row.index ≡ true
  pub older : row.stamp < rest.line.epoch
  pub moved : moved_of (rest.line.epoch + 1) ((family.joiner 1).to_joiner 0) ≡ row ∷ []
  pub all_pairs : length (nested_loop input) ≡ 2
  pub pairs : length (wave_pairs input rest.line) ≡ 1
