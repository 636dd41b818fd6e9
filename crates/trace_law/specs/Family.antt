-- Families of lists of one wave, and what is said of them.
use Rattle.std.specs.Prelude.{Option, Some, unwrap_or, ◌≡◌, ℕ, ◌+◌, ◌-◌, ◌^◌, ◌<◌, ◌≤◌, max, not, filter, if◌then◌else◌}
use Rattle.std.specs.Prelude.{◌==◌, ◌⊎◌, Bool, ◌&&◌, slice_index_or, List, [], ◌∷◌, ◌++◌, map, length}
use Rattle.std.specs.List.{range_with_len, sum, AllByRecursion}
use Rattle.row_cells.specs.declared.table.Side.{Side}
use Rattle.row_cells.specs.declared.table.Side.TheVariants.{R, S}
use Rattle.row_cells.specs.declared.table.Cell.{Cell}
use Rattle.row_cells.specs.Lists.{IsPrefix, SameBag, IsWithinBag, gather, counting_from, total}
use Rattle.epoch_tags.specs.declared.actor.Actor.TheVariants.{Joiner}
use Rattle.epoch_tags.specs.Links.{HasLink}
use Rattle.epoch_tags.specs.declared.tuple.Tuple.{Tuple}
use Rattle.epoch_tags.specs.declared.tuple.Pair.{Pair}
use Rattle.epoch_tags.specs.Messages.{asks, draineds, grants, stops, tups, found_before_fin, fins_of, moved_of}
use Rattle.epoch_tags.specs.declared.message.ToCollector.TheVariants.{Fin}
use Rattle.migration_plan.specs.Steps.{holds}
use Rattle.reshuffler_core.specs.Law.{FeederLists, FeederStart, FeederLaw}
use Rattle.epoch_tags.specs.declared.message.ToFeeder.{ToFeeder}
use Rattle.joiner_law.specs.Law.{JoinerLists, JoinerStart, JoinerLaw, Taken, IsFinished as IsFinishedJoiner, opened}
use Rattle.joiner_law.specs.Law.{store}
use Rattle.load_controller.specs.declared.line.Cause.TheVariants.{Start}
use Rattle.load_controller.specs.declared.line.TurnLine.{TurnLine}
use Rattle.load_controller.specs.Journal.{Rules, start_line, begun, goes_on, Fits, IsLawful, shift_at, last_epoch}
use Rattle.load_controller.specs.Law.{ControllerLists, ControllerLaw}
use Rattle.pair_collector.specs.Law.{CollectorLists, pairs_taken, IsComplete}
use Rattle.trace_law.specs.declared.input.Input.{Input}
use Rattle.trace_law.specs.declared.setting.Setting.{Setting}
use Rattle.trace_law.specs.Join.{rows_of, matches_of, ticket_of, row_count, is_before, wave_pairs, made, held, moved}
use Rattle.row_tickets.specs.declared.place.Place.{Place}
use Rattle.row_tickets.specs.Share.{share, place_at}
use Rattle.reshuffler_core.specs.Batches.{cut}
use Rattle.trace_law.specs.Batches.{size_of, stamp_of}

-- ---- how the actors of a run begin

-- the cells of a row; one that isn't there has none
abbrev pub cells_of : Input → Side → ℕ → List Cell
cells_of input side index = slice_index_or (rows_of input side) index []

-- the tuple of a row, with that stamp
abbrev pub tuple_of : Input → ℕ → Place → Tuple
tuple_of input stamp place =
    record {
      side = place.side;
      index = place.index;
      ticket = ticket_of input place.side place.index;
      stamp = stamp;
      cells = cells_of input place.side place.index;
    }

-- ---- a wave

-- what a wave begins with: the line from which its controller goes on, and what each joiner has stored
pub record Rest : Type 0 where
  pub line : TurnLine
  pub stores : ℕ → List Tuple

-- the row at this place is from before the wave
abbrev pub is_old : TurnLine → Place → Bool
is_old line place = is_before line place.side place.index

-- every row of the input
abbrev pub all_places : Input → List Place
all_places input =
    map (place_at R) (range_with_len 0 (row_count input R)) ++ map (place_at S) (range_with_len 0 (row_count input S))

-- the rows from before the wave, with its first epoch as their stamp
abbrev pub old_rows : Input → TurnLine → List Tuple
old_rows input line = map (tuple_of input line.epoch) (filter (is_old line) (all_places input))

-- the tuple, with the wave's first epoch in place of an older stamp that a row from before the wave has
abbrev pub aged : TurnLine → Tuple → Tuple
aged line t = record t { stamp = if is_before line t.side t.index then max line.epoch t.stamp else t.stamp }

-- feeder p's rows of the wave, in the order of the feed
abbrev pub own_rows : Input → Setting → TurnLine → ℕ → List Place
own_rows input setting line p =
    filter (λ place. not (is_old line place))
    (share setting.feed setting.feeders p (row_count input R) (row_count input S))

-- and its batches
abbrev pub batches : Input → Setting → TurnLine → ℕ → List (List Place)
batches input setting line p = cut setting.batch (own_rows input setting line p)

-- the rules of the controller
abbrev pub rules_of : Setting → Rules
rules_of setting = record { k = setting.k; feeders = setting.feeders; fixed = setting.fixed; weights = setting.weights }

-- a run begins with no rows: at the line of its rules, with empty stores
abbrev pub first_rest : Setting → Rest
first_rest setting = record { line = start_line (rules_of setting); stores = λ j. [] }

-- how feeder p begins: at the line's epoch and shift, with its batches
abbrev pub feeder_start : Input → Setting → Rest → ℕ → FeederStart
feeder_start input setting rest p =
    record {
      k = setting.k;
      epoch = rest.line.epoch;
      shift = rest.line.shift;
      batches = map (λ batch. map (tuple_of input 0) batch) (batches input setting rest.line p);
    }

-- how joiner j begins: at the line's epoch and shift, with its store
abbrev pub joiner_start : Input → Setting → Rest → ℕ → JoinerStart
joiner_start input setting rest j =
    record {
      k = setting.k;
      feeders = setting.feeders;
      id = j;
      matches = λ r q. matches_of input r.cells q.cells;
      epoch = rest.line.epoch;
      shift = rest.line.shift;
      base = rest.stores j;
    }

-- a wave of the input can begin with the line: a controller can, a run does where it says so, and the input has the
-- rows
pub record IsLineFor (input : Input) (setting : Setting) (line : TurnLine) : Type 0 where
  pub fits : Fits (rules_of setting) line
  pub begins : line.cause ≡ Start → line ≡ start_line (rules_of setting)
  pub within_r : line.rows_r ≤ row_count input R
  pub within_s : line.rows_s ≤ row_count input S

-- the rest stands for the input: so does its line, and the store of each joiner has, each once, the rows from before
-- the wave that the joiner holds at the line's shift, none with a stamp above the line's epoch
pub record IsRestFor (input : Input) (setting : Setting) (rest : Rest) : Type 0 where
  pub line : IsLineFor input setting rest.line
  pub stored : (j : ℕ) → j < 2 ^ setting.k
      → SameBag (map (aged rest.line) (rest.stores j))
      (filter (holds setting.k rest.line.shift j) (old_rows input rest.line))

-- ---- families

-- what each actor received and sent
pub record Family : Type 0 where
  pub feeder : ℕ → FeederLists
  pub joiner : ℕ → JoinerLists
  pub controller : ControllerLists
  pub collector : CollectorLists

-- each actor keeps its law with what it took, and on each link what was received is a prefix of what was sent
pub record IsAgreeing (input : Input) (setting : Setting) (rest : Rest) (f : Family) : Type 0 where
  pub taken_by_feeder : ℕ → List ToFeeder
  pub taken_by_joiner : ℕ → Taken
  pub feeders : (p : ℕ) → p < setting.feeders
      → FeederLaw (feeder_start input setting rest p) (f.feeder p) (taken_by_feeder p)
  pub joiners : (j : ℕ) → j < 2 ^ setting.k
      → JoinerLaw (joiner_start input setting rest j) (f.joiner j) (taken_by_joiner j)
  pub controller : ControllerLaw (rules_of setting) (begun rest.line) f.controller
  pub feeder_joiner : (p j : ℕ) → p < setting.feeders → j < 2 ^ setting.k
      → IsPrefix ((f.joiner j).from_feeder p) ((f.feeder p).to_joiner j)
  pub joiner_joiner : (i j : ℕ) → i < 2 ^ setting.k → j < 2 ^ setting.k
      → IsPrefix ((f.joiner j).from_joiner i) ((f.joiner i).to_joiner j)
  pub controller_feeder : (p : ℕ) → p < setting.feeders → IsPrefix (f.feeder p).received (f.controller.to_feeder p)
  pub feeder_controller : (p : ℕ) → p < setting.feeders
      → IsPrefix (f.controller.from_feeder p) (f.feeder p).to_controller
  pub joiner_controller : (j : ℕ) → j < 2 ^ setting.k → IsPrefix (f.controller.from_joiner j) (f.joiner j).to_controller
  pub joiner_collector : (j : ℕ) → j < 2 ^ setting.k → IsPrefix (f.collector.from_joiner j) (f.joiner j).to_collector

-- nothing is under way on any link, and no feeder would begin
pub record IsQuiet (input : Input) (setting : Setting) (rest : Rest) (f : Family)
    (agrees : IsAgreeing input setting rest f) : Type 0 where
  pub feeder_joiner : (p j : ℕ) → p < setting.feeders → j < 2 ^ setting.k
      → (f.joiner j).from_feeder p ≡ (f.feeder p).to_joiner j
  pub joiner_joiner : (i j : ℕ) → HasLink setting.k setting.feeders (Joiner i) (Joiner j)
      → (f.joiner j).from_joiner i ≡ (f.joiner i).to_joiner j
  pub controller_feeder : (p : ℕ) → p < setting.feeders → (f.feeder p).received ≡ f.controller.to_feeder p
  pub feeder_controller : (p : ℕ) → p < setting.feeders → f.controller.from_feeder p ≡ (f.feeder p).to_controller
  pub joiner_controller : (j : ℕ) → j < 2 ^ setting.k → f.controller.from_joiner j ≡ (f.joiner j).to_controller
  pub joiner_collector : (j : ℕ) → j < 2 ^ setting.k → f.collector.from_joiner j ≡ (f.joiner j).to_collector
  pub none_begins : (p : ℕ) → p < setting.feeders
      → (0 < draineds (f.feeder p).to_controller)
      ⊎ (grants (agrees.taken_by_feeder p) < asks (f.feeder p).to_controller)

-- all that was sent was received
pub record IsAllReceived (setting : Setting) (f : Family) : Type 0 where
  pub feeder_joiner : (p j : ℕ) → p < setting.feeders → j < 2 ^ setting.k
      → (f.joiner j).from_feeder p ≡ (f.feeder p).to_joiner j
  pub joiner_joiner : (i j : ℕ) → i < 2 ^ setting.k → j < 2 ^ setting.k
      → (f.joiner j).from_joiner i ≡ (f.joiner i).to_joiner j
  pub controller_feeder : (p : ℕ) → p < setting.feeders → (f.feeder p).received ≡ f.controller.to_feeder p
  pub feeder_controller : (p : ℕ) → p < setting.feeders → f.controller.from_feeder p ≡ (f.feeder p).to_controller
  pub joiner_controller : (j : ℕ) → j < 2 ^ setting.k → f.controller.from_joiner j ≡ (f.joiner j).to_controller
  pub joiner_collector : (j : ℕ) → j < 2 ^ setting.k → f.collector.from_joiner j ≡ (f.joiner j).to_collector

-- each feeder has stopped, each joiner is finished, and the collector is complete
pub record IsFinished (input : Input) (setting : Setting) (rest : Rest) (f : Family)
    (agrees : IsAgreeing input setting rest f) : Type 0 where
  pub feeders : (p : ℕ) → p < setting.feeders → 0 < stops (agrees.taken_by_feeder p)
  pub joiners : (j : ℕ) → j < 2 ^ setting.k
      → IsFinishedJoiner (joiner_start input setting rest j) (f.joiner j) (agrees.taken_by_joiner j)
  pub collector : IsComplete (2 ^ setting.k) f.collector

-- ---- what is said of them

-- the shift of each epoch by a journal
abbrev pub shift_by : TurnLine → List TurnLine → ℕ → ℕ
shift_by line journal e = shift_at line.shift e journal

-- the stamp of a row: the wave's first epoch for one from before it, else that of the line which counted its batch
abbrev pub stamp_at : Input → Setting → TurnLine → List TurnLine → Place → Option ℕ
stamp_at input setting line journal place =
    if is_old line place
    then Some line.epoch
    else stamp_of setting.feeders setting.batch (own_rows input setting line) journal place

-- the stamp of each row by a lawful journal, which has counted all
abbrev pub stamp_by : Input → Setting → TurnLine → List TurnLine → Side → ℕ → ℕ
stamp_by input setting line journal side index = unwrap_or (stamp_at input setting line journal (place_at side index)) 0

-- how many migrations a journal has that begins with this line
abbrev pub migrations : TurnLine → List TurnLine → ℕ
migrations line journal = last_epoch journal - line.epoch

-- the shift of each epoch by the family's journal
abbrev pub shift_of : Rest → Family → ℕ → ℕ
shift_of rest f e = shift_by rest.line f.controller.journal e

-- the stamp of each row by the family's journal
abbrev pub stamp_in : Input → Setting → Rest → Family → Side → ℕ → ℕ
stamp_in input setting rest f side index = stamp_by input setting rest.line f.controller.journal side index

-- the pair is this one
abbrev pub is_pair : ℕ → ℕ → Pair → Bool
is_pair i j pair = (pair.i == i) && (pair.j == j)

-- all pairs that joiners have sent
abbrev pub pairs_sent : Setting → Family → List Pair
pairs_sent setting f = gather (2 ^ setting.k) (λ j. found_before_fin (f.joiner j).to_collector)

-- at every moment: the pairs sent are pairs of the nested loop with a row of the wave, and none is sent twice
abbrev pub NothingWrongIsSent : Input → Setting → Rest → Family → Type 0
NothingWrongIsSent input setting rest f = IsWithinBag (pairs_sent setting f) (wave_pairs input rest.line)

-- how many tuples joiner j sent in the step to epoch e, to whichever joiner
abbrev pub moved_by : Setting → Family → ℕ → ℕ → ℕ
moved_by setting f e j = length (gather (2 ^ setting.k) (λ q. moved_of e ((f.joiner j).to_joiner q)))

-- the tuple bears the stamp that the journal gives its row
abbrev pub HasItsStamp : Input → Setting → Rest → Family → Tuple → Type 0
HasItsStamp input setting rest f t =
    stamp_at input setting rest.line f.controller.journal (place_at t.side t.index) ≡ Some t.stamp

-- what a family leaves for the next wave: the last line, and what the joiners have stored
abbrev pub rest_after : (input : Input) (setting : Setting) (rest : Rest) (f : Family) → IsAgreeing input setting rest f
    → Rest
rest_after input setting rest f agrees =
    record {
      line = agrees.controller.line;
      stores =
          λ j.
          store (joiner_start input setting rest j) (agrees.taken_by_joiner j)
          (opened (joiner_start input setting rest j) (agrees.taken_by_joiner j));
    }

-- in the end: the answer is the wave's, the reported numbers are those of the formulas, all that was sent was received,
-- and the stores with the last line are a rest that stands for the input, from which the next wave goes on
pub record AnswersTheJoin (input : Input) (setting : Setting) (rest : Rest) (f : Family)
    (agrees : IsAgreeing input setting rest f) : Type 0 where
  pub journal : IsLawful (rules_of setting) (begun rest.line) (λ p. map size_of (batches input setting rest.line p))
      f.controller.journal
  pub stamps : (p j : ℕ) → p < setting.feeders → j < 2 ^ setting.k
      → AllByRecursion (HasItsStamp input setting rest f) (tups ((f.joiner j).from_feeder p))
  pub pairs : SameBag (pairs_taken (2 ^ setting.k) f.collector) (wave_pairs input rest.line)
  pub made : (j : ℕ) → j < 2 ^ setting.k
      → length (found_before_fin (f.collector.from_joiner j))
      ≡ made input rest.line setting.k (stamp_in input setting rest f) (shift_of rest f) j
  pub held : (j : ℕ) → j < 2 ^ setting.k → let last = last_epoch f.controller.journal in
      fins_of (f.collector.from_joiner j)
      ≡ Fin (held input setting.k (shift_of rest f last) R j) (held input setting.k (shift_of rest f last) S j)
      (map (λ n. moved_by setting f (rest.line.epoch + n + 1) j)
      (counting_from 0 (migrations rest.line f.controller.journal))) ∷ []
  pub moved : (n : ℕ) → n < migrations rest.line f.controller.journal
      → sum (map (moved_by setting f (rest.line.epoch + n + 1)) (range_with_len 0 (2 ^ setting.k)))
      ≡ moved input setting.k (stamp_in input setting rest f) (shift_of rest f) (rest.line.epoch + n + 1)
  pub received : IsAllReceived setting f
  pub again : IsRestFor input setting (rest_after input setting rest f agrees)
  pub next : begun agrees.controller.line ≡ goes_on agrees.controller.line

-- how many events made these lists: each begin sent one request, and each other event received one message
abbrev pub events : Setting → Family → ℕ
events setting f =
    total setting.feeders
    (λ p. length (f.feeder p).to_controller + length (f.feeder p).received + length (f.controller.from_feeder p))
    + total (2 ^ setting.k)
    (λ j. total setting.feeders (λ p. length ((f.joiner j).from_feeder p))
    + total (2 ^ setting.k) (λ i. length ((f.joiner j).from_joiner i)))
    + total (2 ^ setting.k) (λ j. length (f.controller.from_joiner j) + length (f.collector.from_joiner j))
