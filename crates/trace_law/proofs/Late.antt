-- A finished family of two joiners and two feeders with one migration. The first feeder turns before it sends a row,
-- the second sends rows of the old epoch before it turns, and joiner 1 moves one of them to joiner 0. Each link has an
-- order of its own: the old rows may come after the first turn, and what is moved before any turn. Here are the lists.
use Rattle.std.proofs.Common.{ℕ, zero, suc, List, [], ◌∷◌, ◌++◌, None}
use Rattle.std.specs.Prelude.{map, reverse}
use Rattle.row_cells.specs.declared.table.Side.TheVariants.{R, S}
use Rattle.epoch_tags.specs.declared.tuple.Tuple.{Tuple}
use Rattle.epoch_tags.specs.declared.tuple.Pair.{Pair}
use Rattle.epoch_tags.specs.declared.message.ToJoiner.{ToJoiner}
use Rattle.epoch_tags.specs.declared.message.ToJoiner.TheVariants.{Tup, Turn, End, Moved, MovedEnd}
use Rattle.epoch_tags.specs.declared.message.ToFeeder.{ToFeeder}
use Rattle.epoch_tags.specs.declared.message.ToFeeder.TheVariants.{Order, Grant, Stop}
use Rattle.epoch_tags.specs.declared.message.ToController.{ToController}
use Rattle.epoch_tags.specs.declared.message.ToController.TheVariants.{Ask, Drained, Settled}
use Rattle.epoch_tags.specs.declared.message.ToCollector.{ToCollector}
use Rattle.epoch_tags.specs.declared.message.ToCollector.TheVariants.{Found, Fin}
use Rattle.theta_pred.specs.Formula.{every, no_formula}
use Rattle.row_tickets.specs.declared.place.Feed.TheVariants.{RFirst}
use Rattle.joiner_law.specs.Law.{Taken}
use Rattle.load_controller.specs.declared.line.Cause.TheVariants.{Count, Settle, Drain}
use Rattle.load_controller.specs.declared.line.TurnLine.{TurnLine}
use Rattle.load_controller.specs.Journal.{start_line}
use Rattle.load_controller.specs.Worked.{past_of}
use Rattle.trace_law.specs.declared.input.Input.{Input}
use Rattle.trace_law.specs.declared.setting.Setting.{Setting}
use Rattle.trace_law.specs.Family.{Family, rules_of}

-- two rows of R and three of S, and a predicate that is always true
abbrev pub input : Input
input = record {
  table_r = record { names = []; rows = [] ∷ [] ∷ [] };
  table_s = record { names = []; rows = [] ∷ [] ∷ [] ∷ [] };
  theta = record { formula = every no_formula; width_r = 0; width_s = 0 };
  tickets_r = 0 ∷ 200 ∷ [];
  tickets_s = 0 ∷ 1 ∷ 3 ∷ [];
}

-- two joiners and two feeders, batches of three rows
abbrev pub setting : Setting
setting =
    record {
      k = 1;
      feeders = 2;
      workers = 1;
      batch = 3;
      feed = RFirst;
      fixed = None;
      weights = record { r = 1; s = 1 };
    }

-- the second feeder's batch is counted first, and that of the first begins the step
abbrev pub journal : List TurnLine
journal =
    reverse
    (past_of (rules_of setting) (start_line (rules_of setting)) []
    (Count 1 1 1 ∷ Count 0 1 2 ∷ Drain 1 ∷ Drain 0 ∷ Settle 0 ∷ Settle 1 ∷ []))

-- ---- rows

-- a row of R
abbrev pub r_row : ℕ → ℕ → ℕ → Tuple
r_row index ticket stamp = record { side = R; index = index; ticket = ticket; stamp = stamp; cells = [] }

-- a row of S
abbrev pub s_row : ℕ → ℕ → ℕ → Tuple
s_row index ticket stamp = record { side = S; index = index; ticket = ticket; stamp = stamp; cells = [] }

-- the old row that is moved
abbrev pub old_row : Tuple
old_row = r_row 1 200 0

-- ---- the feeders

-- what feeder p receives
abbrev pub orders : ℕ → List ToFeeder
orders zero = Order 1 1 ∷ Grant ∷ Stop ∷ []
orders (suc p) = Grant ∷ Order 1 1 ∷ Stop ∷ []

-- what it sends to the controller
abbrev pub requests : ℕ → List ToController
requests zero = Ask 1 2 ∷ Drained ∷ []
requests (suc p) = Ask 1 1 ∷ Drained ∷ []

-- from feeder p to joiner j
abbrev pub fed : ℕ → ℕ → List ToJoiner
fed zero zero = Turn 1 1 ∷ Tup (r_row 0 0 1) ∷ Tup (s_row 0 0 1) ∷ End ∷ []
fed zero (suc j) = Turn 1 1 ∷ Tup (r_row 0 0 1) ∷ Tup (s_row 2 3 1) ∷ End ∷ []
fed (suc p) zero = Tup (s_row 1 1 0) ∷ Turn 1 1 ∷ End ∷ []
fed (suc p) (suc j) = Tup old_row ∷ Tup (s_row 1 1 0) ∷ Turn 1 1 ∷ End ∷ []

-- ---- the joiners

-- from joiner i to joiner q
abbrev pub passed : ℕ → ℕ → List ToJoiner
passed zero zero = []
passed zero (suc zero) = MovedEnd 1 ∷ []
passed zero (suc (suc q)) = []
passed (suc i) zero = Moved 1 old_row ∷ MovedEnd 1 ∷ []
passed (suc i) (suc q) = []

-- a pair of these numbers
abbrev pub pair : ℕ × ℕ → Pair
pair numbers = record { i = numbers.0; j = numbers.1 }

-- what joiner j finds, message by message
abbrev pub founds : ℕ → List (List Pair)
founds zero = map pair ((1, 0) ∷ (0, 0) ∷ []) ∷ []
founds (suc j) = map pair ((1, 1) ∷ []) ∷ map pair ((1, 2) ∷ (0, 1) ∷ (0, 2) ∷ []) ∷ []

-- its last message
abbrev pub last_words : ℕ → ToCollector
last_words zero = Fin 2 1 (0 ∷ [])
last_words (suc j) = Fin 2 2 (1 ∷ [])

-- all that it sends to the collector
abbrev pub collected : ℕ → List ToCollector
collected j = map Found (founds j) ++ last_words j ∷ []

-- what it takes: the shift of each epoch is its number
abbrev pub taken : ℕ → Taken
taken j = record { from_feeder = λ p. fed p j; from_joiner = λ q. passed q j; shift_at = λ e. e }

-- ---- all of them

-- all lists
abbrev pub family : Family
family = record {
  feeder = λ p. record { received = orders p; to_controller = requests p; to_joiner = fed p };
  joiner = λ j. record {
    from_feeder = λ p. fed p j;
    from_joiner = λ q. passed q j;
    to_joiner = passed j;
    to_controller = Settled 1 ∷ [];
    to_collector = collected j;
  };
  controller =
      record { from_feeder = requests; from_joiner = λ j. Settled 1 ∷ []; to_feeder = orders; journal = journal };
  collector = record { from_joiner = collected };
}
