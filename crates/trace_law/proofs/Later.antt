-- A finished family of two joiners and one feeder that runs a wave over a row of each side from an earlier one. One row
-- of S comes, with it the only migration of the wave, and joiner 1 moves the earlier row of R to joiner 0. The joiners
-- hold the earlier row of S with two stamps. Here are the lists.
use Rattle.std.proofs.Common.{ℕ, zero, suc, ◌-◌, false, List, [], ◌∷◌, ◌++◌, None}
use Rattle.std.specs.Prelude.{map, reverse}
use Rattle.row_cells.specs.declared.table.Side.TheVariants.{R, S}
use Rattle.epoch_tags.specs.declared.tuple.Tuple.{Tuple}
use Rattle.epoch_tags.specs.declared.tuple.Pair.{Pair}
use Rattle.epoch_tags.specs.declared.message.ToJoiner.{ToJoiner}
use Rattle.epoch_tags.specs.declared.message.ToJoiner.TheVariants.{Tup, Turn, End, Moved, MovedEnd}
use Rattle.epoch_tags.specs.declared.message.ToFeeder.{ToFeeder}
use Rattle.epoch_tags.specs.declared.message.ToFeeder.TheVariants.{Order, Grant, Stop}
use Rattle.epoch_tags.specs.declared.message.ToController.{ToController}
use Rattle.epoch_tags.specs.declared.message.ToController.TheVariants.{Ask, Drained, Settled}
use Rattle.epoch_tags.specs.declared.message.ToCollector.{ToCollector}
use Rattle.epoch_tags.specs.declared.message.ToCollector.TheVariants.{Found, Fin}
use Rattle.theta_pred.specs.Formula.{every, no_formula}
use Rattle.row_tickets.specs.declared.place.Feed.TheVariants.{RFirst}
use Rattle.joiner_law.specs.Law.{Taken}
use Rattle.load_controller.specs.declared.line.Cause.TheVariants.{Count, Settle, Drain}
use Rattle.load_controller.specs.declared.line.TurnLine.{TurnLine}
use Rattle.load_controller.specs.Journal.{begun}
use Rattle.load_controller.specs.Worked.{past_of}
use Rattle.trace_law.specs.declared.input.Input.{Input}
use Rattle.trace_law.specs.declared.setting.Setting.{Setting}
use Rattle.trace_law.specs.Family.{Rest, Family, rules_of}

-- one row of R and two of S, and a predicate that is always true
abbrev pub input : Input
input = record {
  table_r = record { names = []; rows = [] ∷ [] };
  table_s = record { names = []; rows = [] ∷ [] ∷ [] };
  theta = record { formula = every no_formula; width_r = 0; width_s = 0 };
  tickets_r = 200 ∷ [];
  tickets_s = 0 ∷ 1 ∷ [];
}

-- two joiners, one feeder, batches of one row
abbrev pub setting : Setting
setting =
    record {
      k = 1;
      feeders = 1;
      workers = 1;
      batch = 1;
      feed = RFirst;
      fixed = None;
      weights = record { r = 1; s = 1 };
    }

-- ---- what was before the wave

-- the earlier row of R, with a stamp before the wave's first epoch
abbrev pub row_r : Tuple
row_r = record { side = R; index = 0; ticket = 200; stamp = 2; cells = [] }

-- a row of S
abbrev pub row_s : ℕ → ℕ → Tuple
row_s index stamp = record { side = S; index = index; ticket = index; stamp = stamp; cells = [] }

-- one row of each side was counted, and the wave goes on in epoch 3
abbrev pub earlier : TurnLine
earlier =
    record {
      cause = Drain 0;
      rows_r = 1;
      rows_s = 1;
      base_r = 1;
      base_s = 1;
      epoch = 3;
      shift = 0;
      goal = 0;
      moving = false;
    }

-- joiner 1 has the row of R, and each joiner that of S, with a stamp of its own
abbrev pub stores : ℕ → List Tuple
stores zero = row_s 0 1 ∷ []
stores (suc j) = row_r ∷ row_s 0 3 ∷ []

-- what the wave begins with
abbrev pub rest : Rest
rest = record { line = earlier; stores = stores }

-- ---- the wave

-- the one batch begins the step
abbrev pub journal : List TurnLine
journal = reverse (past_of (rules_of setting) (begun earlier) [] (Count 0 0 1 ∷ Drain 0 ∷ Settle 0 ∷ Settle 1 ∷ []))

-- what the feeder receives
abbrev pub orders : List ToFeeder
orders = Order 4 1 ∷ Grant ∷ Stop ∷ []

-- what it sends to the controller
abbrev pub requests : List ToController
requests = Ask 0 1 ∷ Drained ∷ []

-- and to joiner j
abbrev pub fed : ℕ → List ToJoiner
fed zero = Turn 4 1 ∷ End ∷ []
fed (suc j) = Turn 4 1 ∷ Tup (row_s 1 4) ∷ End ∷ []

-- from joiner i to joiner q
abbrev pub passed : ℕ → ℕ → List ToJoiner
passed zero zero = []
passed zero (suc zero) = MovedEnd 4 ∷ []
passed zero (suc (suc q)) = []
passed (suc i) zero = Moved 4 row_r ∷ MovedEnd 4 ∷ []
passed (suc i) (suc q) = []

-- the pair with the new row
abbrev pub new_pair : Pair
new_pair = record { i = 0; j = 1 }

-- what joiner j finds, message by message
abbrev pub founds : ℕ → List (List Pair)
founds zero = []
founds (suc j) = (new_pair ∷ []) ∷ []

-- its last message
abbrev pub last_words : ℕ → ToCollector
last_words zero = Fin 1 1 (0 ∷ [])
last_words (suc j) = Fin 1 1 (1 ∷ [])

-- all that it sends to the collector
abbrev pub collected : ℕ → List ToCollector
collected j = map Found (founds j) ++ last_words j ∷ []

-- what it takes: the shift of epoch 3 is 0, that of epoch 4 is 1
abbrev pub taken : ℕ → Taken
taken j = record { from_feeder = λ p. fed j; from_joiner = λ q. passed q j; shift_at = λ e. e - 3 }

-- all lists
abbrev pub family : Family
family = record {
  feeder = λ p. record { received = orders; to_controller = requests; to_joiner = fed };
  joiner = λ j. record {
    from_feeder = λ p. fed j;
    from_joiner = λ q. passed q j;
    to_joiner = passed j;
    to_controller = Settled 4 ∷ [];
    to_collector = collected j;
  };
  controller =
      record {
        from_feeder = λ p. requests;
        from_joiner = λ j. Settled 4 ∷ [];
        to_feeder = λ p. orders;
        journal = journal;
      };
  collector = record { from_joiner = collected };
}
