-- A finished family with two migrations: four joiners, one feeder, batches of four, all rows of R first,
-- eight rows on each side, and a predicate that is always true. First the actors' lists.
use Rattle.std.proofs.Common.{ℕ, ◌+◌, ◌*◌, ◌%◌, ◌==◌, List, [], ◌∷◌, ◌++◌, cond}
use Rattle.std.specs.Prelude.{None, bit_xor, map}
use Rattle.row_cells.specs.declared.table.Side.TheVariants.{R, S}
use Rattle.epoch_tags.specs.declared.tuple.Tuple.{Tuple}
use Rattle.epoch_tags.specs.declared.tuple.Pair.{Pair}
use Rattle.epoch_tags.specs.declared.message.ToJoiner.{ToJoiner}
use Rattle.epoch_tags.specs.declared.message.ToJoiner.TheVariants.{Tup, Turn, End, Moved, MovedEnd}
use Rattle.epoch_tags.specs.declared.message.ToFeeder.{ToFeeder}
use Rattle.epoch_tags.specs.declared.message.ToFeeder.TheVariants.{Order, Grant, Stop}
use Rattle.epoch_tags.specs.declared.message.ToController.{ToController}
use Rattle.epoch_tags.specs.declared.message.ToController.TheVariants.{Ask, Drained, Settled}
use Rattle.epoch_tags.specs.declared.message.ToCollector.{ToCollector}
use Rattle.epoch_tags.specs.declared.message.ToCollector.TheVariants.{Found, Fin}
use Rattle.joiner_law.specs.Law.{Taken}
use Rattle.row_tickets.specs.declared.place.Feed.TheVariants.{RFirst}
use Rattle.trace_law.specs.declared.setting.Setting.{Setting}
use Rattle.trace_law.specs.Family.{Family}
use Rattle.trace_law.specs.Worked.{journal}

-- four joiners and one feeder, batches of four rows
abbrev pub setting : Setting
setting =
    record {
      k = 2;
      feeders = 1;
      workers = 1;
      batch = 4;
      feed = RFirst;
      fixed = None;
      weights = record { r = 1; s = 1 };
    }

-- ---- rows

-- a row of R
abbrev pub r_row : ℕ → Tuple
r_row i = record { side = R; index = i; ticket = 32 * i; stamp = 1; cells = [] }

-- a row of S
abbrev pub s_row : ℕ → ℕ → Tuple
s_row i stamp = record { side = S; index = i; ticket = i; stamp = stamp; cells = [] }

-- ---- the feeder

-- what the feeder receives
abbrev pub orders : List ToFeeder
orders = Order 1 0 ∷ Grant ∷ Grant ∷ Grant ∷ Order 2 1 ∷ Grant ∷ Stop ∷ []

-- what it sends to the controller
abbrev pub requests : List ToController
requests = Ask 4 0 ∷ Ask 4 0 ∷ Ask 0 4 ∷ Ask 0 4 ∷ Drained ∷ []

-- to joiner j: in epoch 1 its row of the 4 by 1 grid and all of S, in epoch 2 its column of the 2 by 2 grid
abbrev pub fed : ℕ → List ToJoiner
fed j =
    Turn 1 0 ∷ Tup (r_row (2 * j)) ∷ Tup (r_row (2 * j + 1)) ∷ Tup (s_row 0 1) ∷ Tup (s_row 1 1) ∷ Tup (s_row 2 1)
    ∷ Tup (s_row 3 1)
    ∷ Turn 2 1 ∷ Tup (s_row (4 + j % 2) 2) ∷ Tup (s_row (6 + j % 2) 2) ∷ End ∷ []

-- ---- the joiners

-- joiner j's partner
abbrev pub other : ℕ → ℕ
other j = bit_xor j 1

-- to its partner, in the second step its rows of R
abbrev pub part : ℕ → List ToJoiner
part j = MovedEnd 1 ∷ Moved 2 (r_row (2 * j)) ∷ Moved 2 (r_row (2 * j + 1)) ∷ MovedEnd 2 ∷ []

-- from joiner j to joiner q
abbrev pub passed : ℕ → ℕ → List ToJoiner
passed j q = cond (q == other j) (part j) []

-- the pairs of row i of R with these rows of S
abbrev pub pairs_with : List ℕ → ℕ → List Pair
pairs_with js i = map (λ j. record { i = i; j = j }) js

-- the pairs of epoch 1, and those of epoch 2
abbrev pub found_first : ℕ → List Pair
found_first j = pairs_with (0 ∷ 1 ∷ 2 ∷ 3 ∷ []) (2 * j) ++ pairs_with (0 ∷ 1 ∷ 2 ∷ 3 ∷ []) (2 * j + 1)

-- the pairs that joiner j finds in epoch 2
abbrev pub found_then : ℕ → List Pair
found_then j =
    let js = (4 + j % 2) ∷ (6 + j % 2) ∷ [] in
    pairs_with js (2 * j)
    ++ (pairs_with js (2 * j + 1) ++ (pairs_with js (2 * other j) ++ pairs_with js (2 * other j + 1)))

-- all that it sends to the collector
abbrev pub collected : ℕ → List ToCollector
collected j = Found (found_first j) ∷ Found (found_then j) ∷ Fin 4 4 (0 ∷ 2 ∷ []) ∷ []

-- what it takes
abbrev pub taken : ℕ → Taken
taken j = record { from_feeder = λ p. fed j; from_joiner = λ q. passed q j; shift_at = λ e. cond (1 == e) 0 1 }

-- ---- all of them

-- all lists
abbrev pub family : Family
family = record {
  feeder = λ p. record { received = orders; to_controller = requests; to_joiner = fed };
  joiner = λ j. record {
    from_feeder = λ p. fed j;
    from_joiner = λ q. passed q j;
    to_joiner = passed j;
    to_controller = Settled 1 ∷ Settled 2 ∷ [];
    to_collector = collected j;
  };
  controller =
      record {
        from_feeder = λ p. requests;
        from_joiner = λ j. Settled 1 ∷ Settled 2 ∷ [];
        to_feeder = λ p. orders;
        journal = journal;
      };
  collector = record { from_joiner = collected };
}
