-- A worked row: joiner 0 of two, from shift 0, with two feeders and a predicate that is always true.
use Rattle.std.specs.Prelude.{◌≡◌, ◌==◌, ℕ, zero, suc, true, List, [], ◌∷◌, map, refl, if◌then◌else◌}
use Rattle.row_cells.specs.declared.table.Side.TheVariants.{R, S}
use Rattle.epoch_tags.specs.declared.tuple.Tuple.{Tuple}
use Rattle.epoch_tags.specs.declared.tuple.Pair.{Pair}
use Rattle.epoch_tags.specs.declared.message.ToJoiner.{ToJoiner}
use Rattle.epoch_tags.specs.declared.message.ToJoiner.TheVariants.{Tup, Turn, End, Moved, MovedEnd}
use Rattle.joiner_law.specs.Law.{JoinerStart, Taken, opened, shift_after, partner_of, store, found}

-- a tuple of R without cells
abbrev pub r_row : ℕ → ℕ → ℕ → Tuple
r_row index ticket stamp = record { side = R; index = index; ticket = ticket; stamp = stamp; cells = [] }

-- a tuple of S without cells
abbrev pub s_row : ℕ → ℕ → ℕ → Tuple
s_row index ticket stamp = record { side = S; index = index; ticket = ticket; stamp = stamp; cells = [] }

-- what feeder 0 sends, and what the other does
abbrev pub of_feeder : ℕ → List ToJoiner
of_feeder zero = Tup (r_row 0 0 0) ∷ Turn 1 1 ∷ Tup (s_row 1 0 1) ∷ End ∷ []
of_feeder (suc p) = Tup (s_row 0 1 0) ∷ Turn 1 1 ∷ End ∷ []

-- what it sends itself, nothing, and what its partner sends
abbrev pub of_joiner : ℕ → List ToJoiner
of_joiner zero = []
of_joiner (suc q) = Moved 1 (r_row 1 255 0) ∷ MovedEnd 1 ∷ []

-- how joiner 0 begins
abbrev pub joiner_0 : JoinerStart
joiner_0 = record { k = 1; feeders = 2; id = 0; matches = λ r q. true; epoch = 0; shift = 0; base = [] }

-- it has taken all of that
abbrev pub all_taken : Taken
all_taken = record { from_feeder = of_feeder; from_joiner = of_joiner; shift_at = λ e. if 1 == e then 1 else 0 }

-- one step to shift 1, with joiner 1
pub row_step : opened joiner_0 all_taken ∷ shift_after joiner_0 all_taken 1 ∷ partner_of joiner_0 all_taken 0 ∷ [] ≡ 1
    ∷ 1 ∷ 1 ∷ []
row_step = refl

-- it ends with two rows of R and one of S, and found (0, 0), (0, 1) and (1, 1)
pub row_store : map (λ x. x.index) (store joiner_0 all_taken 1) ≡ 0 ∷ 1 ∷ 1 ∷ []
row_store = refl

-- the two numbers of a pair
abbrev pub numbers : Pair → ℕ × ℕ
numbers pair = (pair.i, pair.j)

-- each pair is found once
pub row_pairs : map numbers (found joiner_0 all_taken 1) ≡ (0, 0) ∷ (0, 1) ∷ (1, 1) ∷ []
row_pairs = refl
