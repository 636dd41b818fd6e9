-- Worked rows of a later wave, by computation, over the lists in Later.antt: one row of each side is from before the
-- wave, whose first epoch is 3, and one row of S comes in it. Where pairs of older rows are counted again, older rows
-- have no stamp, or stamps above the first epoch are let pass, some of these rows are false.
use Rattle.std.proofs.Common.{◌≡◌, ℕ, zero, suc, ◌<◌, refl, arith, List, [], ◌∷◌}
use Rattle.std.specs.Prelude.{map, Some, true, false}
use Rattle.row_cells.specs.declared.table.Side.TheVariants.{R, S}
use Rattle.row_cells.specs.Lists.{SameBag}
use Rattle.epoch_tags.specs.declared.tuple.Tuple.{Tuple}
use Rattle.epoch_tags.specs.declared.tuple.Pair.{Pair}
use Rattle.row_tickets.specs.Share.{place_at}
use Rattle.joiner_law.specs.Law.{store}
use Rattle.trace_law.specs.Join.{is_before, nested_loop, wave_pairs}
use Rattle.trace_law.specs.Family.{Rest, IsRestFor, old_rows, own_rows, aged, joiner_start, stamp_at}
use Rattle.trace_law.specs.Runs.{made_over}
use Rattle.trace_law.specs.Stored.{counted_rows, rows_held}
use Rattle.trace_law.proofs.Later.{input, setting, row_r, row_s, earlier, stores, rest, journal, new_pair, taken}
use Rattle.trace_law.proofs.Later.{family}

-- ---- pairs

-- the pair of the two rows from before the wave
abbrev pub old_pair : Pair
old_pair = record { i = 0; j = 0 }

-- both pairs match
pub all_pairs : nested_loop input ≡ old_pair ∷ new_pair ∷ []
all_pairs = refl

-- and that of the two older rows isn't counted again
pub pairs_of_the_wave : wave_pairs input earlier ≡ new_pair ∷ []
pairs_of_the_wave = refl

-- so joiner 0 makes none, and joiner 1 the one, whose rows meet there
pub made_in_the_wave : map (made_over input setting earlier journal) (0 ∷ 1 ∷ []) ≡ 0 ∷ 1 ∷ []
made_in_the_wave = refl

-- ---- stamps, and what a joiner holds

-- the index of an older row is below its side's count in the first line
pub older : is_before earlier R 0 ∷ is_before earlier S 0 ∷ is_before earlier S 1 ∷ [] ≡ true ∷ true ∷ false ∷ []
older = refl

-- the feeder deals the row of the wave alone
pub dealt : own_rows input setting earlier 0 ≡ place_at S 1 ∷ []
dealt = refl

-- an older row has the first epoch as its stamp, and the row of the wave that of its count
pub stamps : map (stamp_at input setting earlier journal) (place_at R 0 ∷ place_at S 0 ∷ place_at S 1 ∷ [])
    ≡ Some 3 ∷ Some 3 ∷ Some 4 ∷ []
stamps = refl

-- the older row of R with its stamp
abbrev pub old_r : Tuple
old_r = record row_r { stamp = 3 }

-- the older rows, with that stamp
pub old : old_rows input earlier ≡ old_r ∷ row_s 0 3 ∷ []
old = refl

-- they are among the rows that are counted
pub counted : counted_rows input setting earlier journal ≡ old_r ∷ row_s 0 3 ∷ row_s 1 4 ∷ []
counted = refl

-- in the first epoch joiner 0 holds the one of S
pub held_at_first_by_0 : rows_held input setting rest family 0 0 ≡ row_s 0 3 ∷ []
held_at_first_by_0 = refl

-- and joiner 1 both
pub held_at_first_by_1 : rows_held input setting rest family 0 1 ≡ old_r ∷ row_s 0 3 ∷ []
held_at_first_by_1 = refl

-- after the step joiner 0 holds both
pub held_then_by_0 : rows_held input setting rest family 1 0 ≡ old_r ∷ row_s 0 3 ∷ []
held_then_by_0 = refl

-- and joiner 1 the one of R, with the row of the wave
pub held_then_by_1 : rows_held input setting rest family 1 1 ≡ old_r ∷ row_s 1 4 ∷ []
held_then_by_1 = refl

-- each stores what it holds in the first epoch, older stamps of older rows aside
pub stored_at_first : (j : ℕ) → j < 2
    → SameBag (map (aged earlier) (store (joiner_start input setting rest j) (taken j) 0))
    (rows_held input setting rest family 0 j)
stored_at_first zero low = record { sums = λ f. refl }
stored_at_first (suc zero) low = record { sums = λ f. refl }
stored_at_first (suc (suc j)) low = absurd (omega arith)

-- and after the step
pub stored_then : (j : ℕ) → j < 2
    → SameBag (map (aged earlier) (store (joiner_start input setting rest j) (taken j) 1))
    (rows_held input setting rest family 1 j)
stored_then zero low = record { sums = λ f. omega arith }
stored_then (suc zero) low = record { sums = λ f. refl }
stored_then (suc (suc j)) low = absurd (omega arith)

-- ---- a stamp above the first epoch

-- a stamp up to the first epoch counts as that epoch, one above it as what it is
pub aged_stamps : map (λ stamp. (aged earlier (row_s 0 stamp)).stamp) (1 ∷ 2 ∷ 3 ∷ 4 ∷ []) ≡ 3 ∷ 3 ∷ 3 ∷ 4 ∷ []
aged_stamps = refl

-- joiner 0 has the older row of S with a stamp of the next epoch, joiner 1 what it had
abbrev pub stores_ahead : ℕ → List Tuple
stores_ahead zero = row_s 0 4 ∷ []
stores_ahead (suc j) = stores (suc j)

-- what a wave would begin with
abbrev pub ahead : Rest
ahead = record { line = earlier; stores = stores_ahead }

-- it isn't a rest that stands for the input
pub ahead_does_not_stand : ¬ IsRestFor input setting ahead
ahead_does_not_stand = λ stands.
    let same : ◌≡◌ {A = ℕ} 4 3 = (stands.stored 0 (omega arith)).sums (λ (t : Tuple). t.stamp) in
    absurd (omega arith)
