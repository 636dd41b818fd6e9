-- The law of a joiner alone does not say what a joiner took: two feeders turn to different shifts, and it can go by
-- either.
use Rattle.std.proofs.Common.{◌≡◌, ℕ, zero, suc, ◌+◌, ◌<◌, ◌≤◌, inl, inr, refl, subst, arith, Bool, true, false, cond}
use Rattle.std.proofs.Common.{List, [], ◌∷◌}
use Rattle.std.specs.Prelude.{◌==◌, filter}
use Rattle.std.specs.List.{AllByRecursion}
use Rattle.row_cells.specs.Lists.{SameBag}
use Rattle.epoch_tags.specs.declared.message.ToJoiner.{ToJoiner}
use Rattle.epoch_tags.specs.declared.message.ToJoiner.TheVariants.{Turn}
use Rattle.joiner_law.specs.Law.{JoinerStart, JoinerLists, JoinerLaw, Taken, IsTakenOf, CanTakeOfFeeder, shift_after}
use Rattle.joiner_law.specs.Law.{exchanged, store}
use Rattle.epoch_tags.specs.Messages.{turn_shifts, moved_of}
use Rattle.epoch_tags.specs.Orders.{CountsUp}
use Rattle.migration_plan.specs.Steps.{AreNeighbours, is_of}

abbrev start : JoinerStart
start = record { k = 2; feeders = 2; id = 0; matches = λ r q. true; epoch = 0; shift = 1; base = [] }

-- feeder 0 turns to shift 0, feeder 1 to shift 2
abbrev turn : ℕ → List ToJoiner
turn zero = Turn 1 0 ∷ []
turn (suc p) = Turn 1 2 ∷ []

abbrev lists : JoinerLists
lists = record { from_feeder = turn; from_joiner = λ i. []; to_joiner = λ i. []; to_controller = []; to_collector = [] }

abbrev of_first : ℕ → List ToJoiner
of_first zero = Turn 1 0 ∷ []
of_first (suc p) = []

abbrev of_second : ℕ → List ToJoiner
of_second zero = []
of_second (suc p) = Turn 1 2 ∷ []

abbrev one : Taken
one = record { from_feeder = of_first; from_joiner = λ i. []; shift_at = λ e. cond (1 == e) 0 1 }

abbrev other : Taken
other = record { from_feeder = of_second; from_joiner = λ i. []; shift_at = λ e. cond (1 == e) 2 1 }

-- of a feeder below 2
below_two : (P : ℕ → Type 0) → P 0 → P 1 → (p : ℕ) → p < 2 → P p
below_two P a b zero low = a
below_two P a b (suc zero) low = b
below_two P a b (suc (suc p)) low = absurd (omega arith)

stuck_one : (m : ToJoiner) (rest : List ToJoiner) → Turn 1 2 ∷ [] ≡ m ∷ rest → ¬ CanTakeOfFeeder start one 0 1 m
stuck_one m rest is =
    let same : Turn 1 2 ≡ m = cc in
    subst (λ x. ¬ CanTakeOfFeeder start one 0 1 x) same (λ can. let bad : 2 ≡ 0 = can.5 (omega arith) in
    absurd (omega arith))

stuck_other : (m : ToJoiner) (rest : List ToJoiner) → Turn 1 0 ∷ [] ≡ m ∷ rest → ¬ CanTakeOfFeeder start other 0 0 m
stuck_other m rest is =
    let same : Turn 1 0 ≡ m = cc in
    subst (λ x. ¬ CanTakeOfFeeder start other 0 0 x) same (λ can. let bad : 0 ≡ 2 = can.5 (omega arith) in
    absurd (omega arith))

-- both keep the law, with the same lists

shifts_one : (n p : ℕ) → p < 2 → AllByRecursion (λ shift. shift ≡ shift_after start one n)
    (turn_shifts (0 + n) (of_first p))
shifts_one n = below_two (λ p. AllByRecursion (λ shift. shift ≡ shift_after start one n)
    (turn_shifts (0 + n) (of_first p))) (by_test (1 == 0 + n)) tt
  where
    by_test : (t : Bool) → AllByRecursion (λ (shift : ℕ). shift ≡ cond t 0 1) (cond t (0 ∷ []) [])
    by_test true = (refl, tt)
    by_test false = tt

near_one : (n : ℕ) → n < 1 → AreNeighbours (shift_after start one n) (shift_after start one (n + 1))
near_one zero low = inr refl
near_one (suc n) low = absurd (omega arith)

within_one : (n : ℕ) → n ≤ 1 → shift_after start one n ≤ 2
within_one zero low = omega arith
within_one (suc zero) low = omega arith
within_one (suc (suc n)) low = absurd (omega arith)

none_moved_one : (n : ℕ) → n < 1 → SameBag (moved_of (0 + n + 1) [])
    (filter (is_of (exchanged start one n)) (store start one n))
none_moved_one zero low = record { sums = λ f. refl }
none_moved_one (suc n) low = absurd (omega arith)

-- the joiner keeps the law if it took the turn of feeder 0 and holds that of feeder 1
pub law_one : JoinerLaw start lists one
law_one = record {
  done = 0;
  of_feeders = below_two (λ p. IsTakenOf (CanTakeOfFeeder start one 0 p) (of_first p) (turn p)) (record {
    held = [];
    splits = refl;
    stuck = λ m rest is. absurd (cc);
  }) (record {
    held = Turn 1 2 ∷ [];
    splits = refl;
    stuck = stuck_one;
  });
  of_joiners = λ q low. record { held = []; splits = refl; stuck = λ m rest is. absurd (cc) };
  counts_up = below_two (λ p. CountsUp 0 (of_first p)) (refl, tt) tt;
  first_shift = refl;
  same_shifts = λ p n low. shifts_one n p low;
  by_one = near_one;
  within = within_one;
  settled = λ n low. absurd (omega arith);
  unsettled = λ is. let none = is.0 1 (omega arith) in absurd (omega arith);
  one_open = omega arith;
  of_partner = λ q n low some. absurd (omega arith);
  founds = [];
  fins = [];
  to_collector = refl;
  pairs = λ older. record { sums = λ f. refl };
  none_empty = tt;
  few_founds = omega arith;
  moved = none_moved_one;
  ended = λ n turned. let none = turned 1 (omega arith) in absurd (omega arith);
  moved_only = λ q e some. absurd (omega arith);
  ended_only = λ q e some. absurd (omega arith);
  never_falls = λ q. tt;
  told = refl;
  fin_last = inl refl;
  finished = λ is. let none = is.0.0 0 (omega arith) in absurd (omega arith);
}

shifts_other : (n p : ℕ) → p < 2 → AllByRecursion (λ shift. shift ≡ shift_after start other n)
    (turn_shifts (0 + n) (of_second p))
shifts_other n = below_two (λ p. AllByRecursion (λ shift. shift ≡ shift_after start other n)
    (turn_shifts (0 + n) (of_second p))) tt (by_test (1 == 0 + n))
  where
    by_test : (t : Bool) → AllByRecursion (λ (shift : ℕ). shift ≡ cond t 2 1) (cond t (2 ∷ []) [])
    by_test true = (refl, tt)
    by_test false = tt

near_other : (n : ℕ) → n < 1 → AreNeighbours (shift_after start other n) (shift_after start other (n + 1))
near_other zero low = inl refl
near_other (suc n) low = absurd (omega arith)

within_other : (n : ℕ) → n ≤ 1 → shift_after start other n ≤ 2
within_other zero low = omega arith
within_other (suc zero) low = omega arith
within_other (suc (suc n)) low = absurd (omega arith)

none_moved_other : (n : ℕ) → n < 1 → SameBag (moved_of (0 + n + 1) [])
    (filter (is_of (exchanged start other n)) (store start other n))
none_moved_other zero low = record { sums = λ f. refl }
none_moved_other (suc n) low = absurd (omega arith)

-- and with the same lists if it took the turn of feeder 1 and holds that of feeder 0
pub law_other : JoinerLaw start lists other
law_other = record {
  done = 0;
  of_feeders = below_two (λ p. IsTakenOf (CanTakeOfFeeder start other 0 p) (of_second p) (turn p))
      (record { held = Turn 1 0 ∷ []; splits = refl; stuck = stuck_other }) (record {
        held = [];
        splits = refl;
        stuck = λ m rest is. absurd (cc);
      });
  of_joiners = λ q low. record { held = []; splits = refl; stuck = λ m rest is. absurd (cc) };
  counts_up = below_two (λ p. CountsUp 0 (of_second p)) tt (refl, tt);
  first_shift = refl;
  same_shifts = λ p n low. shifts_other n p low;
  by_one = near_other;
  within = within_other;
  settled = λ n low. absurd (omega arith);
  unsettled = λ is. let none = is.0 0 (omega arith) in absurd (omega arith);
  one_open = omega arith;
  of_partner = λ q n low some. absurd (omega arith);
  founds = [];
  fins = [];
  to_collector = refl;
  pairs = λ older. record { sums = λ f. refl };
  none_empty = tt;
  few_founds = omega arith;
  moved = none_moved_other;
  ended = λ n turned. let none = turned 0 (omega arith) in absurd (omega arith);
  moved_only = λ q e some. absurd (omega arith);
  ended_only = λ q e some. absurd (omega arith);
  never_falls = λ q. tt;
  told = refl;
  fin_last = inl refl;
  finished = λ is. let none = is.0.0 0 (omega arith) in absurd (omega arith);
}
