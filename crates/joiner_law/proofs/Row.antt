-- The worked row of joiner 0 keeps the whole law.
use Rattle.std.proofs.Common.{◌≡◌, ℕ, zero, suc, ◌+◌, ◌<◌, ◌≤◌, inl, inr, refl, sym, arith, Bool, true, false, cond}
use Rattle.std.proofs.Common.{List, [], ◌∷◌, length}
use Rattle.std.specs.Prelude.{◌==◌, filter}
use Rattle.epoch_tags.specs.Orders.{CountsUp, NeverFalls}
use Rattle.std.specs.List.{AllByRecursion}
use Rattle.std.proofs.lemmas.Bool.{cases_eq, ne_eqb}
use Rattle.row_cells.specs.Lists.{SameBag}
use Rattle.epoch_tags.specs.declared.tuple.Tuple.{Tuple}
use Rattle.epoch_tags.specs.declared.message.ToJoiner.{ToJoiner}
use Rattle.epoch_tags.specs.declared.message.ToJoiner.TheVariants.{Moved, MovedEnd}
use Rattle.epoch_tags.specs.declared.message.ToController.TheVariants.{Settled}
use Rattle.epoch_tags.specs.declared.message.ToCollector.TheVariants.{Found, Fin}
use Rattle.epoch_tags.specs.Messages.{moved_of, moved_ends, turns, ends, turn_shifts}
use Rattle.migration_plan.specs.Steps.{AreNeighbours, is_of}
use Rattle.joiner_law.specs.Law.{JoinerLists, JoinerLaw, IsTakenOf, IsSettled, AllTurned, shift_after, partner_of}
use Rattle.joiner_law.specs.Law.{exchanged, store}
use Rattle.joiner_law.specs.Worked.{of_feeder, of_joiner, joiner_0, all_taken, r_row}
use Rattle.std.proofs.lemmas.List.{append-nil}

-- a list that was taken whole, so that nothing is held
pub all_of : (can_take : ToJoiner → Type 0) (ms : List ToJoiner) → IsTakenOf can_take ms ms
all_of can_take ms = record { held = []; splits = append-nil ms; stuck = λ m rest is. absurd (cc) }

abbrev part : List ToJoiner
part = Moved 1 (r_row 0 0 0) ∷ MovedEnd 1 ∷ []

abbrev to_joiner : ℕ → List ToJoiner
to_joiner zero = []
to_joiner (suc zero) = part
to_joiner (suc (suc q)) = []

-- all that joiner 0 received, and all that it sent
abbrev pub row_lists : JoinerLists
row_lists = record {
  from_feeder = of_feeder;
  from_joiner = of_joiner;
  to_joiner = to_joiner;
  to_controller = Settled 1 ∷ [];
  to_collector = Found (record { i = 0; j = 0 } ∷ []) ∷ Found (record { i = 0; j = 1 } ∷ [])
      ∷ Found (record { i = 1; j = 1 } ∷ []) ∷ Fin 2 1 (1 ∷ []) ∷ [];
}

all_turned : (p : ℕ) → 0 < turns (of_feeder p)
all_turned zero = omega arith
all_turned (suc p) = omega arith

all_ended : (p : ℕ) → 0 < ends (of_feeder p)
all_ended zero = omega arith
all_ended (suc p) = omega arith

step_settled : (n : ℕ) → n < 1 → IsSettled joiner_0 all_taken n
step_settled zero low = (λ p within. all_turned p, omega arith)
step_settled (suc n) low = absurd (omega arith)

shift_one : (t : Bool) → AllByRecursion {X = ℕ} (λ shift. shift ≡ cond t 1 0) (cond t (1 ∷ []) [])
shift_one true = (refl, tt)
shift_one false = tt

only_step : (n : ℕ) (x : Tuple) → 0 < length (moved_of (0 + n + 1) (Moved 1 x ∷ MovedEnd 1 ∷ []))
    + moved_ends (0 + n + 1) (Moved 1 x ∷ MovedEnd 1 ∷ []) → n ≡ 0
only_step zero x has = refl
only_step (suc n) x has =
    let differ : (1 == 0 + suc n + 1) ≡ false = ne_eqb 1 (0 + suc n + 1) (λ is. absurd (omega arith)) in
    let none : 0 < 0 + 0 = rw differ at has in
    absurd (omega arith)

row_by_one : (n : ℕ) → n < 1 → AreNeighbours (shift_after joiner_0 all_taken n) (shift_after joiner_0 all_taken (n + 1))
row_by_one zero low = inl refl
row_by_one (suc n) low = absurd (omega arith)

row_within : (n : ℕ) → n ≤ 1 → shift_after joiner_0 all_taken n ≤ 1
row_within zero low = omega arith
row_within (suc zero) low = omega arith
row_within (suc (suc n)) low = absurd (omega arith)

row_of_partner : (q n : ℕ) → q < 2 → 0 < length (moved_of (0 + n + 1) (of_joiner q))
    + moved_ends (0 + n + 1) (of_joiner q) → (n < 1) × (q ≡ partner_of joiner_0 all_taken n)
row_of_partner zero n low has = absurd (omega arith)
row_of_partner (suc q) n low has =
    let is : n ≡ 0 = only_step n (r_row 1 255 0) has in
    let one : q ≡ 0 = omega arith in
    (omega arith, rw (is, one) refl)

e_is_one : (e : ℕ) (x : Tuple) → 0 < length (cond {A = List Tuple} (1 == e) (x ∷ []) []) → e ≡ 1
e_is_one e x has = elim (cases_eq 1 e) [
  | inl is ↦ sym is
  | inr differ ↦ let none : 0 < 0 = rw (ne_eqb 1 e differ) at has in absurd (omega arith)
]

end_is_one : (e : ℕ) → 0 < cond (1 == e) (0 + 1) 0 → e ≡ 1
end_is_one e has = elim (cases_eq 1 e) [
  | inl is ↦ sym is
  | inr differ ↦ let none : 0 < 0 = rw (ne_eqb 1 e differ) at has in absurd (omega arith)
]

row_moved_only : (q e : ℕ) → 0 < length (moved_of e (to_joiner q)) → (n : ℕ) × (e ≡ 0 + n + 1) × (n < 1)
    × (q ≡ partner_of joiner_0 all_taken n)
row_moved_only zero e has = absurd (omega arith)
row_moved_only (suc zero) e has = (0, e_is_one e (r_row 0 0 0) has, omega arith, refl)
row_moved_only (suc (suc q)) e has = absurd (omega arith)

row_ended_only : (q e : ℕ) → 0 < moved_ends e (to_joiner q) → (n : ℕ) × (e ≡ 0 + n + 1) × AllTurned joiner_0 all_taken n
    × (q ≡ partner_of joiner_0 all_taken n)
row_ended_only zero e has = absurd (omega arith)
row_ended_only (suc zero) e has = (0, end_is_one e has, λ p within. all_turned p, refl)
row_ended_only (suc (suc q)) e has = absurd (omega arith)

row_counts_up : (p : ℕ) → CountsUp 0 (of_feeder p)
row_counts_up zero = (refl, (refl, (refl, refl)))
row_counts_up (suc p) = (refl, (refl, refl))

row_shifts : (p n : ℕ) → AllByRecursion (λ shift. shift ≡ shift_after joiner_0 all_taken n)
    (turn_shifts (0 + n) (of_feeder p))
row_shifts zero n = shift_one (1 == 0 + n)
row_shifts (suc p) n = shift_one (1 == 0 + n)

row_moved : (n : ℕ) → n < 1 → SameBag (moved_of (0 + n + 1) (to_joiner (partner_of joiner_0 all_taken n)))
    (filter (is_of (exchanged joiner_0 all_taken n)) (store joiner_0 all_taken n))
row_moved zero low = record { sums = λ f. refl }
row_moved (suc n) low = absurd (omega arith)

row_ended : (n : ℕ) → AllTurned joiner_0 all_taken n → moved_ends (0 + n + 1)
    (to_joiner (partner_of joiner_0 all_taken n)) ≡ 1
row_ended zero turned = refl
row_ended (suc n) turned = let first = turned 0 (omega arith) in absurd (omega arith)

row_never_falls : (q : ℕ) → NeverFalls 0 (to_joiner q)
row_never_falls zero = tt
row_never_falls (suc zero) = (omega arith, (omega arith, tt))
row_never_falls (suc (suc q)) = tt

-- they keep each clause of the law, with the one step settled and the last message sent
pub row_law : JoinerLaw joiner_0 row_lists all_taken
row_law = record {
  done = 1;
  of_feeders = λ p low. all_of _ (of_feeder p);
  of_joiners = λ q low. all_of _ (of_joiner q);
  counts_up = λ p low. row_counts_up p;
  first_shift = refl;
  same_shifts = λ p n low. row_shifts p n;
  by_one = row_by_one;
  within = row_within;
  settled = step_settled;
  unsettled = λ is. let turned = is.0 0 (omega arith) in absurd (omega arith);
  one_open = omega arith;
  of_partner = row_of_partner;
  founds = (record { i = 0; j = 0 } ∷ []) ∷ (record { i = 0; j = 1 } ∷ []) ∷ (record { i = 1; j = 1 } ∷ []) ∷ [];
  fins = Fin 2 1 (1 ∷ []) ∷ [];
  to_collector = refl;
  pairs = λ older. record { sums = λ f. refl };
  none_empty = (omega arith, (omega arith, (omega arith, tt)));
  few_founds = omega arith;
  moved = row_moved;
  ended = row_ended;
  moved_only = row_moved_only;
  ended_only = row_ended_only;
  never_falls = row_never_falls;
  told = refl;
  fin_last = inr (refl, (λ p low. all_ended p, step_settled));
  finished = λ is. refl;
}
