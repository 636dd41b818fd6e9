-- The actors of the finished family with two migrations keep their laws, and agree.
use Rattle.std.proofs.Common.{◌≡◌, ap, List, ℕ, zero, suc, ◌+◌, ◌<◌, ◌≤◌, ◌^◌, ◌==◌, ◌⊎◌, inl, inr, refl, sym, ◌∙◌}
use Rattle.std.proofs.Common.{subst, arith, Bool, true, false, [], ◌∷◌, ◌++◌, length, cond}
use Rattle.std.specs.Prelude.{All, filter}
use Rattle.std.specs.List.{AllByRecursion}
use Rattle.std.proofs.lemmas.Bool.{cases_eq, ne_eqb, eq-eqb}
use Rattle.row_cells.specs.declared.table.Side.{Side}
use Rattle.row_cells.specs.declared.table.Side.TheVariants.{R, S}
use Rattle.row_cells.specs.Lists.{SameBag}
use Rattle.epoch_tags.specs.Messages.{moved_of, moved_ends, turn_shifts}
use Rattle.epoch_tags.specs.Orders.{CountsUp, NeverFalls}
use Rattle.epoch_tags.specs.declared.message.ToCollector.TheVariants.{Fin}
use Rattle.migration_plan.specs.Steps.{AreNeighbours, is_of}
use Rattle.reshuffler_core.specs.Law.{FeederLaw, answers}
use Rattle.joiner_law.specs.Law.{JoinerLaw, JoinerStart, IsSettled, AllTurned, IsAtRest, shift_after, partner_of}
use Rattle.joiner_law.specs.Law.{exchanged, store, found, fin}
use Rattle.std.proofs.lemmas.List.Elements.{All-replicate, All-from_recursion}
use Rattle.theta_pred.specs.Truth.{width_of}
use Rattle.trace_law.specs.Join.{table_of, tickets_of}
use Rattle.trace_law.specs.Validity.{IsFor, IsValid}
use Rattle.trace_law.specs.Family.{IsAgreeing, IsQuiet, IsFinished as IsFinishedFamily, feeder_start, joiner_start}
use Rattle.trace_law.specs.Family.{first_rest, rest_after}
use Rattle.trace_law.specs.Laws.{FinishedAfterTwoMigrations, LeavesARest}
use Rattle.trace_law.specs.Worked.{input}
use Rattle.grid_map.proofs.Halves.{back_again}
use Rattle.trace_law.proofs.TwoMigrations.{setting, orders, fed, other, part, passed, found_first, found_then, taken}
use Rattle.trace_law.proofs.TwoMigrations.{family}
use Rattle.load_controller.specs.declared.line.TurnLine.{TurnLine}
use Rattle.trace_law.proofs.First.{stands}
use Rattle.trace_law.proofs.Numbers.{answers_the_join}
use Rattle.trace_law.proofs.TwoMigrationsController.{controller_law}
use Rattle.std.proofs.lemmas.List.{append-nil}
use Rattle.joiner_law.proofs.Row.{all_of}

abbrev start : ℕ → JoinerStart
start j = joiner_start input setting (first_rest setting) j

-- ---- the feeder

fed_by : (j : ℕ) → j < 4 → fed j ≡ answers 2 j 0 1 (feeder_start input setting (first_rest setting) 0).batches orders
fed_by zero low = refl
fed_by (suc zero) low = refl
fed_by (suc (suc zero)) low = refl
fed_by (suc (suc (suc zero))) low = refl
fed_by (suc (suc (suc (suc j)))) low = absurd (omega arith)

feeder_law : FeederLaw (feeder_start input setting (first_rest setting) 0) (family.feeder 0) orders
feeder_law = record {
  held = [];
  splits = refl;
  stuck = λ m rest is. absurd (cc);
  asked = record { rest = []; joins = refl };
  granted = inl refl;
  drained = λ some. refl;
  orders = refl;
  stops_last = refl;
  stops_drained = λ some. omega arith;
  answered = fed_by;
}

-- ---- the joiners: what holds of each

counts_up : (j : ℕ) → CountsUp 0 (fed j)
counts_up j = (refl, (refl, (refl, (refl, (refl, (refl, (refl, (refl, (refl, (refl, refl))))))))))

-- the shifts of the two turns are those of their epochs
shifts_of : (j n : ℕ)
    → AllByRecursion (λ shift. shift ≡ shift_after (start j) (taken j) n) (turn_shifts (0 + n) (fed j))
shifts_of j zero = tt
shifts_of j (suc zero) = (refl, tt)
shifts_of j (suc (suc zero)) = (refl, tt)
shifts_of j (suc (suc (suc n))) =
    let not_one : (1 == 0 + suc (suc (suc n))) ≡ false =
    ne_eqb 1 (0 + suc (suc (suc n))) (λ is. absurd (omega arith)) in
    let not_two : (2 == 0 + suc (suc (suc n))) ≡ false =
    ne_eqb 2 (0 + suc (suc (suc n))) (λ is. absurd (omega arith)) in
    rw (not_one, not_two) tt

by_one : (j n : ℕ) → n < 2 → AreNeighbours (shift_after (start j) (taken j) n) (shift_after (start j) (taken j) (n + 1))
by_one j zero low = inr refl
by_one j (suc zero) low = inl refl
by_one j (suc (suc n)) low = absurd (omega arith)

within : (j n : ℕ) → n ≤ 2 → shift_after (start j) (taken j) n ≤ 2
within j zero low = omega arith
within j (suc zero) low = omega arith
within j (suc (suc zero)) low = omega arith
within j (suc (suc (suc n))) low = absurd (omega arith)

-- its partner is the same joiner in both steps
partner : (j n : ℕ) → n < 2 → partner_of (start j) (taken j) n ≡ other j
partner j zero low = refl
partner j (suc zero) low = refl
partner j (suc (suc n)) low = absurd (omega arith)

-- its partner's messages carry the two epochs, and no other
part_moves : (i e : ℕ) → 0 < length (moved_of e (part i)) → e ≡ 2
part_moves i e has = elim (cases_eq 2 e) [
  | inl is ↦ sym is
  | inr differ ↦ let none : 0 < 0 = rw (ne_eqb 2 e differ) at has in absurd (omega arith)
]

part_ends : (i e : ℕ) → 0 < moved_ends e (part i) → (e ≡ 1) ⊎ (e ≡ 2)
part_ends i e has = elim (cases_eq 1 e) [
  | inl is ↦ inl (sym is)
  | inr not_one ↦ elim (cases_eq 2 e) [
    | inl is ↦ inr (sym is)
    | inr not_two ↦ let none : 0 < 0 = rw (ne_eqb 1 e not_one, ne_eqb 2 e not_two) at has in absurd (omega arith)
  ]
]

all_turned : (j n : ℕ) → n < 2 → AllTurned (start j) (taken j) n
all_turned j n low = λ p within_p. low

-- a turn of the two steps alone
turned_in : (j n : ℕ) → AllTurned (start j) (taken j) n → n < 2
turned_in j n turned = turned 0 (omega arith)

settled : (j n : ℕ) → j < 4 → n < 2 → IsSettled (start j) (taken j) n
settled zero zero low_j low = (λ p within_p. omega arith, omega arith)
settled zero (suc zero) low_j low = (λ p within_p. omega arith, omega arith)
settled (suc zero) zero low_j low = (λ p within_p. omega arith, omega arith)
settled (suc zero) (suc zero) low_j low = (λ p within_p. omega arith, omega arith)
settled (suc (suc zero)) zero low_j low = (λ p within_p. omega arith, omega arith)
settled (suc (suc zero)) (suc zero) low_j low = (λ p within_p. omega arith, omega arith)
settled (suc (suc (suc zero))) zero low_j low = (λ p within_p. omega arith, omega arith)
settled (suc (suc (suc zero))) (suc zero) low_j low = (λ p within_p. omega arith, omega arith)
settled j (suc (suc n)) low_j low = absurd (omega arith)
settled (suc (suc (suc (suc j)))) n low_j low = absurd (omega arith)

at_rest : (j : ℕ) → j < 4 → IsAtRest (start j) (taken j)
at_rest j low = (λ p within_p. omega arith, λ n low_n. settled j n low low_n)

part_some : (i e : ℕ) → 0 < length (moved_of e (part i)) + moved_ends e (part i) → (1 ≤ e) × (e ≤ 2)
part_some i e has = elim (cases_eq 1 e) [
  | inl is ↦ (omega arith, omega arith)
  | inr not_one ↦ elim (cases_eq 2 e) [
    | inl is ↦ (omega arith, omega arith)
    | inr not_two ↦ let none : 0 < 0 = rw (ne_eqb 1 e not_one, ne_eqb 2 e not_two) at has in absurd (omega arith)
  ]
]

of_partner : (j q n : ℕ) → 0 < length (moved_of (0 + n + 1) (passed q j)) + moved_ends (0 + n + 1) (passed q j)
    → (n < 2) × (q ≡ partner_of (start j) (taken j) n)
of_partner j q n has = elim (cases_eq j (other q)) [
  | inl is ↦
      let here : (j == other q) ≡ true = eq-eqb j (other q) is in
      let some : 0 < length (moved_of (0 + n + 1) (part q)) + moved_ends (0 + n + 1) (part q) = rw here at has in
      let bounds = part_some q (0 + n + 1) some in
      let low : n < 2 = let at_most = bounds.1 in omega arith in
      let back : q ≡ other j = rw is (sym (back_again 0 q)) in
      (low, back ∙ sym (partner j n low))
  | inr differ ↦ let none : 0 < 0 = rw (ne_eqb j (other q) differ) at has in absurd (omega arith)
]

moved_only : (j q e : ℕ) → 0 < length (moved_of e (passed j q))
    → (n : ℕ) × (e ≡ 0 + n + 1) × (n < 2) × (q ≡ partner_of (start j) (taken j) n)
moved_only j q e has = elim (cases_eq q (other j)) [
  | inl is ↦
      let here : (q == other j) ≡ true = eq-eqb q (other j) is in
      let some : 0 < length (moved_of e (part j)) = rw here at has in
      (1, part_moves j e some, omega arith, is)
  | inr differ ↦ let none : 0 < 0 = rw (ne_eqb q (other j) differ) at has in absurd (omega arith)
]

ended_only : (j q e : ℕ) → 0 < moved_ends e (passed j q)
    → (n : ℕ) × (e ≡ 0 + n + 1) × AllTurned (start j) (taken j) n × (q ≡ partner_of (start j) (taken j) n)
ended_only j q e has = elim (cases_eq q (other j)) [
  | inl is ↦
      let here : (q == other j) ≡ true = eq-eqb q (other j) is in
      let some : 0 < moved_ends e (part j) = rw here at has in
      elim (part_ends j e some) [
        | inl one ↦ (0, one, all_turned j 0 (omega arith), is)
        | inr two ↦ (1, two, all_turned j 1 (omega arith), is)
      ]
  | inr differ ↦ let none : 0 < 0 = rw (ne_eqb q (other j) differ) at has in absurd (omega arith)
]

never_falls : (j : ℕ) (t : Bool) → NeverFalls 0 (cond t (part j) [])
never_falls j true = (omega arith, (omega arith, (omega arith, (omega arith, tt))))
never_falls j false = tt

moved : (j n : ℕ) → j < 4 → n < 2
    → SameBag (moved_of (0 + n + 1) (passed j (partner_of (start j) (taken j) n)))
    (filter (is_of (exchanged (start j) (taken j) n)) (store (start j) (taken j) n))
moved zero zero low_j low = record { sums = λ f. refl }
moved zero (suc zero) low_j low = record { sums = λ f. refl }
moved (suc zero) zero low_j low = record { sums = λ f. refl }
moved (suc zero) (suc zero) low_j low = record { sums = λ f. refl }
moved (suc (suc zero)) zero low_j low = record { sums = λ f. refl }
moved (suc (suc zero)) (suc zero) low_j low = record { sums = λ f. refl }
moved (suc (suc (suc zero))) zero low_j low = record { sums = λ f. refl }
moved (suc (suc (suc zero))) (suc zero) low_j low = record { sums = λ f. refl }
moved (suc (suc (suc (suc j)))) n low_j low = absurd (omega arith)
moved j (suc (suc n)) low_j low = absurd (omega arith)

ended : (j n : ℕ) → j < 4 → n < 2 → moved_ends (0 + n + 1) (passed j (partner_of (start j) (taken j) n)) ≡ 1
ended zero zero low_j low = refl
ended zero (suc zero) low_j low = refl
ended (suc zero) zero low_j low = refl
ended (suc zero) (suc zero) low_j low = refl
ended (suc (suc zero)) zero low_j low = refl
ended (suc (suc zero)) (suc zero) low_j low = refl
ended (suc (suc (suc zero))) zero low_j low = refl
ended (suc (suc (suc zero))) (suc zero) low_j low = refl
ended (suc (suc (suc (suc j)))) n low_j low = absurd (omega arith)
ended j (suc (suc n)) low_j low = absurd (omega arith)

pairs : (j : ℕ) → j < 4 → SameBag (found_first j ++ (found_then j ++ [])) (found (start j) (taken j) 2)
pairs zero low_j = record { sums = λ f. refl }
pairs (suc zero) low_j = record { sums = λ f. refl }
pairs (suc (suc zero)) low_j = record { sums = λ f. refl }
pairs (suc (suc (suc zero))) low_j = record { sums = λ f. refl }
pairs (suc (suc (suc (suc j)))) low_j = absurd (omega arith)

last : (j : ℕ) → j < 4 → Fin 4 4 (0 ∷ 2 ∷ []) ∷ [] ≡ fin (start j) (family.joiner j) (taken j) ∷ []
last zero low_j = refl
last (suc zero) low_j = refl
last (suc (suc zero)) low_j = refl
last (suc (suc (suc zero))) low_j = refl
last (suc (suc (suc (suc j)))) low_j = absurd (omega arith)

joiner_law : (j : ℕ) → j < 4 → JoinerLaw (start j) (family.joiner j) (taken j)
joiner_law j low_j = record {
  done = 2;
  of_feeders = λ p low. all_of _ (fed j);
  of_joiners = λ q low. all_of _ (passed q j);
  counts_up = λ p low. counts_up j;
  first_shift = refl;
  same_shifts = λ p n low. shifts_of j n;
  by_one = by_one j;
  within = within j;
  settled = λ n low. settled j n low_j low;
  unsettled = λ is. let turned = is.0 0 (omega arith) in absurd (omega arith);
  one_open = omega arith;
  of_partner = λ q n low has. of_partner j q n has;
  founds = found_first j ∷ found_then j ∷ [];
  fins = Fin 4 4 (0 ∷ 2 ∷ []) ∷ [];
  to_collector = refl;
  pairs = λ older. pairs j low_j;
  none_empty = (omega arith, (omega arith, tt));
  few_founds = omega arith;
  moved = λ n low. moved j n low_j low;
  ended = λ n turned. ended j n low_j (turned_in j n turned);
  moved_only = moved_only j;
  ended_only = ended_only j;
  never_falls = λ q. never_falls j (q == other j);
  told = refl;
  fin_last = inr (last j low_j, at_rest j low_j);
  finished = λ is. last j low_j;
}

-- ---- all of them

abbrev agrees : IsAgreeing input setting (first_rest setting) family
agrees = record {
  taken_by_feeder = λ p. orders;
  taken_by_joiner = taken;
  feeders = λ p low. let is : 0 ≡ p = omega arith in
      subst (λ q. FeederLaw (feeder_start input setting (first_rest setting) q) (family.feeder q) orders) is feeder_law;
  joiners = joiner_law;
  controller = controller_law;
  feeder_joiner = λ p j low low'. record { rest = []; joins = refl };
  joiner_joiner = λ i j low low'. record { rest = []; joins = append-nil (passed i j) };
  controller_feeder = λ p low. record { rest = []; joins = refl };
  feeder_controller = λ p low. record { rest = []; joins = refl };
  joiner_controller = λ j low. record { rest = []; joins = refl };
  joiner_collector = λ j low. record { rest = []; joins = refl };
}

finished : IsFinishedFamily input setting (first_rest setting) family agrees
finished = record {
  feeders = λ p low. omega arith;
  joiners = λ j low. (at_rest j low, λ p low_p. refl, λ q low_q. refl);
  collector = λ j low. omega arith;
}

quiet : IsQuiet input setting (first_rest setting) family agrees
quiet = record {
  feeder_joiner = λ p j low low'. refl;
  joiner_joiner = λ i j link. refl;
  controller_feeder = λ p low. refl;
  feeder_controller = λ p low. refl;
  joiner_controller = λ j low. refl;
  joiner_collector = λ j low. refl;
  none_begins = λ p low. inl (omega arith);
}

valid : IsValid input setting
valid = record {
  of_input = record { sides = sides_of; bytes = bytes_of };
  some = omega arith;
  batch = omega arith;
  small = omega arith;
  fixed = λ shift is. absurd (cc);
}
  where
    sides_of : (side : Side) → IsFor (table_of input side) (tickets_of input side) (width_of input.theta side)
    sides_of R =
        record { few = omega arith; each = refl; header = refl; rows = All-replicate (λ row. length row ≡ 0) 8 [] refl }
    sides_of S =
        record { few = omega arith; each = refl; header = refl; rows = All-replicate (λ row. length row ≡ 0) 8 [] refl }

    is_byte : ℕ → Type 0
    is_byte ticket = ticket < 2 ^ 8

    bytes_of : (side : Side) → All is_byte (tickets_of input side)
    bytes_of R =
        All-from_recursion is_byte (tickets_of input R) (
          omega arith,
          (omega arith, (omega arith, (omega arith, (omega arith, (omega arith, (omega arith, (omega arith, tt))))))),
        )
    bytes_of S =
        All-from_recursion is_byte (tickets_of input S) (
          omega arith,
          (omega arith, (omega arith, (omega arith, (omega arith, (omega arith, (omega arith, (omega arith, tt))))))),
        )

-- so a family is finished after two migrations
pub finished_after_two : FinishedAfterTwoMigrations
finished_after_two =
    record {
      input = input;
      setting = setting;
      family = family;
      valid = valid;
      agrees = agrees;
      finished = finished;
      quiet = quiet;
      migrated = refl;
    }

abbrev rows_of_r : List TurnLine → ℕ
rows_of_r [] = 0
rows_of_r (line ∷ past) = line.rows_r

abbrev rows_of_s : List TurnLine → ℕ
rows_of_s [] = 0
rows_of_s (line ∷ past) = line.rows_s

abbrev epoch_of : List TurnLine → ℕ
epoch_of [] = 0
epoch_of (line ∷ past) = line.epoch

-- and leaves a rest that stands
pub leaves_a_rest : LeavesARest
leaves_a_rest = record {
  input = input;
  setting = setting;
  family = family;
  valid = valid;
  agrees = agrees;
  finished = finished;
  rest = rest_after input setting (first_rest setting) family agrees;
  left = refl;
  stands =
      (answers_the_join input setting valid (first_rest setting) (stands input setting valid)
      family agrees finished).again;
  eight_r = refl;
  eight_s = refl;
  rows_r = ap rows_of_r (sym agrees.controller.journal);
  rows_s = ap rows_of_s (sym agrees.controller.journal);
  epoch = ap epoch_of (sym agrees.controller.journal);
}
