-- The actors of the finished family with an old row that is moved keep their laws, and agree.
use Rattle.std.proofs.Common.{◌≡◌, ℕ, zero, suc, ◌+◌, ◌<◌, ◌^◌, ◌==◌, inl, inr, refl, sym, subst, arith, false, [], ◌∷◌}
use Rattle.std.proofs.Common.{length}
use Rattle.std.specs.Prelude.{All, filter}
use Rattle.std.specs.List.{AllByRecursion}
use Rattle.std.proofs.lemmas.Bool.{cases_eq, ne_eqb}
use Rattle.std.proofs.lemmas.List.Elements.{All-from_recursion}
use Rattle.row_cells.specs.declared.table.Side.{Side}
use Rattle.row_cells.specs.declared.table.Side.TheVariants.{R, S}
use Rattle.row_cells.specs.Lists.{SameBag}
use Rattle.epoch_tags.specs.Messages.{turns, ends, moved_of, moved_ends, turn_shifts, stops, draineds, fins}
use Rattle.epoch_tags.specs.Orders.{CountsUp, NeverFalls}
use Rattle.migration_plan.specs.Steps.{AreNeighbours, is_of}
use Rattle.reshuffler_core.specs.Law.{FeederLaw, answers}
use Rattle.joiner_law.specs.Law.{JoinerLaw, JoinerStart, IsSettled, AllTurned, IsAtRest, shift_after, partner_of}
use Rattle.joiner_law.specs.Law.{exchanged, store}
use Rattle.theta_pred.specs.Truth.{width_of}
use Rattle.trace_law.specs.Join.{table_of, tickets_of}
use Rattle.trace_law.specs.Validity.{IsFor, IsValid}
use Rattle.trace_law.specs.Family.{IsAgreeing, IsQuiet, IsFinished as IsFinishedFamily, feeder_start, joiner_start}
use Rattle.trace_law.specs.Family.{first_rest}
use Rattle.trace_law.specs.Laws.{FinishedWithAnOldRowMoved}
use Rattle.trace_law.proofs.Late.{input, setting, orders, requests, fed, passed, founds, last_words, collected, taken}
use Rattle.trace_law.proofs.Late.{family}
use Rattle.trace_law.proofs.LateController.{controller_law}
use Rattle.std.proofs.lemmas.List.{append-nil}
use Rattle.joiner_law.proofs.Row.{all_of}

abbrev start : ℕ → JoinerStart
start j = joiner_start input setting (first_rest setting) j

-- ---- the feeders

fed_by : (p j : ℕ) → p < 2 → j < 2
    → fed p j ≡ answers 1 j 0 0 (feeder_start input setting (first_rest setting) p).batches (orders p)
fed_by zero zero low low' = refl
fed_by zero (suc zero) low low' = refl
fed_by (suc zero) zero low low' = refl
fed_by (suc zero) (suc zero) low low' = refl
fed_by (suc (suc p)) j low low' = absurd (omega arith)
fed_by p (suc (suc j)) low low' = absurd (omega arith)

feeder_law : (p : ℕ) → p < 2
    → FeederLaw (feeder_start input setting (first_rest setting) p) (family.feeder p) (orders p)
feeder_law zero low = record {
  held = [];
  splits = refl;
  stuck = λ m rest is. absurd (cc);
  asked = record { rest = []; joins = refl };
  granted = inl refl;
  drained = λ some. refl;
  orders = refl;
  stops_last = refl;
  stops_drained = λ some. omega arith;
  answered = λ j low'. fed_by 0 j low low';
}
feeder_law (suc zero) low = record {
  held = [];
  splits = refl;
  stuck = λ m rest is. absurd (cc);
  asked = record { rest = []; joins = refl };
  granted = inl refl;
  drained = λ some. refl;
  orders = refl;
  stops_last = refl;
  stops_drained = λ some. omega arith;
  answered = λ j low'. fed_by 1 j low low';
}
feeder_law (suc (suc p)) low = absurd (omega arith)

-- ---- the joiners

counts_up : (j p : ℕ) → CountsUp 0 (fed p j)
counts_up zero zero = (refl, (refl, (refl, refl)))
counts_up (suc j) zero = (refl, (refl, (refl, refl)))
counts_up zero (suc p) = (refl, (refl, refl))
counts_up (suc j) (suc p) = (refl, (refl, (refl, refl)))

-- the turns carry shift 1 for epoch 1
shifts_of : (j p n : ℕ)
    → AllByRecursion (λ shift. shift ≡ shift_after (start j) (taken j) n) (turn_shifts (0 + n) (fed p j))
shifts_of zero zero zero = tt
shifts_of zero zero (suc zero) = (refl, tt)
shifts_of (suc j) zero zero = tt
shifts_of (suc j) zero (suc zero) = (refl, tt)
shifts_of zero (suc p) zero = tt
shifts_of zero (suc p) (suc zero) = (refl, tt)
shifts_of (suc j) (suc p) zero = tt
shifts_of (suc j) (suc p) (suc zero) = (refl, tt)
shifts_of zero zero (suc (suc n)) =
    let not_one : (1 == 0 + suc (suc n)) ≡ false = ne_eqb 1 (0 + suc (suc n)) (λ is. absurd (omega arith)) in
    rw not_one tt
shifts_of (suc j) zero (suc (suc n)) =
    let not_one : (1 == 0 + suc (suc n)) ≡ false = ne_eqb 1 (0 + suc (suc n)) (λ is. absurd (omega arith)) in
    rw not_one tt
shifts_of zero (suc p) (suc (suc n)) =
    let not_one : (1 == 0 + suc (suc n)) ≡ false = ne_eqb 1 (0 + suc (suc n)) (λ is. absurd (omega arith)) in
    rw not_one tt
shifts_of (suc j) (suc p) (suc (suc n)) =
    let not_one : (1 == 0 + suc (suc n)) ≡ false = ne_eqb 1 (0 + suc (suc n)) (λ is. absurd (omega arith)) in
    rw not_one tt

by_one : (j n : ℕ) → n < 1 → AreNeighbours (shift_after (start j) (taken j) n) (shift_after (start j) (taken j) (n + 1))
by_one j zero low = inl refl
by_one j (suc n) low = absurd (omega arith)

-- the messages between joiners are of epoch 1
of_epoch : (i q e : ℕ) → 0 < length (moved_of e (passed i q)) + moved_ends e (passed i q) → e ≡ 1
of_epoch zero zero e has = absurd (omega arith)
of_epoch zero (suc zero) e has =
    elim (cases_eq 1 e)
    [ inl is ↦ sym is | inr differ ↦ let none : 0 < 0 = rw (ne_eqb 1 e differ) at has in absurd (omega arith) ]
of_epoch zero (suc (suc q)) e has = absurd (omega arith)
of_epoch (suc i) zero e has =
    elim (cases_eq 1 e)
    [ inl is ↦ sym is | inr differ ↦ let none : 0 < 0 = rw (ne_eqb 1 e differ) at has in absurd (omega arith) ]
of_epoch (suc i) (suc q) e has = absurd (omega arith)

-- and to the partner
to_partner : (i q e : ℕ) → i < 2 → 0 < length (moved_of e (passed i q)) + moved_ends e (passed i q)
    → q ≡ partner_of (start i) (taken i) 0
to_partner zero zero e low has = absurd (omega arith)
to_partner zero (suc zero) e low has = refl
to_partner zero (suc (suc q)) e low has = absurd (omega arith)
to_partner (suc zero) zero e low has = refl
to_partner (suc zero) (suc q) e low has = absurd (omega arith)
to_partner (suc (suc i)) q e low has = absurd (omega arith)

of_partner : (j q : ℕ) → j < 2 → q < 2 → 0 < length (moved_of 1 (passed q j)) + moved_ends 1 (passed q j)
    → q ≡ partner_of (start j) (taken j) 0
of_partner zero zero low low' has = absurd (omega arith)
of_partner zero (suc zero) low low' has = refl
of_partner (suc zero) zero low low' has = refl
of_partner (suc zero) (suc zero) low low' has = absurd (omega arith)
of_partner (suc (suc j)) q low low' has = absurd (omega arith)
of_partner j (suc (suc q)) low low' has = absurd (omega arith)

-- the one step, of a message with this epoch
at_step : (e : ℕ) → e ≡ 1 → e ≡ 0 + 0 + 1
at_step e is = is

first_step : (n : ℕ) → 0 + n + 1 ≡ 1 → n ≡ 0
first_step n is = omega arith

settled : (j n : ℕ) → j < 2 → n < 1 → IsSettled (start j) (taken j) n
settled zero zero low low' = (turned_0, omega arith)
  where
    turned_0 : (p : ℕ) → p < 2 → 0 < turns (fed p 0)
    turned_0 zero low = omega arith
    turned_0 (suc p) low = omega arith
settled (suc zero) zero low low' = (turned_1, omega arith)
  where
    turned_1 : (p : ℕ) → p < 2 → 0 < turns (fed p 1)
    turned_1 zero low = omega arith
    turned_1 (suc p) low = omega arith
settled (suc (suc j)) n low low' = absurd (omega arith)
settled j (suc n) low low' = absurd (omega arith)

at_rest : (j : ℕ) → j < 2 → IsAtRest (start j) (taken j)
at_rest zero low = (ends_0, λ n low'. settled 0 n low low')
  where
    ends_0 : (p : ℕ) → p < 2 → 0 < ends (fed p 0)
    ends_0 zero low = omega arith
    ends_0 (suc p) low = omega arith
at_rest (suc zero) low = (ends_1, λ n low'. settled 1 n low low')
  where
    ends_1 : (p : ℕ) → p < 2 → 0 < ends (fed p 1)
    ends_1 zero low = omega arith
    ends_1 (suc p) low = omega arith
at_rest (suc (suc j)) low = absurd (omega arith)

turned_in : (j n : ℕ) → j < 2 → AllTurned (start j) (taken j) n → n < 1
turned_in zero n low turned = turned 0 (omega arith)
turned_in (suc j) n low turned = turned 0 (omega arith)

never_falls : (j q : ℕ) → NeverFalls 0 (passed j q)
never_falls zero zero = tt
never_falls zero (suc zero) = (omega arith, tt)
never_falls zero (suc (suc q)) = tt
never_falls (suc j) zero = (omega arith, (omega arith, tt))
never_falls (suc j) (suc q) = tt

moved : (j n : ℕ) → j < 2 → n < 1
    → SameBag (moved_of (0 + n + 1) (passed j (partner_of (start j) (taken j) n)))
    (filter (is_of (exchanged (start j) (taken j) n)) (store (start j) (taken j) n))
moved zero zero low low' = record { sums = λ f. refl }
moved (suc zero) zero low low' = record { sums = λ f. refl }
moved (suc (suc j)) n low low' = absurd (omega arith)
moved j (suc n) low low' = absurd (omega arith)

ended : (j n : ℕ) → j < 2 → n < 1 → moved_ends (0 + n + 1) (passed j (partner_of (start j) (taken j) n)) ≡ 1
ended zero zero low low' = refl
ended (suc zero) zero low low' = refl
ended (suc (suc j)) n low low' = absurd (omega arith)
ended j (suc n) low low' = absurd (omega arith)

moved_only : (j q e : ℕ) → j < 2 → 0 < length (moved_of e (passed j q))
    → (n : ℕ) × (e ≡ 0 + n + 1) × (n < 1) × (q ≡ partner_of (start j) (taken j) n)
moved_only j q e low has =
    (0, at_step e (of_epoch j q e (omega arith)), omega arith, to_partner j q e low (omega arith))

ended_only : (j q e : ℕ) → j < 2 → 0 < moved_ends e (passed j q)
    → (n : ℕ) × (e ≡ 0 + n + 1) × AllTurned (start j) (taken j) n × (q ≡ partner_of (start j) (taken j) n)
ended_only j q e low has =
    (0, at_step e (of_epoch j q e (omega arith)), (settled j 0 low (omega arith)).0, to_partner j q e low (omega arith))

took_of_partner : (j q n : ℕ) → j < 2 → q < 2
    → 0 < length (moved_of (0 + n + 1) (passed q j)) + moved_ends (0 + n + 1) (passed q j)
    → (n < 1) × (q ≡ partner_of (start j) (taken j) n)
took_of_partner j q n low low' has =
    let first : n ≡ 0 = first_step n (of_epoch q j (0 + n + 1) has) in
    let has' : 0 < length (moved_of 1 (passed q j)) + moved_ends 1 (passed q j) =
    subst (λ m. 0 < length (moved_of (0 + m + 1) (passed q j)) + moved_ends (0 + m + 1) (passed q j)) first has in
    (omega arith, subst (λ m. q ≡ partner_of (start j) (taken j) m) (sym first) (of_partner j q low low' has'))

joiner_law : (j : ℕ) → j < 2 → JoinerLaw (start j) (family.joiner j) (taken j)
joiner_law zero low = record {
  done = 1;
  of_feeders = λ p low_p. all_of _ (fed p 0);
  of_joiners = λ q low_q. all_of _ (passed q 0);
  counts_up = λ p low_p. counts_up 0 p;
  first_shift = refl;
  same_shifts = λ p n low_p. shifts_of 0 p n;
  by_one = λ n low_n. by_one 0 n low_n;
  within = λ n low_n. omega arith;
  settled = λ n low_n. settled 0 n low low_n;
  unsettled = λ is. let turned = is.0 0 (omega arith) in absurd (omega arith);
  one_open = omega arith;
  of_partner = λ q n low_q has. took_of_partner 0 q n low low_q has;
  founds = founds 0;
  fins = last_words 0 ∷ [];
  to_collector = refl;
  pairs = λ older. record { sums = λ f. refl };
  none_empty = (omega arith, tt);
  few_founds = omega arith;
  moved = λ n low_n. moved 0 n low low_n;
  ended = λ n turned. ended 0 n low (turned_in 0 n low turned);
  moved_only = λ q e has. moved_only 0 q e low has;
  ended_only = λ q e has. ended_only 0 q e low has;
  never_falls = never_falls 0;
  told = refl;
  fin_last = inr (refl, at_rest 0 low);
  finished = λ is. refl;
}
joiner_law (suc zero) low = record {
  done = 1;
  of_feeders = λ p low_p. all_of _ (fed p 1);
  of_joiners = λ q low_q. all_of _ (passed q 1);
  counts_up = λ p low_p. counts_up 1 p;
  first_shift = refl;
  same_shifts = λ p n low_p. shifts_of 1 p n;
  by_one = λ n low_n. by_one 1 n low_n;
  within = λ n low_n. omega arith;
  settled = λ n low_n. settled 1 n low low_n;
  unsettled = λ is. let turned = is.0 0 (omega arith) in absurd (omega arith);
  one_open = omega arith;
  of_partner = λ q n low_q has. took_of_partner 1 q n low low_q has;
  founds = founds 1;
  fins = last_words 1 ∷ [];
  to_collector = refl;
  pairs = λ older. record { sums = λ f. refl };
  none_empty = (omega arith, (omega arith, tt));
  few_founds = omega arith;
  moved = λ n low_n. moved 1 n low low_n;
  ended = λ n turned. ended 1 n low (turned_in 1 n low turned);
  moved_only = λ q e has. moved_only 1 q e low has;
  ended_only = λ q e has. ended_only 1 q e low has;
  never_falls = never_falls 1;
  told = refl;
  fin_last = inr (refl, at_rest 1 low);
  finished = λ is. refl;
}
joiner_law (suc (suc j)) low = absurd (omega arith)

-- ---- all of them

abbrev agrees : IsAgreeing input setting (first_rest setting) family
agrees = record {
  taken_by_feeder = orders;
  taken_by_joiner = taken;
  feeders = feeder_law;
  joiners = joiner_law;
  controller = controller_law;
  feeder_joiner = λ p j low low'. record { rest = []; joins = append-nil (fed p j) };
  joiner_joiner = λ i j low low'. record { rest = []; joins = append-nil (passed i j) };
  controller_feeder = λ p low. record { rest = []; joins = append-nil (orders p) };
  feeder_controller = λ p low. record { rest = []; joins = append-nil (requests p) };
  joiner_controller = λ j low. record { rest = []; joins = refl };
  joiner_collector = λ j low. record { rest = []; joins = append-nil (collected j) };
}

finished : IsFinishedFamily input setting (first_rest setting) family agrees
finished = record {
  feeders = stopped;
  joiners = λ j low. (at_rest j low, λ p low_p. refl, λ q low_q. refl);
  collector = complete;
}
  where
    stopped : (p : ℕ) → p < 2 → 0 < stops (orders p)
    stopped zero low = omega arith
    stopped (suc p) low = omega arith

    complete : (j : ℕ) → j < 2 → 0 < fins (collected j)
    complete zero low = omega arith
    complete (suc j) low = omega arith

quiet : IsQuiet input setting (first_rest setting) family agrees
quiet = record {
  feeder_joiner = λ p j low low'. refl;
  joiner_joiner = λ i j link. refl;
  controller_feeder = λ p low. refl;
  feeder_controller = λ p low. refl;
  joiner_controller = λ j low. refl;
  joiner_collector = λ j low. refl;
  none_begins = λ p low. inl (drained p);
}
  where
    drained : (p : ℕ) → 0 < draineds (requests p)
    drained zero = omega arith
    drained (suc p) = omega arith

-- input and setting are valid
pub valid : IsValid input setting
valid = record {
  of_input = record { sides = sides_of; bytes = bytes_of };
  some = omega arith;
  batch = omega arith;
  small = omega arith;
  fixed = λ shift is. absurd (cc);
}
  where
    sides_of : (side : Side) → IsFor (table_of input side) (tickets_of input side) (width_of input.theta side)
    sides_of R =
        record {
          few = omega arith;
          each = refl;
          header = refl;
          rows = All-from_recursion (λ row. length row ≡ 0) input.table_r.rows (refl, (refl, tt));
        }
    sides_of S =
        record {
          few = omega arith;
          each = refl;
          header = refl;
          rows = All-from_recursion (λ row. length row ≡ 0) input.table_s.rows (refl, (refl, (refl, tt)));
        }

    is_byte : ℕ → Type 0
    is_byte ticket = ticket < 2 ^ 8

    bytes_of : (side : Side) → All is_byte (tickets_of input side)
    bytes_of R = All-from_recursion is_byte (tickets_of input R) (omega arith, (omega arith, tt))
    bytes_of S = All-from_recursion is_byte (tickets_of input S) (omega arith, (omega arith, (omega arith, tt)))

-- so a family is finished that moves a row of the old epoch
pub finished_with_an_old_row : FinishedWithAnOldRowMoved
finished_with_an_old_row = record {
  input = input;
  setting = setting;
  family = family;
  valid = valid;
  agrees = agrees;
  finished = finished;
  quiet = quiet;
  two_feeders = refl;
  migrated = refl;
  moved = omega arith;
}
