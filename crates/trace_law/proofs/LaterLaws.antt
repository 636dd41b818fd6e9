-- The actors of the finished family of a later wave keep their laws, and agree; what it begins with stands for its
-- input.
use Rattle.std.proofs.Common.{◌≡◌, ℕ, zero, suc, ◌+◌, ◌<◌, ◌≤◌, ◌^◌, ◌==◌, inl, inr, refl, sym, subst, arith, false, []}
use Rattle.std.proofs.Common.{◌∷◌, length}
use Rattle.std.specs.Prelude.{All, filter, map}
use Rattle.std.specs.List.{AllByRecursion}
use Rattle.std.proofs.lemmas.Bool.{cases_eq, ne_eqb}
use Rattle.std.proofs.lemmas.List.Elements.{All-from_recursion}
use Rattle.std.proofs.lemmas.List.{append-nil}
use Rattle.row_cells.specs.declared.table.Side.{Side}
use Rattle.row_cells.specs.declared.table.Side.TheVariants.{R, S}
use Rattle.row_cells.specs.Lists.{SameBag}
use Rattle.grid_map.specs.Load.{copies}
use Rattle.epoch_tags.specs.Messages.{moved_of, moved_ends, turn_shifts, fins}
use Rattle.epoch_tags.specs.Orders.{CountsUp, NeverFalls}
use Rattle.migration_plan.specs.Steps.{AreNeighbours, holds, is_of}
use Rattle.reshuffler_core.specs.Law.{FeederLaw, answers}
use Rattle.joiner_law.specs.Law.{JoinerLaw, JoinerStart, IsSettled, AllTurned, IsAtRest, shift_after, partner_of}
use Rattle.joiner_law.specs.Law.{exchanged, store}
use Rattle.joiner_law.proofs.Row.{all_of}
use Rattle.theta_pred.specs.Truth.{width_of}
use Rattle.trace_law.specs.Join.{table_of, tickets_of}
use Rattle.trace_law.specs.Validity.{IsFor, IsValid}
use Rattle.trace_law.specs.Family.{IsLineFor, IsRestFor, aged, old_rows, IsAgreeing, IsQuiet}
use Rattle.trace_law.specs.Family.{IsFinished as IsFinishedFamily, feeder_start, joiner_start}
use Rattle.trace_law.specs.Laws.{FinishedLaterWave}
use Rattle.trace_law.proofs.Later.{input, setting, row_r, earlier, rest, orders, fed, passed, founds, last_words}
use Rattle.trace_law.proofs.Later.{collected, taken, family}
use Rattle.trace_law.proofs.LaterController.{controller_law}

-- ---- what the wave begins with

-- no shift has fewer copies of one row of each side
fewest : (c : ℕ) → c ≤ 1 → copies 1 0 1 1 ≤ copies 1 c 1 1
fewest zero low = omega arith
fewest (suc zero) low = omega arith
fewest (suc (suc c)) low = absurd (omega arith)

-- a wave of the input can begin with its line
line_stands : IsLineFor input setting earlier
line_stands = record {
  fits = record {
    still = refl;
    reached = refl;
    within = omega arith;
    few_r = omega arith;
    few_s = omega arith;
    base_r = omega arith;
    base_s = omega arith;
    free = λ none. (refl, record { within = omega arith; fewest = fewest });
    fixed = λ shift is. absurd (cc);
  };
  begins = λ start. absurd (cc);
  within_r = omega arith;
  within_s = omega arith;
}

-- the joiners have the earlier rows that they hold
stands : IsRestFor input setting rest
stands = record { line = line_stands; stored = stored }
  where
    stored : (j : ℕ) → j < 2
        → SameBag (map (aged earlier) (rest.stores j)) (filter (holds 1 0 j) (old_rows input earlier))
    stored zero low = record { sums = λ f. refl }
    stored (suc zero) low = record { sums = λ f. refl }
    stored (suc (suc j)) low = absurd (omega arith)

-- how joiner j begins
abbrev start : ℕ → JoinerStart
start j = joiner_start input setting rest j

-- ---- the feeder

-- what it sends to the joiners answers what it received
fed_by : (p j : ℕ) → p < 1 → j < 2 → fed j ≡ answers 1 j 3 0 (feeder_start input setting rest p).batches orders
fed_by zero zero low low' = refl
fed_by zero (suc zero) low low' = refl
fed_by (suc p) j low low' = absurd (omega arith)
fed_by p (suc (suc j)) low low' = absurd (omega arith)

-- it keeps its law
pub feeder_law : (p : ℕ) → p < 1 → FeederLaw (feeder_start input setting rest p) (family.feeder p) orders
feeder_law zero low = record {
  held = [];
  splits = refl;
  stuck = λ m rest is. absurd (cc);
  asked = record { rest = []; joins = refl };
  granted = inl refl;
  drained = λ some. refl;
  orders = refl;
  stops_last = refl;
  stops_drained = λ some. omega arith;
  answered = λ j low'. fed_by 0 j low low';
}
feeder_law (suc p) low = absurd (omega arith)

-- ---- the joiners

-- epochs count up from the wave's first
pub counts_up : (j : ℕ) → CountsUp 3 (fed j)
counts_up zero = (refl, refl)
counts_up (suc j) = (refl, (refl, refl))

-- no epoch after these is 4
not_four : (n : ℕ) → (4 == 3 + suc (suc n)) ≡ false
not_four n = ne_eqb 4 (3 + suc (suc n)) (λ is. absurd (omega arith))

-- the turns carry shift 1 for epoch 4
pub shifts_of : (j n : ℕ)
    → AllByRecursion (λ shift. shift ≡ shift_after (start j) (taken j) n) (turn_shifts (3 + n) (fed j))
shifts_of zero zero = tt
shifts_of zero (suc zero) = (refl, tt)
shifts_of (suc j) zero = tt
shifts_of (suc j) (suc zero) = (refl, tt)
shifts_of zero (suc (suc n)) = rw (not_four n) tt
shifts_of (suc j) (suc (suc n)) = rw (not_four n) tt

-- a step goes to the next shift
pub by_one : (j n : ℕ) → n < 1
    → AreNeighbours (shift_after (start j) (taken j) n) (shift_after (start j) (taken j) (n + 1))
by_one j zero low = inl refl
by_one j (suc n) low = absurd (omega arith)

-- the messages between joiners are of epoch 4
of_epoch : (i q e : ℕ) → 0 < length (moved_of e (passed i q)) + moved_ends e (passed i q) → e ≡ 4
of_epoch zero zero e has = absurd (omega arith)
of_epoch zero (suc zero) e has =
    elim (cases_eq 4 e)
    [ inl is ↦ sym is | inr differ ↦ let none : 0 < 0 = rw (ne_eqb 4 e differ) at has in absurd (omega arith) ]
of_epoch zero (suc (suc q)) e has = absurd (omega arith)
of_epoch (suc i) zero e has =
    elim (cases_eq 4 e)
    [ inl is ↦ sym is | inr differ ↦ let none : 0 < 0 = rw (ne_eqb 4 e differ) at has in absurd (omega arith) ]
of_epoch (suc i) (suc q) e has = absurd (omega arith)

-- and to the partner
to_partner : (i q e : ℕ) → i < 2 → 0 < length (moved_of e (passed i q)) + moved_ends e (passed i q)
    → q ≡ partner_of (start i) (taken i) 0
to_partner zero zero e low has = absurd (omega arith)
to_partner zero (suc zero) e low has = refl
to_partner zero (suc (suc q)) e low has = absurd (omega arith)
to_partner (suc zero) zero e low has = refl
to_partner (suc zero) (suc q) e low has = absurd (omega arith)
to_partner (suc (suc i)) q e low has = absurd (omega arith)

-- and of the partner
of_partner : (j q : ℕ) → j < 2 → q < 2 → 0 < length (moved_of 4 (passed q j)) + moved_ends 4 (passed q j)
    → q ≡ partner_of (start j) (taken j) 0
of_partner zero zero low low' has = absurd (omega arith)
of_partner zero (suc zero) low low' has = refl
of_partner (suc zero) zero low low' has = refl
of_partner (suc zero) (suc zero) low low' has = absurd (omega arith)
of_partner (suc (suc j)) q low low' has = absurd (omega arith)
of_partner j (suc (suc q)) low low' has = absurd (omega arith)

-- the one step, of a message with this epoch
at_step : (e : ℕ) → e ≡ 4 → e ≡ 3 + 0 + 1
at_step e is = is

-- and of a number of steps
first_step : (n : ℕ) → 3 + n + 1 ≡ 4 → n ≡ 0
first_step n is = omega arith

-- it is settled
pub settled : (j n : ℕ) → j < 2 → n < 1 → IsSettled (start j) (taken j) n
settled zero zero low low' = (λ p low_p. omega arith, omega arith)
settled (suc zero) zero low low' = (λ p low_p. omega arith, omega arith)
settled (suc (suc j)) n low low' = absurd (omega arith)
settled j (suc n) low low' = absurd (omega arith)

-- and all is at rest
pub at_rest : (j : ℕ) → j < 2 → IsAtRest (start j) (taken j)
at_rest zero low = (λ p low_p. omega arith, λ n low'. settled 0 n low low')
at_rest (suc zero) low = (λ p low_p. omega arith, λ n low'. settled 1 n low low')
at_rest (suc (suc j)) low = absurd (omega arith)

-- the feeder has turned in this step alone
pub turned_in : (j n : ℕ) → j < 2 → AllTurned (start j) (taken j) n → n < 1
turned_in zero n low turned = turned 0 (omega arith)
turned_in (suc j) n low turned = turned 0 (omega arith)

-- epochs on a link never fall
pub never_falls : (j q : ℕ) → NeverFalls 3 (passed j q)
never_falls zero zero = tt
never_falls zero (suc zero) = (omega arith, tt)
never_falls zero (suc (suc q)) = tt
never_falls (suc j) zero = (omega arith, (omega arith, tt))
never_falls (suc j) (suc q) = tt

-- each joiner moves its rows of R to its partner
moved : (j n : ℕ) → j < 2 → n < 1
    → SameBag (moved_of (3 + n + 1) (passed j (partner_of (start j) (taken j) n)))
    (filter (is_of (exchanged (start j) (taken j) n)) (store (start j) (taken j) n))
moved zero zero low low' = record { sums = λ f. refl }
moved (suc zero) zero low low' = record { sums = λ f. refl }
moved (suc (suc j)) n low low' = absurd (omega arith)
moved j (suc n) low low' = absurd (omega arith)

-- and then ends its part
pub ended : (j n : ℕ) → j < 2 → n < 1 → moved_ends (3 + n + 1) (passed j (partner_of (start j) (taken j) n)) ≡ 1
ended zero zero low low' = refl
ended (suc zero) zero low low' = refl
ended (suc (suc j)) n low low' = absurd (omega arith)
ended j (suc n) low low' = absurd (omega arith)

-- in no other step
pub moved_only : (j q e : ℕ) → j < 2 → 0 < length (moved_of e (passed j q))
    → (n : ℕ) × (e ≡ 3 + n + 1) × (n < 1) × (q ≡ partner_of (start j) (taken j) n)
moved_only j q e low has =
    (0, at_step e (of_epoch j q e (omega arith)), omega arith, to_partner j q e low (omega arith))

-- nor there
pub ended_only : (j q e : ℕ) → j < 2 → 0 < moved_ends e (passed j q)
    → (n : ℕ) × (e ≡ 3 + n + 1) × AllTurned (start j) (taken j) n × (q ≡ partner_of (start j) (taken j) n)
ended_only j q e low has =
    (0, at_step e (of_epoch j q e (omega arith)), (settled j 0 low (omega arith)).0, to_partner j q e low (omega arith))

-- what it took of joiners was its partner's
pub took_of_partner : (j q n : ℕ) → j < 2 → q < 2
    → 0 < length (moved_of (3 + n + 1) (passed q j)) + moved_ends (3 + n + 1) (passed q j)
    → (n < 1) × (q ≡ partner_of (start j) (taken j) n)
took_of_partner j q n low low' has =
    let first : n ≡ 0 = first_step n (of_epoch q j (3 + n + 1) has) in
    let has' : 0 < length (moved_of 4 (passed q j)) + moved_ends 4 (passed q j) =
    subst (λ m. 0 < length (moved_of (3 + m + 1) (passed q j)) + moved_ends (3 + m + 1) (passed q j)) first has in
    (omega arith, subst (λ m. q ≡ partner_of (start j) (taken j) m) (sym first) (of_partner j q low low' has'))

-- each joiner keeps its law
pub joiner_law : (j : ℕ) → j < 2 → JoinerLaw (start j) (family.joiner j) (taken j)
joiner_law zero low = record {
  done = 1;
  of_feeders = λ p low_p. all_of _ (fed 0);
  of_joiners = λ q low_q. all_of _ (passed q 0);
  counts_up = λ p low_p. counts_up 0;
  first_shift = refl;
  same_shifts = λ p n low_p. shifts_of 0 n;
  by_one = λ n low_n. by_one 0 n low_n;
  within = λ n low_n. omega arith;
  settled = λ n low_n. settled 0 n low low_n;
  unsettled = λ is. let turned = is.0 0 (omega arith) in absurd (omega arith);
  one_open = omega arith;
  of_partner = λ q n low_q has. took_of_partner 0 q n low low_q has;
  founds = founds 0;
  fins = last_words 0 ∷ [];
  to_collector = refl;
  pairs = λ older. record { sums = λ f. refl };
  none_empty = tt;
  few_founds = omega arith;
  moved = λ n low_n. moved 0 n low low_n;
  ended = λ n turned. ended 0 n low (turned_in 0 n low turned);
  moved_only = λ q e has. moved_only 0 q e low has;
  ended_only = λ q e has. ended_only 0 q e low has;
  never_falls = never_falls 0;
  told = refl;
  fin_last = inr (refl, at_rest 0 low);
  finished = λ is. refl;
}
joiner_law (suc zero) low = record {
  done = 1;
  of_feeders = λ p low_p. all_of _ (fed 1);
  of_joiners = λ q low_q. all_of _ (passed q 1);
  counts_up = λ p low_p. counts_up 1;
  first_shift = refl;
  same_shifts = λ p n low_p. shifts_of 1 n;
  by_one = λ n low_n. by_one 1 n low_n;
  within = λ n low_n. omega arith;
  settled = λ n low_n. settled 1 n low low_n;
  unsettled = λ is. let turned = is.0 0 (omega arith) in absurd (omega arith);
  one_open = omega arith;
  of_partner = λ q n low_q has. took_of_partner 1 q n low low_q has;
  founds = founds 1;
  fins = last_words 1 ∷ [];
  to_collector = refl;
  pairs = λ older. record { sums = λ f. refl };
  none_empty = (omega arith, tt);
  few_founds = omega arith;
  moved = λ n low_n. moved 1 n low low_n;
  ended = λ n turned. ended 1 n low (turned_in 1 n low turned);
  moved_only = λ q e has. moved_only 1 q e low has;
  ended_only = λ q e has. ended_only 1 q e low has;
  never_falls = never_falls 1;
  told = refl;
  fin_last = inr (refl, at_rest 1 low);
  finished = λ is. refl;
}
joiner_law (suc (suc j)) low = absurd (omega arith)

-- ---- all of them

-- they agree
abbrev agrees : IsAgreeing input setting rest family
agrees = record {
  taken_by_feeder = λ p. orders;
  taken_by_joiner = taken;
  feeders = feeder_law;
  joiners = joiner_law;
  controller = controller_law;
  feeder_joiner = λ p j low low'. record { rest = []; joins = append-nil (fed j) };
  joiner_joiner = λ i j low low'. record { rest = []; joins = append-nil (passed i j) };
  controller_feeder = λ p low. record { rest = []; joins = refl };
  feeder_controller = λ p low. record { rest = []; joins = refl };
  joiner_controller = λ j low. record { rest = []; joins = refl };
  joiner_collector = λ j low. record { rest = []; joins = append-nil (collected j) };
}

-- they are finished
finished : IsFinishedFamily input setting rest family agrees
finished = record {
  feeders = λ p low. omega arith;
  joiners = λ j low. (at_rest j low, λ p low_p. refl, λ q low_q. refl);
  collector = complete;
}
  where
    complete : (j : ℕ) → j < 2 → 0 < fins (collected j)
    complete zero low = omega arith
    complete (suc j) low = omega arith

-- nothing is under way
quiet : IsQuiet input setting rest family agrees
quiet = record {
  feeder_joiner = λ p j low low'. refl;
  joiner_joiner = λ i j link. refl;
  controller_feeder = λ p low. refl;
  feeder_controller = λ p low. refl;
  joiner_controller = λ j low. refl;
  joiner_collector = λ j low. refl;
  none_begins = λ p low. inl (omega arith);
}

-- input and setting are valid
pub valid : IsValid input setting
valid = record {
  of_input = record { sides = sides_of; bytes = bytes_of };
  some = omega arith;
  batch = omega arith;
  small = omega arith;
  fixed = λ shift is. absurd (cc);
}
  where
    sides_of : (side : Side) → IsFor (table_of input side) (tickets_of input side) (width_of input.theta side)
    sides_of R =
        record {
          few = omega arith;
          each = refl;
          header = refl;
          rows = All-from_recursion (λ row. length row ≡ 0) input.table_r.rows (refl, tt);
        }
    sides_of S =
        record {
          few = omega arith;
          each = refl;
          header = refl;
          rows = All-from_recursion (λ row. length row ≡ 0) input.table_s.rows (refl, (refl, tt));
        }

    is_byte : ℕ → Type 0
    is_byte ticket = ticket < 2 ^ 8

    bytes_of : (side : Side) → All is_byte (tickets_of input side)
    bytes_of R = All-from_recursion is_byte (tickets_of input R) (omega arith, tt)
    bytes_of S = All-from_recursion is_byte (tickets_of input S) (omega arith, (omega arith, tt))

-- so a later wave is finished that moves a row from before it
pub finished_later_wave : FinishedLaterWave
finished_later_wave = record {
  input = input;
  setting = setting;
  rest = rest;
  family = family;
  valid = valid;
  stands = stands;
  agrees = agrees;
  finished = finished;
  quiet = quiet;
  migrated = refl;
  row = row_r;
  old = refl;
  older = omega arith;
  moved = refl;
  pairs = refl;
  all_pairs = refl;
}
