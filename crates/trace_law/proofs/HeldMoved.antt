-- A moment of the family with an old row that is moved: at joiner 1 the first feeder has turned and the second has not,
-- so its rows of the old epoch come late; one of them was moved on, and joiner 0 holds it, before any turn of its own.
use Rattle.std.proofs.Common.{◌≡◌, ℕ, zero, suc, ◌+◌, ◌<◌, ◌==◌, inl, inr, refl, sym, subst, arith, true, false, List}
use Rattle.std.proofs.Common.{[], ◌∷◌, ◌++◌, length}
use Rattle.std.specs.Prelude.{map, filter, reverse, drop}
use Rattle.std.specs.List.{AllByRecursion}
use Rattle.std.proofs.lemmas.Bool.{cases_eq, ne_eqb}
use Rattle.row_cells.specs.Lists.{SameBag}
use Rattle.epoch_tags.specs.declared.message.ToFeeder.{ToFeeder}
use Rattle.epoch_tags.specs.declared.message.ToFeeder.TheVariants.{Order, Grant}
use Rattle.epoch_tags.specs.declared.message.ToJoiner.{ToJoiner}
use Rattle.epoch_tags.specs.declared.message.ToJoiner.TheVariants.{Tup, Turn, Moved}
use Rattle.epoch_tags.specs.declared.message.ToController.{ToController}
use Rattle.epoch_tags.specs.declared.message.ToController.TheVariants.{Ask}
use Rattle.epoch_tags.specs.declared.message.ToCollector.{ToCollector}
use Rattle.epoch_tags.specs.declared.message.ToCollector.TheVariants.{Found}
use Rattle.epoch_tags.specs.Messages.{moved_of, moved_ends, turn_shifts}
use Rattle.epoch_tags.specs.Orders.{CountsUp, NeverFalls}
use Rattle.migration_plan.specs.Steps.{AreNeighbours, is_of}
use Rattle.reshuffler_core.specs.Law.{FeederLaw, answers}
use Rattle.joiner_law.specs.Law.{JoinerLaw, JoinerStart, Taken, IsTakenOf, CanTakeOfJoiner, shift_after, partner_of}
use Rattle.joiner_law.specs.Law.{exchanged, store}
use Rattle.load_controller.specs.declared.line.Cause.TheVariants.{Count}
use Rattle.load_controller.specs.declared.line.TurnLine.{TurnLine}
use Rattle.load_controller.specs.Journal.{begun, Follows, start_line}
use Rattle.load_controller.specs.Worked.{past_of}
use Rattle.load_controller.specs.Law.{ControllerLaw, CountsMessages, CountsSettled, sent_by}
use Rattle.trace_law.specs.Family.{Family, IsAgreeing, feeder_start, joiner_start, rules_of, first_rest}
use Rattle.trace_law.specs.Laws.{HoldsAMovedRow}
use Rattle.trace_law.proofs.Late.{input, setting, r_row, s_row, old_row, pair}
use Rattle.trace_law.proofs.LateLaws.{valid}
use Rattle.std.proofs.lemmas.List.{append-nil}
use Rattle.joiner_law.proofs.Row.{all_of}

-- ---- the lists

abbrev received : ℕ → List ToFeeder
received zero = Order 1 1 ∷ Grant ∷ []
received (suc p) = Grant ∷ []

abbrev unseen : ℕ → List ToFeeder
unseen zero = []
unseen (suc p) = Order 1 1 ∷ []

abbrev asked : ℕ → List ToController
asked zero = Ask 1 2 ∷ []
asked (suc p) = Ask 1 1 ∷ []

abbrev fed : ℕ → ℕ → List ToJoiner
fed zero zero = Turn 1 1 ∷ Tup (r_row 0 0 1) ∷ Tup (s_row 0 0 1) ∷ []
fed zero (suc j) = Turn 1 1 ∷ Tup (r_row 0 0 1) ∷ Tup (s_row 2 3 1) ∷ []
fed (suc p) zero = Tup (s_row 1 1 0) ∷ []
fed (suc p) (suc j) = Tup old_row ∷ Tup (s_row 1 1 0) ∷ []

-- joiner 0 has nothing of its feeders yet
abbrev came : ℕ → ℕ → List ToJoiner
came p zero = []
came zero (suc j) = Turn 1 1 ∷ []
came (suc p) (suc j) = Tup old_row ∷ Tup (s_row 1 1 0) ∷ []

abbrev to_come : ℕ → ℕ → List ToJoiner
to_come p zero = fed p zero
to_come zero (suc j) = Tup (r_row 0 0 1) ∷ Tup (s_row 2 3 1) ∷ []
to_come (suc p) (suc j) = []

abbrev passed : ℕ → ℕ → List ToJoiner
passed zero q = []
passed (suc i) zero = Moved 1 old_row ∷ []
passed (suc i) (suc q) = []

abbrev found_so_far : ℕ → List ToCollector
found_so_far zero = []
found_so_far (suc j) = Found (map pair ((1, 1) ∷ [])) ∷ []

abbrev taken : ℕ → Taken
taken j = record { from_feeder = λ p. came p j; from_joiner = λ q. []; shift_at = λ e. e }

abbrev journal : List TurnLine
journal = reverse (past_of (rules_of setting) (start_line (rules_of setting)) [] (Count 1 1 1 ∷ Count 0 1 2 ∷ []))

abbrev family : Family
family = record {
  feeder = λ p. record { received = received p; to_controller = asked p; to_joiner = fed p };
  joiner =
      λ j. record {
        from_feeder = λ p. came p j;
        from_joiner = λ q. passed q j;
        to_joiner = passed j;
        to_controller = [];
        to_collector = found_so_far j;
      };
  controller =
      record { from_feeder = asked; from_joiner = λ j. []; to_feeder = λ p. received p ++ unseen p; journal = journal };
  collector = record { from_joiner = found_so_far };
}

abbrev start : ℕ → JoinerStart
start j = joiner_start input setting (first_rest setting) j

-- ---- the feeders

fed_by : (p j : ℕ) → p < 2 → j < 2
    → fed p j ≡ answers 1 j 0 0 (feeder_start input setting (first_rest setting) p).batches (received p)
fed_by zero zero low low' = refl
fed_by zero (suc zero) low low' = refl
fed_by (suc zero) zero low low' = refl
fed_by (suc zero) (suc zero) low low' = refl
fed_by (suc (suc p)) j low low' = absurd (omega arith)
fed_by p (suc (suc j)) low low' = absurd (omega arith)

feeder_law : (p : ℕ) → p < 2
    → FeederLaw (feeder_start input setting (first_rest setting) p) (family.feeder p) (received p)
feeder_law zero low = record {
  held = [];
  splits = refl;
  stuck = λ m rest is. absurd (cc);
  asked = record { rest = _; joins = refl };
  granted = inl refl;
  drained = λ some. refl;
  orders = refl;
  stops_last = tt;
  stops_drained = λ some. absurd (omega arith);
  answered = λ j low'. fed_by 0 j low low';
}
feeder_law (suc zero) low = record {
  held = [];
  splits = refl;
  stuck = λ m rest is. absurd (cc);
  asked = record { rest = _; joins = refl };
  granted = inl refl;
  drained = λ some. refl;
  orders = refl;
  stops_last = tt;
  stops_drained = λ some. absurd (omega arith);
  answered = λ j low'. fed_by 1 j low low';
}
feeder_law (suc (suc p)) low = absurd (omega arith)

-- ---- the joiner that holds what was moved

not_yet : (q : ℕ) → IsTakenOf (CanTakeOfJoiner (start 0) (taken 0) 0 q) [] (passed q 0)
not_yet zero = record { held = []; splits = refl; stuck = λ m rest is. absurd (cc) }
not_yet (suc q) = record { held = Moved 1 old_row ∷ []; splits = refl; stuck = λ m rest is can. cannot m (cc) can }
  where
    cannot : (m : ToJoiner) → m ≡ Moved 1 old_row → ¬ CanTakeOfJoiner (start 0) (taken 0) 0 (suc q) m
    cannot m is can =
        let part : CanTakeOfJoiner (start 0) (taken 0) 0 (suc q) (Moved 1 old_row) =
        subst (CanTakeOfJoiner (start 0) (taken 0) 0 (suc q)) is can in absurd (omega (arith, part.0))

holds : JoinerLaw (start 0) (family.joiner 0) (taken 0)
holds = record {
  done = 0;
  of_feeders = λ p low. all_of _ [];
  of_joiners = λ q low. not_yet q;
  counts_up = λ p low. tt;
  first_shift = refl;
  same_shifts = λ p n low. tt;
  by_one = λ n low. absurd (omega arith);
  within = λ n low. omega arith;
  settled = λ n low. absurd (omega arith);
  unsettled = λ is. let turned = is.0 0 (omega arith) in absurd (omega arith);
  one_open = omega arith;
  of_partner = λ q n low has. absurd (omega arith);
  founds = [];
  fins = [];
  to_collector = refl;
  pairs = λ older. record { sums = λ f. refl };
  none_empty = tt;
  few_founds = omega arith;
  moved = λ n low. absurd (omega arith);
  ended = λ n turned. let one = turned 0 (omega arith) in absurd (omega arith);
  moved_only = λ q e has. absurd (omega arith);
  ended_only = λ q e has. absurd (omega arith);
  never_falls = λ q. tt;
  told = refl;
  fin_last = inl refl;
  finished = λ is. let one = is.0.0 0 (omega arith) in absurd (omega arith);
}

-- ---- the joiner that moves the late row

moves_on : JoinerLaw (start 1) (family.joiner 1) (taken 1)
moves_on = record {
  done = 0;
  of_feeders = λ p low. all_of _ (came p 1);
  of_joiners = λ q low. none_of q;
  counts_up = λ p low. counts_up p;
  first_shift = refl;
  same_shifts = λ p n low. shifts_of p n;
  by_one = by_one;
  within = λ n low. omega arith;
  settled = λ n low. absurd (omega arith);
  unsettled = λ is. let turned = is.0 1 (omega arith) in absurd (omega arith);
  one_open = omega arith;
  of_partner = λ q n low has. absurd (omega arith);
  founds = map pair ((1, 1) ∷ []) ∷ [];
  fins = [];
  to_collector = refl;
  pairs = λ older. record { sums = λ f. refl };
  none_empty = (omega arith, tt);
  few_founds = omega arith;
  moved = moved;
  ended = λ n turned. let one = turned 1 (omega arith) in absurd (omega arith);
  moved_only = λ q e has. (0, of_epoch q e has, omega arith, to_partner q e has);
  ended_only = λ q e has. absurd (no_ends q e has);
  never_falls = never_falls;
  told = refl;
  fin_last = inl refl;
  finished = λ is. let one = is.0.0 1 (omega arith) in absurd (omega arith);
}
  where
    none_of : (q : ℕ) → IsTakenOf (CanTakeOfJoiner (start 1) (taken 1) 0 q) [] (passed q 1)
    none_of zero = record { held = []; splits = refl; stuck = λ m rest is. absurd (cc) }
    none_of (suc q) = record { held = []; splits = refl; stuck = λ m rest is. absurd (cc) }

    counts_up : (p : ℕ) → CountsUp 0 (came p 1)
    counts_up zero = (refl, tt)
    counts_up (suc p) = (refl, (refl, tt))

    shifts_of : (p n : ℕ)
        → AllByRecursion (λ shift. shift ≡ shift_after (start 1) (taken 1) n) (turn_shifts (0 + n) (came p 1))
    shifts_of zero zero = tt
    shifts_of zero (suc zero) = (refl, tt)
    shifts_of zero (suc (suc n)) =
        let not_one : (1 == 0 + suc (suc n)) ≡ false = ne_eqb 1 (0 + suc (suc n)) (λ is. absurd (omega arith)) in
        rw not_one tt
    shifts_of (suc p) n = tt

    by_one : (n : ℕ) → n < 1
        → AreNeighbours (shift_after (start 1) (taken 1) n) (shift_after (start 1) (taken 1) (n + 1))
    by_one zero low = inl refl
    by_one (suc n) low = absurd (omega arith)

    moved : (n : ℕ) → n < 1
        → SameBag (moved_of (0 + n + 1) (passed 1 (partner_of (start 1) (taken 1) n)))
        (filter (is_of (exchanged (start 1) (taken 1) n)) (store (start 1) (taken 1) n))
    moved zero low = record { sums = λ f. refl }
    moved (suc n) low = absurd (omega arith)

    of_epoch : (q e : ℕ) → 0 < length (moved_of e (passed 1 q)) → e ≡ 0 + 0 + 1
    of_epoch zero e has =
        elim (cases_eq 1 e)
        [ inl is ↦ sym is | inr differ ↦ let none : 0 < 0 = rw (ne_eqb 1 e differ) at has in absurd (omega arith) ]
    of_epoch (suc q) e has = absurd (omega arith)

    to_partner : (q e : ℕ) → 0 < length (moved_of e (passed 1 q)) → q ≡ partner_of (start 1) (taken 1) 0
    to_partner zero e has = refl
    to_partner (suc q) e has = absurd (omega arith)

    no_ends : (q e : ℕ) → 0 < moved_ends e (passed 1 q) → ⊥
    no_ends zero e has = absurd (omega arith)
    no_ends (suc q) e has = absurd (omega arith)

    never_falls : (q : ℕ) → NeverFalls 0 (passed 1 q)
    never_falls zero = (omega arith, tt)
    never_falls (suc q) = tt

joiner_law : (j : ℕ) → j < 2 → JoinerLaw (start j) (family.joiner j) (taken j)
joiner_law zero low = holds
joiner_law (suc zero) low = moves_on
joiner_law (suc (suc j)) low = absurd (omega arith)

-- ---- the controller

abbrev line : TurnLine
line =
    record {
      cause = Count 0 1 2;
      rows_r = 2;
      rows_s = 3;
      base_r = 2;
      base_s = 3;
      epoch = 1;
      shift = 1;
      goal = 1;
      moving = true;
    }

abbrev past : List TurnLine
past = drop 1 (reverse journal)

counts : (p : ℕ) → p < 2 → CountsMessages p line past (asked p)
counts zero low = record {
  counted = asked 0;
  passed = [];
  splits = refl;
  are_counted =
      record {
        earlier = [];
        passed = [];
        m = Ask 1 2;
        splits = refl;
        passes = tt;
        in_place = (refl, omega arith, omega arith);
        is = refl;
        are_earlier = refl;
      };
  not_in_place = tt;
}
counts (suc zero) low = record {
  counted = asked 1;
  passed = [];
  splits = refl;
  are_counted =
      record {
        earlier = [];
        passed = [];
        m = Ask 1 1;
        splits = refl;
        passes = tt;
        in_place = (refl, omega arith, omega arith);
        is = refl;
        are_earlier = refl;
      };
  not_in_place = tt;
}
counts (suc (suc p)) low = absurd (omega arith)

settles : (j : ℕ) → j < 2 → CountsSettled j line past []
settles zero low =
    record { counted = []; held = []; splits = refl; are_settled = refl; stuck = λ epoch rest is. absurd (cc) }
settles (suc j) low =
    record { counted = []; held = []; splits = refl; are_settled = refl; stuck = λ epoch rest is. absurd (cc) }

sends : (p : ℕ) → p < 2 → received p ++ unseen p ≡ sent_by (rules_of setting) p (line ∷ past)
sends zero low = refl
sends (suc zero) low = refl
sends (suc (suc p)) low = absurd (omega arith)

follows : Follows (rules_of setting) (begun (first_rest setting).line) (line ∷ past)
follows = let none : 0 < 2 = omega arith in let one : 1 < 2 = omega arith in (refl, none, (refl, one, refl))

controller_law : ControllerLaw (rules_of setting) (begun (first_rest setting).line) family.controller
controller_law =
    record {
      line = line;
      past = past;
      journal = refl;
      follows = follows;
      counts = counts;
      settles = settles;
      sends = sends;
    }

-- ---- all of them

rest_of : (p j : ℕ) → came p j ++ to_come p j ≡ fed p j
rest_of p zero = refl
rest_of zero (suc j) = refl
rest_of (suc p) (suc j) = refl

abbrev agrees : IsAgreeing input setting (first_rest setting) family
agrees = record {
  taken_by_feeder = received;
  taken_by_joiner = taken;
  feeders = feeder_law;
  joiners = joiner_law;
  controller = controller_law;
  feeder_joiner = λ p j low low'. record { rest = to_come p j; joins = rest_of p j };
  joiner_joiner = λ i j low low'. record { rest = []; joins = append-nil (passed i j) };
  controller_feeder = λ p low. record { rest = unseen p; joins = refl };
  feeder_controller = λ p low. record { rest = []; joins = append-nil (asked p) };
  joiner_controller = λ j low. record { rest = []; joins = refl };
  joiner_collector = λ j low. record { rest = []; joins = append-nil (found_so_far j) };
}

-- so a joiner holds a moved row before any step of its own
pub holds_a_moved_row : HoldsAMovedRow
holds_a_moved_row = record {
  input = input;
  setting = setting;
  family = family;
  valid = valid;
  agrees = agrees;
  first_turned = refl;
  second_not = refl;
  row = old_row;
  old = refl;
  more = Tup (s_row 1 1 0) ∷ [];
  late = refl;
  received = refl;
  held = refl;
  not_opened = refl;
}
