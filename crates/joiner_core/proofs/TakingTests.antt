-- The tests of what can be taken are true exactly where the facts hold that they test.
use Rattle.std.proofs.Common.{◌≡◌, ℕ, zero, suc, ◌+◌, inl, inr, refl, sym, ◌∙◌, ap, Bool, true, false}
use Rattle.std.proofs.Common.{cond, not, ◌&&◌, ◌||◌, Option, Some, None, List, [], ◌∷◌}
use Rattle.std.specs.Prelude.{◌==◌, nat_le, ◌⊎◌, is_none}
use Rattle.std.specs.List.{list_all}
use Rattle.std.proofs.lemmas.Bool.{cases_Bool, eq-eqb, eqb-true, le-leb, leb-true, and_parts, and_from, not-true}
use Rattle.std.proofs.lemmas.Bool.{false≢true, true_from_ne_false, false_from_ne_true}
use Rattle.std.proofs.lemmas.List.Recursion.{and_from_places}
use Rattle.std.proofs.lemmas.List.Folds.{list_all_at}
use Rattle.epoch_tags.specs.declared.message.ToJoiner.{ToJoiner}
use Rattle.epoch_tags.specs.declared.message.ToJoiner.TheVariants.{Tup, Turn, End, Moved, MovedEnd}
use Rattle.epoch_tags.specs.Flags.{flag_at, IsEachUp}
use Rattle.epoch_tags.specs.Held.{held_at}
use Rattle.migration_plan.specs.Steps.{AreNeighbours, partner_in_step}
use Rattle.joiner_core.specs.State.{OpenStep, EpochState, MachineState}
use Rattle.joiner_core.specs.Changes.{AreAllUp, IsReady}
use Rattle.joiner_core.specs.Taking.{TupFits, TurnFits, PartFits, TakesOfFeeder, TakesOfJoiner}
use Rattle.joiner_core.specs.Outcomes.{are_neighbours, stamps_in, turn_fits, part_fits, can_take_of_feeder}
use Rattle.joiner_core.specs.Outcomes.{can_take_of_joiner, are_all_up, is_ready}
use Rattle.joiner_core.specs.Calls.{is_clear, has_finished}
use Rattle.joiner_core.specs.Machine.{HasFinished}

-- ---- truth values

-- of two tests the second is true
pub or-right : (x y : Bool) → y ≡ true → (x || y) ≡ true
or-right true y is = refl
or-right false y is = is

-- the second is false
pub or-first : (x y : Bool) → y ≡ false → (x || y) ≡ x
or-first true y is = refl
or-first false y is = is

or-either : (x y : Bool) → (x || y) ≡ true → (x ≡ true) ⊎ (y ≡ true)
or-either true y is = inl refl
or-either false y is = inr is

-- ---- flags

-- where each flag is up, the test that all are is true
pub each-up : (flags : List Bool) → IsEachUp flags → list_all (λ up. up) flags ≡ true
each-up flags is = and_from_places (list_all (λ up. up)) (λ up. up) refl (λ x xs. refl) flags false is

-- and where it is true, each is up
pub up-each : (flags : List Bool) → list_all (λ up. up) flags ≡ true → IsEachUp flags
up-each flags is i low = true_from_ne_false (flag_at flags i)
    (λ down. false≢true (sym (list_all_at (λ up. up) flags i false low down) ∙ is))

-- ---- a message of a feeder

near-test : (a b : ℕ) → AreNeighbours a b → are_neighbours a b ≡ true
near-test a b (inl up) = ap (λ t. t || (a == b + 1)) (eq-eqb b (a + 1) up)
near-test a b (inr down) = or-right (b == a + 1) (a == b + 1) (eq-eqb a (b + 1) down)

test-near : (a b : ℕ) → are_neighbours a b ≡ true → AreNeighbours a b
test-near a b is = elim (or-either (b == a + 1) (a == b + 1) is) [
  | inl up ↦ inl (eqb-true b (a + 1) up)
  | inr down ↦ inr (eqb-true a (b + 1) down)
]

stamp-test : (m : EpochState) (p stamp : ℕ) (step : Option OpenStep) → TupFits m p stamp step
    → stamp ≡ stamps_in m p step
stamp-test m p stamp None fits = fits
stamp-test m p stamp (Some o) fits = elim (cases_Bool (flag_at o.turned p)) [
  | inl up ↦ fits.1 up ∙ sym (ap (λ b. cond b o.epoch m.epoch) up)
  | inr down ↦ fits.0 down ∙ sym (ap (λ b. cond b o.epoch m.epoch) down)
]

test-stamp : (m : EpochState) (p stamp : ℕ) (step : Option OpenStep) → stamp ≡ stamps_in m p step
    → TupFits m p stamp step
test-stamp m p stamp None is = is
test-stamp m p stamp (Some o) is = (
  λ down. is ∙ ap (λ b. cond b o.epoch m.epoch) down,
  λ up. is ∙ ap (λ b. cond b o.epoch m.epoch) up,
)

turn-test : (m : EpochState) (p epoch shift : ℕ) (step : Option OpenStep) → TurnFits m p epoch shift step
    → turn_fits m p epoch shift step ≡ true
turn-test m p epoch shift None fits =
    and_from (epoch == m.epoch + 1) (nat_le shift m.k && are_neighbours m.shift shift)
    (eq-eqb epoch (m.epoch + 1) fits.0)
    (and_from (nat_le shift m.k) (are_neighbours m.shift shift) (le-leb shift m.k fits.1)
    (near-test m.shift shift fits.2))
turn-test m p epoch shift (Some o) fits =
    and_from (not (flag_at o.turned p)) ((epoch == o.epoch) && (shift == o.shift)) (ap not fits.0)
    (and_from (epoch == o.epoch) (shift == o.shift) (eq-eqb epoch o.epoch fits.1) (eq-eqb shift o.shift fits.2))

test-turn : (m : EpochState) (p epoch shift : ℕ) (step : Option OpenStep) → turn_fits m p epoch shift step ≡ true
    → TurnFits m p epoch shift step
test-turn m p epoch shift None is =
    let outer = and_parts (epoch == m.epoch + 1) (nat_le shift m.k && are_neighbours m.shift shift) is in
    let inner = and_parts (nat_le shift m.k) (are_neighbours m.shift shift) outer.1 in
    (eqb-true epoch (m.epoch + 1) outer.0, leb-true shift m.k inner.0, test-near m.shift shift inner.1)
test-turn m p epoch shift (Some o) is =
    let outer = and_parts (not (flag_at o.turned p)) ((epoch == o.epoch) && (shift == o.shift)) is in
    let inner = and_parts (epoch == o.epoch) (shift == o.shift) outer.1 in
    (not-true (flag_at o.turned p) outer.0, eqb-true epoch o.epoch inner.0, eqb-true shift o.shift inner.1)

-- where a feeder's message can be taken, the test of it is true
pub feeder-test : (m : EpochState) (p : ℕ) (x : ToJoiner) → TakesOfFeeder m p x → can_take_of_feeder m p x ≡ true
feeder-test m p (Tup x) can =
    and_from (not (flag_at m.ended p)) (x.stamp == stamps_in m p m.step) (ap not can.going)
    (eq-eqb x.stamp (stamps_in m p m.step) (stamp-test m p x.stamp m.step can.fits))
feeder-test m p (Turn epoch shift) can =
    and_from (not (flag_at m.ended p)) (turn_fits m p epoch shift m.step) (ap not can.going)
    (turn-test m p epoch shift m.step can.fits)
feeder-test m p End can = ap not can
feeder-test m p (Moved epoch x) can = absurd can
feeder-test m p (MovedEnd epoch) can = absurd can

-- and where that is true, it can be taken
pub test-feeder : (m : EpochState) (p : ℕ) (x : ToJoiner) → can_take_of_feeder m p x ≡ true → TakesOfFeeder m p x
test-feeder m p (Tup x) is =
    let parts = and_parts (not (flag_at m.ended p)) (x.stamp == stamps_in m p m.step) is in
    record {
      going = not-true (flag_at m.ended p) parts.0;
      fits = test-stamp m p x.stamp m.step (eqb-true x.stamp (stamps_in m p m.step) parts.1);
    }
test-feeder m p (Turn epoch shift) is =
    let parts = and_parts (not (flag_at m.ended p)) (turn_fits m p epoch shift m.step) is in
    record {
      going = not-true (flag_at m.ended p) parts.0;
      fits = test-turn m p epoch shift m.step parts.1;
    }
test-feeder m p End is = not-true (flag_at m.ended p) is
test-feeder m p (Moved epoch x) is = false≢true is
test-feeder m p (MovedEnd epoch) is = false≢true is

-- ---- a message of a joiner

part-test : (m : EpochState) (q epoch : ℕ) (step : Option OpenStep) → PartFits m q epoch step
    → part_fits m q epoch step ≡ true
part-test m q epoch None fits = absurd fits
part-test m q epoch (Some o) fits =
    let partner = partner_in_step m.shift o.shift m.id in
    and_from (epoch == o.epoch) (not o.partner_ended && (q == partner)) (eq-eqb epoch o.epoch fits.0)
    (and_from (not o.partner_ended) (q == partner) (ap not fits.1) (eq-eqb q partner fits.2))

test-part : (m : EpochState) (q epoch : ℕ) (step : Option OpenStep) → part_fits m q epoch step ≡ true
    → PartFits m q epoch step
test-part m q epoch None is = false≢true is
test-part m q epoch (Some o) is =
    let partner = partner_in_step m.shift o.shift m.id in
    let outer = and_parts (epoch == o.epoch) (not o.partner_ended && (q == partner)) is in
    let inner = and_parts (not o.partner_ended) (q == partner) outer.1 in
    (eqb-true epoch o.epoch outer.0, not-true o.partner_ended inner.0, eqb-true q partner inner.1)

-- where a joiner's message can be taken, the test of it is true
pub joiner-test : (m : EpochState) (q : ℕ) (x : ToJoiner) → TakesOfJoiner m q x → can_take_of_joiner m q x ≡ true
joiner-test m q (Tup x) can = absurd can
joiner-test m q (Turn epoch shift) can = absurd can
joiner-test m q End can = absurd can
joiner-test m q (Moved epoch x) can = part-test m q epoch m.step can
joiner-test m q (MovedEnd epoch) can = part-test m q epoch m.step can

-- and where that is true, it can be taken
pub test-joiner : (m : EpochState) (q : ℕ) (x : ToJoiner) → can_take_of_joiner m q x ≡ true → TakesOfJoiner m q x
test-joiner m q (Tup x) is = false≢true is
test-joiner m q (Turn epoch shift) is = false≢true is
test-joiner m q End is = false≢true is
test-joiner m q (Moved epoch x) is = test-part m q epoch m.step is
test-joiner m q (MovedEnd epoch) is = test-part m q epoch m.step is

-- ---- a step

-- the answer whether all feeders have turned is the test's
pub all-up-is : (last : Bool) (step : Option OpenStep) → (last ≡ true → AreAllUp step)
    → (last ≡ false → AreAllUp step → ⊥) → last ≡ are_all_up step
all-up-is true None up down = absurd (up refl)
all-up-is true (Some o) up down = sym (each-up o.turned (up refl))
all-up-is false None up down = refl
all-up-is false (Some o) up down = sym (false_from_ne_true (list_all (λ up. up) o.turned)
    (λ all. down refl (up-each o.turned all)))

-- the answer whether the step is ready is the test's
pub ready-is : (ready : Bool) (step : Option OpenStep) → (ready ≡ true → IsReady step)
    → (ready ≡ false → IsReady step → ⊥) → ready ≡ is_ready step
ready-is true None up down = absurd (up refl)
ready-is true (Some o) up down =
    let is = up refl in
    sym (and_from o.partner_ended (list_all (λ up. up) o.turned) is.0 (each-up o.turned is.1))
ready-is false None up down = refl
ready-is false (Some o) up down = sym (false_from_ne_true (o.partner_ended && list_all (λ up. up) o.turned)
    (λ yes. let parts = and_parts o.partner_ended (list_all (λ up. up) o.turned) yes in
    down refl (parts.0, up-each o.turned parts.1)))

-- ---- the end

none-is : (step : Option OpenStep) → is_none step ≡ true → step ≡ None
none-is None is = refl
none-is (Some o) is = absurd (false≢true is)

clear-is : (queue : List ToJoiner) → is_clear queue ≡ true → queue ≡ []
clear-is [] is = refl
clear-is (x ∷ queue) is = absurd (false≢true is)

clear-test : (queues : List (List ToJoiner)) → ((i : ℕ) → held_at queues i ≡ []) → list_all is_clear queues ≡ true
clear-test queues none = and_from_places (list_all is_clear) is_clear refl (λ x xs. refl) queues []
    (λ i low. ap is_clear (none i))

test-clear : (queues : List (List ToJoiner)) → list_all is_clear queues ≡ true → (i : ℕ) → held_at queues i ≡ []
test-clear [] is i = refl
test-clear (queue ∷ queues) is zero =
    clear-is queue (and_parts (is_clear queue) (list_all is_clear queues) is).0
test-clear (queue ∷ queues) is (suc i) =
    test-clear queues (and_parts (is_clear queue) (list_all is_clear queues) is).1 i

-- where the machine has finished, the test of it is true
pub finished-test : (m : MachineState) → HasFinished m → has_finished m ≡ true
finished-test m is =
    let up = list_all (λ up. up) m.epochs.ended in
    let feeders = list_all is_clear m.of_feeders in
    let joiners = list_all is_clear m.of_joiners in
    and_from (is_none m.epochs.step) (up && (feeders && joiners)) (ap (λ (z : Option OpenStep). is_none z) is.closed)
    (and_from up (feeders && joiners) (each-up m.epochs.ended is.ended)
    (and_from feeders joiners (clear-test m.of_feeders is.feeders) (clear-test m.of_joiners is.joiners)))

-- and where that is true, it has finished
pub test-finished : (m : MachineState) → has_finished m ≡ true → HasFinished m
test-finished m is =
    let up = list_all (λ up. up) m.epochs.ended in
    let feeders = list_all is_clear m.of_feeders in
    let joiners = list_all is_clear m.of_joiners in
    let outer = and_parts (is_none m.epochs.step) (up && (feeders && joiners)) is in
    let inner = and_parts up (feeders && joiners) outer.1 in
    let held = and_parts feeders joiners inner.1 in
    record {
      closed = none-is m.epochs.step outer.0;
      ended = up-each m.epochs.ended inner.0;
      feeders = test-clear m.of_feeders held.0;
      joiners = test-clear m.of_joiners held.1;
    }
