-- Where no slot has an event, nothing is left on any link, and no feeder would begin.
use Rattle.std.proofs.Common.{◌≡◌, ℕ, zero, suc, ◌+◌, ◌-◌, ◌%◌, ◌^◌, ◌<◌, ◌≤◌, refl, sym, ap, subst, ◌∙◌, inl, inr}
use Rattle.std.proofs.Common.{Bool, true, false, true≢false, List, [], ◌∷◌, ◌++◌, length, map, Some, arith}
use Rattle.std.specs.Prelude.{bit_xor, flat_map, slice_get}
use Rattle.std.specs.List.{range_with_len}
use Rattle.std.proofs.Math.Nat.{add-mod_right, mod-add-mod, mod-eq_of_lt}
use Rattle.std.proofs.lemmas.Bool.{cases_lt}
use Rattle.std.proofs.lemmas.List.FromFn.{get_or-range_with_len, length-range_with_len}
use Rattle.std.proofs.lemmas.Nat.{mod_below}
use Rattle.std.proofs.lemmas.Option.{slice_get-get_or, slice_get_within}
use Rattle.epoch_tags.specs.Links.{HasLink, feeder_joiner, joiner_joiner, controller_feeder, feeder_controller}
use Rattle.epoch_tags.specs.Links.{joiner_controller, joiner_collector}
use Rattle.epoch_tags.specs.declared.actor.Actor.{Actor}
use Rattle.epoch_tags.specs.declared.actor.Actor.TheVariants.{Feeder, Joiner, Controller, Collector}
use Rattle.trace_law.specs.declared.setting.Setting.{Setting}
use Rattle.actor_core.specs.Lists.{ActorLists}
use Rattle.actor_core.specs.Elements.{IsAllAt}
use Rattle.actor_core.specs.Tasks.{Task, IsTask}
use Rattle.link_trace.specs.declared.slots.Slot.{Slot}
use Rattle.link_trace.specs.declared.slots.Slot.TheVariants.{Begin, Link}
use Rattle.link_trace.specs.Worlds.{WorldState, StandsFor, IsStill, left_of}
use Rattle.link_trace.specs.Order.{AreIdleFrom, IsIdle, from_joiners, slots_of, to_joiners, to_partners}
use Rattle.link_trace.specs.Starving.{AreIdleBelow}
use Rattle.actor_core.proofs.OwnNumbers.{none_some, some_is}

-- ---- what holds at each place of a list holds at each of its parts

module _ {X : Type 0} (P : X → Type 0) where
  all_front : (xs ys : List X) → IsAllAt P (xs ++ ys) → IsAllAt P xs
  all_front [] ys all n x is = absurd (none_some x is)
  all_front (y ∷ xs) ys all zero x is = all zero x is
  all_front (y ∷ xs) ys all (suc n) x is = all_front xs ys (λ k z e. all (suc k) z e) n x is

  all_rest : (xs ys : List X) → IsAllAt P (xs ++ ys) → IsAllAt P ys
  all_rest [] ys all = all
  all_rest (x ∷ xs) ys all = all_rest xs ys (λ k z e. all (suc k) z e)

  all_mapped : {Y : Type 0} (f : Y → X) (ys : List Y) → IsAllAt P (map f ys) → IsAllAt (λ y. P (f y)) ys
  all_mapped f [] all n y is = absurd (none_some y is)
  all_mapped f (z ∷ ys) all zero y is = subst (λ x. P (f x)) (some_is z y is) (all zero (f z) refl)
  all_mapped f (z ∷ ys) all (suc n) y is = all_mapped f ys (λ k x e. all (suc k) x e) n y is

  all_flat : {Y : Type 0} (g : Y → List X) (ys : List Y) → IsAllAt P (flat_map g ys) → IsAllAt (λ y. IsAllAt P (g y)) ys
  all_flat g [] all n y is = absurd (none_some y is)
  all_flat g (z ∷ ys) all zero y is = subst (λ x. IsAllAt P (g x)) (some_is z y is)
      (all_front (g z) (flat_map g ys) all)
  all_flat g (z ∷ ys) all (suc n) y is = all_flat g ys (all_rest (g z) (flat_map g ys) all) n y is

  -- so it holds at each number below n, where it holds of what comes of the numbers
  all_below : (Q : ℕ → Type 0) (n p : ℕ) → p < n → IsAllAt Q (range_with_len 0 n) → Q p
  all_below Q n p low all =
      let there : 0 + p ≡ p = omega arith in
      let within : p < length (range_with_len 0 n) = subst (λ m. p < m) (sym (length-range_with_len 0 n)) low in
      all p p (slice_get-get_or (range_with_len 0 n) p 0 within ∙ ap Some (get_or-range_with_len 0 n p 0 low ∙ there))

  each_mapped : (f : ℕ → X) (n p : ℕ) → p < n → IsAllAt P (map f (range_with_len 0 n)) → P (f p)
  each_mapped f n p low all = all_below (λ i. P (f i)) n p low (all_mapped f (range_with_len 0 n) all)

  each_flat : (g : ℕ → List X) (n p : ℕ) → p < n → IsAllAt P (flat_map g (range_with_len 0 n)) → IsAllAt P (g p)
  each_flat g n p low all = all_below (λ i. IsAllAt P (g i)) n p low (all_flat g (range_with_len 0 n) all)

-- ---- all slots of a run

module _ (setting : Setting) (w : WorldState) (all : IsAllAt (IsIdle w) (slots_of setting)) where
  -- the slots of a run up to those of each kind
  abbrev begins : List Slot
  begins = map Begin (range_with_len 0 setting.feeders)

  abbrev dealt : List Slot
  dealt = begins ++ flat_map (to_joiners (2 ^ setting.k)) (range_with_len 0 setting.feeders)

  abbrev exchanged : List Slot
  exchanged = dealt ++ flat_map (to_partners setting.k) (range_with_len 0 (2 ^ setting.k))

  abbrev ordered : List Slot
  ordered = exchanged ++ map (λ p. Link Controller (Feeder p)) (range_with_len 0 setting.feeders)

  abbrev asked : List Slot
  asked = ordered ++ map (λ p. Link (Feeder p) Controller) (range_with_len 0 setting.feeders)

  abbrev settled : List Slot
  settled = asked ++ from_joiners (2 ^ setting.k) Controller

  to_settled : IsAllAt (IsIdle w) settled
  to_settled = all_front (IsIdle w) settled (from_joiners (2 ^ setting.k) Collector) all

  to_asked : IsAllAt (IsIdle w) asked
  to_asked = all_front (IsIdle w) asked (from_joiners (2 ^ setting.k) Controller) to_settled

  to_ordered : IsAllAt (IsIdle w) ordered
  to_ordered = all_front (IsIdle w) ordered _ to_asked

  to_exchanged : IsAllAt (IsIdle w) exchanged
  to_exchanged = all_front (IsIdle w) exchanged _ to_ordered

  to_dealt : IsAllAt (IsIdle w) dealt
  to_dealt = all_front (IsIdle w) dealt _ to_exchanged

  waiting : (p : ℕ) → p < setting.feeders → IsIdle w (Begin p)
  waiting p low = each_mapped (IsIdle w) Begin setting.feeders p low (all_front (IsIdle w) begins _ to_dealt)

  nothing_left : (from to : Actor) → HasLink setting.k setting.feeders from to → left_of w from to ≡ []
  nothing_left _ _ (feeder_joiner {p = p} {j = j} low high) =
      each_mapped (IsIdle w) (λ j. Link (Feeder p) (Joiner j)) (2 ^ setting.k) j high
      (each_flat (IsIdle w) (to_joiners (2 ^ setting.k)) setting.feeders p low
      (all_rest (IsIdle w) begins _ to_dealt))
  nothing_left _ _ (joiner_joiner {i = i} {low = bit} high within) =
      each_mapped (IsIdle w) (λ bit. Link (Joiner i) (Joiner (bit_xor i (2 ^ bit)))) setting.k bit within
      (each_flat (IsIdle w) (to_partners setting.k) (2 ^ setting.k) i high (all_rest (IsIdle w) dealt _ to_exchanged))
  nothing_left _ _ (controller_feeder {p = p} low) =
      each_mapped (IsIdle w) (λ p. Link Controller (Feeder p)) setting.feeders p low
      (all_rest (IsIdle w) exchanged _ to_ordered)
  nothing_left _ _ (feeder_controller {p = p} low) =
      each_mapped (IsIdle w) (λ p. Link (Feeder p) Controller) setting.feeders p low
      (all_rest (IsIdle w) ordered _ to_asked)
  nothing_left _ _ (joiner_controller {j = j} low) =
      each_mapped (IsIdle w) (λ i. Link (Joiner i) Controller) (2 ^ setting.k) j low
      (all_rest (IsIdle w) asked _ to_settled)
  nothing_left _ _ (joiner_collector {j = j} low) =
      each_mapped (IsIdle w) (λ i. Link (Joiner i) Collector) (2 ^ setting.k) j low
      (all_rest (IsIdle w) settled _ all)

  -- where no slot of a run has an event, nothing is left on any of its links, and no feeder would begin
  pub idle_is_still : IsStill setting w
  idle_is_still = record { links = nothing_left; waits = waiting }

-- ---- who looks at each slot has looked at all

step_on : (r n count : ℕ) → r < count → n < r → (n + count - r < count) × (r + (n + count - r) ≡ n + count)
step_on r n count low before = (omega arith, omega arith)

step_to : (r n count : ℕ) → n < count → r ≤ n → (n - r < count) × (r + (n - r) ≡ n)
step_to r n count low behind = (omega arith, omega arith)

-- from any place on, going round, each place is reached
goes_round : (word count n : ℕ) → n < count → (i : ℕ) × (i < count) × ((word + i) % count ≡ n)
goes_round word count n low = elim (cases_lt n (word % count)) [
  | inl before ↦
      let step = step_on (word % count) n count (mod_below word count (omega arith)) before in (
        n + count - word % count,
        step.0,
        sym (mod-add-mod word count (n + count - word % count))
            ∙ (ap (λ z. z % count) step.1 ∙ (add-mod_right n count ∙ mod-eq_of_lt low)),
      )
  | inr behind ↦
      let step = step_to (word % count) n count low behind in (
        n - word % count,
        step.0,
        sym (mod-add-mod word count (n - word % count)) ∙ (ap (λ z. z % count) step.1 ∙ mod-eq_of_lt low),
      )
]

-- where, from the place that a word names on, as many slots as there are have no event, none of them has one
pub idle_round : (slots : List Slot) (word : ℕ) (w : WorldState) → AreIdleFrom slots word (length slots) w
    → IsAllAt (IsIdle w) slots
idle_round slots word w idle n slot there =
    let at = goes_round word (length slots) n (slice_get_within slots n slot there) in
    idle at.0 slot at.1 (subst (λ z. slice_get slots z ≡ Some slot) (sym at.2) there)

-- where each slot may be served, and none below their number has an event, none has one
pub idle_below : (slots : List Slot) (starved : Actor) (w : WorldState)
    → AreIdleBelow true starved slots (length slots) w → IsAllAt (IsIdle w) slots
idle_below slots starved w idle n slot there = idle n slot (slice_get_within slots n slot there) there refl

-- ---- what isn't done has a slot with an event

module _ (task : Task) (w : WorldState) (lists : Actor → ActorLists) (is_task : IsTask task)
    (stands : StandsFor task w lists) where
  -- a world that stands for lists of a task, and isn't done though it would be if it were still, has a slot with an
  -- event
  pub some_has_one : (slots : List Slot) → slots ≡ slots_of task.setting → (done : Bool)
      → ((task' : Task) (lists' : Actor → ActorLists) → IsTask task' → StandsFor task' w lists'
      → IsStill task'.setting w → done ≡ true)
      → done ≡ false → ¬ IsAllAt (IsIdle w) slots
  some_has_one slots is done still goes idle =
      true≢false (sym (still task lists is_task stands
      (idle_is_still task.setting w (subst (λ s. IsAllAt (IsIdle w) s) is idle))) ∙ goes)
