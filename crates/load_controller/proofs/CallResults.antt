-- What a call leaves is a function of what the machine held and of the message.
use Rattle.std.proofs.Common.{◌≡◌, ℕ, zero, suc, ◌+◌, ◌^◌, ◌<◌, ◌≤◌, inl, inr, refl, sym, ◌∙◌, ap, arith, Bool, true}
use Rattle.std.proofs.Common.{false, not, ◌&&◌, List, [], ◌∷◌, ◌++◌, drop, length, reverse, Some, None}
use Rattle.std.specs.Prelude.{◌==◌, nat_lt, nat_le, slice_set, sum_by}
use Rattle.std.specs.List.{find}
use Rattle.std.proofs.lemmas.Bool.{cases_Bool, cases_eq, eq-eqb, eqb-true, lt-ltb, ltb-true, le-leb, leb-true}
use Rattle.std.proofs.lemmas.Bool.{and_parts, and_from, not-true, false≢true}
use Rattle.std.proofs.lemmas.List.Sums.{sum_by-set}
use Rattle.row_cells.specs.Lists.{counting_from}
use Rattle.epoch_tags.specs.declared.actor.Actor.{Actor}
use Rattle.epoch_tags.specs.declared.actor.Actor.TheVariants.{Feeder, Joiner, Controller, Collector}
use Rattle.epoch_tags.specs.declared.message.ToController.{ToController}
use Rattle.epoch_tags.specs.declared.message.ToController.TheVariants.{Ask, Drained, Settled}
use Rattle.epoch_tags.specs.Held.{held_at}
use Rattle.load_controller.specs.declared.line.Cause.{Cause}
use Rattle.load_controller.specs.declared.ledger.Ledger.{Ledger}
use Rattle.load_controller.specs.Journal.{line_after, has_drained, has_settled}
use Rattle.load_controller.specs.Law.{IsInPlace}
use Rattle.load_controller.specs.Standing.{IsPassedOver, journal_with, with_line, is_ready, lowest_ready, with_settled}
use Rattle.load_controller.specs.Standing.{with_next, with_held, with_all_held, is_in_place, counts_feeder, state_after}
use Rattle.load_controller.specs.Machine.{IsSound, IsReady, IsStuck, HasPlace, rules_of, state_of, held_in_all}

-- ---- the first number that passes

finds : (test : ℕ → Bool) (a n j : ℕ) → a ≤ j → j < a + n → test j ≡ true → ((i : ℕ) → i < j → test i ≡ false)
    → find test (counting_from a n) ≡ Some j
finds test a zero j low high is none = absurd (omega arith)
finds test a (suc n) j low high is none = elim (cases_eq a j) [
  | inl same ↦ rw (ap test same ∙ is) (ap Some same)
  | inr differ ↦ rw (none a (omega arith)) (finds test (a + 1) n j (omega arith) (omega arith) is none)
]

finds_none : (test : ℕ → Bool) (a n : ℕ) → ((i : ℕ) → i < a + n → test i ≡ false) → find test (counting_from a n) ≡ None
finds_none test a zero none = refl
finds_none test a (suc n) none = rw (none a (omega arith)) (finds_none test (a + 1) n (λ i below. none i (omega arith)))

-- ---- the lowest joiner that is ready

module _ (c : Ledger) (s : IsSound c) where
  ready_up : (j : ℕ) → IsReady c j → is_ready c.line s.past j (held_at c.held j) ≡ true
  ready_up j ready = rw ready.first
      (and_from c.line.moving ((c.line.epoch == c.line.epoch) && not (has_settled j (c.line ∷ s.past))) ready.moves
      (and_from (c.line.epoch == c.line.epoch) (not (has_settled j (c.line ∷ s.past)))
      (eq-eqb c.line.epoch c.line.epoch refl) (ap not (sym (s.settled j ready.low) ∙ ready.new))))

  ready_from : (j : ℕ) → j < 2 ^ c.k → (held : List ℕ) → held_at c.held j ≡ held → is_ready c.line s.past j held ≡ true
      → IsReady c j
  ready_from j low [] at is = absurd (false≢true is)
  ready_from j low (epoch ∷ rest) at is =
      let outer = and_parts c.line.moving ((epoch == c.line.epoch) && not (has_settled j (c.line ∷ s.past))) is in
      let inner = and_parts (epoch == c.line.epoch) (not (has_settled j (c.line ∷ s.past))) outer.1 in
      let same : epoch ≡ c.line.epoch = eqb-true epoch c.line.epoch inner.0 in
      record {
        low = low;
        moves = outer.0;
        new = s.settled j low ∙ not-true (has_settled j (c.line ∷ s.past)) inner.1;
        first = at ∙ ap (λ e. e ∷ rest) same ∙ ap (λ xs. c.line.epoch ∷ xs) (sym (ap (drop 1) at));
      }

  ready_down : (j : ℕ) → j < 2 ^ c.k → ¬ IsReady c j → is_ready c.line s.past j (held_at c.held j) ≡ false
  ready_down j low never = elim (cases_Bool (is_ready c.line s.past j (held_at c.held j))) [
    | inl up ↦ absurd (never (ready_from j low (held_at c.held j) refl up))
    | inr down ↦ down
  ]

  lowest_is : (j : ℕ) → IsReady c j → ((i : ℕ) → i < j → ¬ IsReady c i)
      → lowest_ready (rules_of c) (reverse c.journal) c.held ≡ Some j
  lowest_is j ready none =
      let low = ready.low in
      rw s.newest (finds (λ i. is_ready c.line s.past i (held_at c.held i)) 0 (2 ^ c.k) j (omega arith) (omega arith)
      (ready_up j ready)
      (λ i below. ready_down i (omega arith) (none i below)))

  none_is : IsStuck c → lowest_ready (rules_of c) (reverse c.journal) c.held ≡ None
  none_is stuck = rw s.newest (finds_none (λ i. is_ready c.line s.past i (held_at c.held i)) 0 (2 ^ c.k)
      (λ i below. ready_down i (omega arith) (stuck i)))

  -- where none is ready it stays as it is
  rests : (n : ℕ) → IsStuck c → with_held n (state_of c false) ≡ state_of c false
  rests zero stuck = refl
  rests (suc n) stuck = ap (with_next (with_held n) (state_of c false)) (none_is stuck)

  pub stays_stuck : IsStuck c → with_all_held (state_of c false) ≡ state_of c false
  stays_stuck stuck = rests (held_in_all c) stuck

  -- ---- which messages are counted

  pub placed_counts : (p : ℕ) (m : ToController) → HasPlace c p m
      → counts_feeder (rules_of c) (reverse c.journal) p m ≡ true
  placed_counts p (Ask dr ds) place =
      let few_r = nat_le (c.line.rows_r + dr) (2 ^ 32) in
      let few_s = nat_le (c.line.rows_s + ds) (2 ^ 32) in
      let fresh = not (has_drained p (c.line ∷ s.past)) in
      rw s.newest (and_from (nat_lt p c.feeders) (fresh && (few_r && few_s)) (lt-ltb p c.feeders place.0)
      (and_from fresh (few_r && few_s) (ap not (sym (s.drained p place.0) ∙ place.1))
      (and_from few_r few_s (le-leb (c.line.rows_r + dr) (2 ^ 32) place.2)
      (le-leb (c.line.rows_s + ds) (2 ^ 32) place.3))))
  placed_counts p Drained place =
      rw s.newest (and_from (nat_lt p c.feeders) (not (has_drained p (c.line ∷ s.past))) (lt-ltb p c.feeders place.0)
      (ap not (sym (s.drained p place.0) ∙ place.1)))
  placed_counts p (Settled epoch) place = absurd place

  in_place_from : (p : ℕ) (m : ToController) → is_in_place c.line s.past p m ≡ true → IsInPlace c.line s.past p m
  in_place_from p (Ask dr ds) is =
      let few_r = nat_le (c.line.rows_r + dr) (2 ^ 32) in
      let few_s = nat_le (c.line.rows_s + ds) (2 ^ 32) in
      let outer = and_parts (not (has_drained p (c.line ∷ s.past))) (few_r && few_s) is in
      let inner = and_parts few_r few_s outer.1 in
      (outer.0, leb-true (c.line.rows_r + dr) (2 ^ 32) inner.0, leb-true (c.line.rows_s + ds) (2 ^ 32) inner.1)
  in_place_from p Drained is = is
  in_place_from p (Settled epoch) is = absurd (false≢true is)

  none_counted : (p : ℕ) (m : ToController) → (p < c.feeders → ¬ IsInPlace c.line s.past p m)
      → counts_feeder (rules_of c) (reverse c.journal) p m ≡ false
  none_counted p m never = rw s.newest (elim (cases_Bool (nat_lt p c.feeders && is_in_place c.line s.past p m)) [
    | inl up ↦
        let parts = and_parts (nat_lt p c.feeders) (is_in_place c.line s.past p m) up in
        absurd (never (ltb-true p c.feeders parts.0) (in_place_from p m parts.1))
    | inr down ↦ down
  ])

  -- what is passed over leaves it as it is
  pub passed_stays : (from : Actor) (m : ToController) → IsPassedOver (rules_of c) c.line s.past from m
      → state_of c false ≡ state_after from m (state_of c false)
  passed_stays (Feeder p) m never = rw (none_counted p m never) refl
  passed_stays (Joiner j) (Ask dr ds) never = refl
  passed_stays (Joiner j) Drained never = refl
  passed_stays (Joiner j) (Settled epoch) never = elim (cases_Bool (nat_lt j (2 ^ c.k))) [
    | inl up ↦ absurd (never (ltb-true j (2 ^ c.k) up))
    | inr down ↦ rw down refl
  ]
  passed_stays Controller m never = refl
  passed_stays Collector m never = refl

-- ---- a line more

-- a ledger that has the line of a cause in its journal, and else what it had, is the old state with that line
pub line_state : (cause : Cause) (old new : Ledger) (s : IsSound old) → rules_of new ≡ rules_of old
    → new.held ≡ old.held → line_after (rules_of old) old.line s.past cause ≡ new.line
    → new.journal ≡ old.journal ++ new.line ∷ [] → state_of new false ≡ with_line cause (state_of old false)
line_state cause old new s rules held line grows =
    let journal : new.journal ≡ journal_with (rules_of old) cause old.journal (reverse old.journal) =
    grows ∙ ap (λ l. old.journal ++ l ∷ []) (sym line) ∙ ap (journal_with (rules_of old) cause old.journal)
    (sym s.newest) in
    λ i. record { rules = rules i; journal = journal i; held = held i; spent = false }

-- a held message that is counted is one fewer
pub one_fewer : (old new : Ledger) (j : ℕ) → IsSound old → IsReady old j
    → new.held ≡ slice_set old.held j (drop 1 (held_at old.held j)) → held_in_all old ≡ suc (held_in_all new)
one_fewer old new j s ready own =
    let within : j < length old.held = let n = s.queues in let low = ready.low in omega arith in
    let sums = sum_by-set length old.held j (drop 1 (held_at old.held j)) [] within in
    let one : length (held_at old.held j) ≡ length (old.line.epoch ∷ drop 1 (held_at old.held j)) =
    ap length ready.first in
    let all : sum_by length new.held ≡ sum_by length (slice_set old.held j (drop 1 (held_at old.held j))) =
    ap (λ hs. sum_by length hs) own in
    omega arith

-- and what is then left is the same
pub same_left : (old new : Ledger) (j : ℕ) (s : IsSound old) → IsReady old j → ((i : ℕ) → i < j → ¬ IsReady old i)
    → new.held ≡ slice_set old.held j (drop 1 (held_at old.held j))
    → state_of new false ≡ with_settled j (state_of old false)
    → with_all_held (state_of old false) ≡ with_all_held (state_of new false)
same_left old new j s ready none own is =
    ap (λ n. with_held n (state_of old false)) (one_fewer old new j s ready own)
    ∙ ap (with_next (with_held (held_in_all new)) (state_of old false)) (lowest_is old s j ready none)
    ∙ ap (with_held (held_in_all new)) (sym is)
