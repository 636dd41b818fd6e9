-- Where all that a controller sends has come, a feeder has taken it.
use Rattle.std.proofs.Common.{◌≡◌, ℕ, ◌+◌, ◌<◌, ◌≤◌, ◌⊎◌, inl, inr, refl, sym, ◌∙◌, ap, subst, arith, Bool, true, false}
use Rattle.std.proofs.Common.{cond, List, [], ◌∷◌, ◌++◌, length, length-append}
use Rattle.std.specs.Prelude.{map, filter}
use Rattle.std.proofs.lemmas.List.{append-nil}
use Rattle.std.proofs.lemmas.Nat.{pow_pos}
use Rattle.row_cells.specs.Lists.{IsPrefix, counting_from}
use Rattle.row_cells.proofs.RisingNumbers.{at_place}
use Rattle.epoch_tags.specs.declared.tuple.Tuple.{Tuple}
use Rattle.epoch_tags.specs.declared.message.ToController.{ToController}
use Rattle.epoch_tags.specs.declared.message.ToController.TheVariants.{Ask, Drained, Settled}
use Rattle.epoch_tags.specs.declared.message.ToFeeder.{ToFeeder}
use Rattle.epoch_tags.specs.declared.message.ToFeeder.TheVariants.{Order, Grant, Stop}
use Rattle.epoch_tags.specs.Messages.{turns, ends, order_epochs, grants, stops, asks, draineds, asked_r, asked_s}
use Rattle.epoch_tags.specs.Orders.{StopsLast, DrainsLast, GoesBy}
use Rattle.epoch_tags.proofs.Appends.{order_epochs-append, grants-append, stops-append, none_stopped, asked_r-append}
use Rattle.epoch_tags.proofs.Appends.{asked_s-append}
use Rattle.reshuffler_core.specs.Law.{FeederStart, FeederLists, FeederLaw, CanTake, ask_for, requests, answers}
use Rattle.reshuffler_core.specs.Law.{copies_for, stamped}
use Rattle.epoch_tags.specs.declared.message.ToJoiner.{ToJoiner}
use Rattle.epoch_tags.specs.declared.message.ToJoiner.TheVariants.{Tup}
use Rattle.migration_plan.specs.Steps.{holds}
use Rattle.epoch_tags.proofs.EpochShifts.{goes_at}

-- ---- what it asks

asks_drain_last : (batches : List (List Tuple)) (front rest : List ToController)
    → front ++ rest ≡ map ask_for batches ++ Drained ∷ [] → DrainsLast front
asks_drain_last batches [] rest is = tt
asks_drain_last [] (Ask dr ds ∷ front) rest is = absurd (cc)
asks_drain_last [] (Drained ∷ []) rest is = refl
asks_drain_last [] (Drained ∷ (x ∷ front)) rest is = absurd (cc)
asks_drain_last [] (Settled epoch ∷ front) rest is = absurd (cc)
asks_drain_last (batch ∷ batches) (Ask dr ds ∷ front) rest is =
    let more : front ++ rest ≡ map ask_for batches ++ Drained ∷ [] = cc in asks_drain_last batches front rest more
asks_drain_last (batch ∷ batches) (Drained ∷ front) rest is = absurd (cc)
asks_drain_last (batch ∷ batches) (Settled epoch ∷ front) rest is = absurd (cc)

-- a front of a feeder's requests asks, and at most says at the end that it has drained
pub drains_last : (s : FeederStart) (sent : List ToController) → IsPrefix sent (requests s) → DrainsLast sent
drains_last s sent prefix = asks_drain_last s.batches sent prefix.rest prefix.joins

-- a front of a list of requests asks for no more rows of R than the list
pub fewer_r : (sent all : List ToController) → IsPrefix sent all → asked_r sent ≤ asked_r all
fewer_r sent all prefix = let e = asked_r-append sent prefix.rest in let is = ap asked_r prefix.joins in omega arith

-- nor for more rows of S
pub fewer_s : (sent all : List ToController) → IsPrefix sent all → asked_s sent ≤ asked_s all
fewer_s sent all prefix = let e = asked_s-append sent prefix.rest in let is = ap asked_s prefix.joins in omega arith

-- ---- what it takes

module _ (s : FeederStart) (sent : List ToController) (n : ℕ) (b : ℕ → ℕ) (within : (e : ℕ) → b e ≤ s.k) where
  can_take : (taken rest : List ToFeeder) (m : ToFeeder) → order_epochs (taken ++ m ∷ rest)
      ≡ counting_from (s.epoch + 1) n → GoesBy b (taken ++ m ∷ rest)
      → StopsLast (taken ++ m ∷ rest) → grants (taken ++ m ∷ rest) ≡ asks sent → (asks sent ≡ grants taken)
      ⊎ (asks sent ≡ grants taken + 1)
      → (0 < stops (taken ++ m ∷ rest) → 0 < draineds sent) → CanTake s taken sent m
  can_take taken rest (Order epoch shift) orders goes last granted one drained =
      let at = at_place (s.epoch + 1) n (order_epochs taken) epoch (order_epochs rest)
      (sym (order_epochs-append taken (Order epoch shift ∷ rest)) ∙ orders) in
      let is = goes_at b taken rest epoch shift goes in
      (omega arith, subst (λ c. c ≤ s.k) (sym is) (within epoch), none_stopped taken rest (Order epoch shift) last)
  can_take taken rest Grant orders goes last granted one drained =
      let e = grants-append taken (Grant ∷ rest) in omega arith
  can_take taken rest Stop orders goes last granted one drained =
      let e = stops-append taken (Stop ∷ rest) in
      (drained (omega arith), none_stopped taken rest Stop last)

  -- a feeder that can take none of what it holds has taken all that it received
  pub takes_all : (taken held received : List ToFeeder) → taken ++ held ≡ received
      → ((m : ToFeeder) (rest : List ToFeeder) → held ≡ m ∷ rest → ¬ CanTake s taken sent m)
      → order_epochs received ≡ counting_from (s.epoch + 1) n → GoesBy b received
      → StopsLast received → grants received ≡ asks sent → (asks sent ≡ grants taken) ⊎ (asks sent ≡ grants taken + 1)
      → (0 < stops received → 0 < draineds sent) → taken ≡ received
  takes_all taken [] received splits stuck orders goes last granted one drained = sym (append-nil taken) ∙ splits
  takes_all taken (m ∷ rest) received splits stuck orders goes last granted one drained =
      absurd (stuck m rest refl (can_take taken rest m (rw (← splits) at orders) (rw (← splits) at goes)
      (rw (← splits) at last) (rw (← splits) at granted) one (rw (← splits) at drained)))

-- ---- what it answers: a turn for each order, an end for each stop

turns_copied : (k j e b : ℕ) (batch : List Tuple) (ms : List ToJoiner)
    → turns (copies_for k j e b batch ++ ms) ≡ turns ms
turns_copied k j e b [] ms = refl
turns_copied k j e b (x ∷ batch) ms = either (holds k b j x) (turns_copied k j e b batch ms)
  where
    either : (h : Bool) → turns (copies_for k j e b batch ++ ms) ≡ turns ms
        → turns (map (λ y. Tup (stamped e y)) (cond h (x ∷ filter (holds k b j) batch) (filter (holds k b j) batch))
        ++ ms) ≡ turns ms
    either true rest = rest
    either false rest = rest

ends_copied : (k j e b : ℕ) (batch : List Tuple) (ms : List ToJoiner) → ends (copies_for k j e b batch ++ ms) ≡ ends ms
ends_copied k j e b [] ms = refl
ends_copied k j e b (x ∷ batch) ms = either (holds k b j x) (ends_copied k j e b batch ms)
  where
    either : (h : Bool) → ends (copies_for k j e b batch ++ ms) ≡ ends ms
        → ends (map (λ y. Tup (stamped e y)) (cond h (x ∷ filter (holds k b j) batch) (filter (holds k b j) batch))
        ++ ms) ≡ ends ms
    either true rest = rest
    either false rest = rest

-- a joiner is sent as many turns as orders were taken
pub answers_turns : (k j e b : ℕ) (batches : List (List Tuple)) (ms : List ToFeeder)
    → turns (answers k j e b batches ms) ≡ length (order_epochs ms)
answers_turns k j e b batches [] = refl
answers_turns k j e b batches (Order epoch shift ∷ ms) = let rest = answers_turns k j epoch shift batches ms in
    omega arith
answers_turns k j e b [] (Grant ∷ ms) = answers_turns k j e b [] ms
answers_turns k j e b (batch ∷ batches) (Grant ∷ ms) = turns_copied k j e b batch (answers k j e b batches ms)
    ∙ answers_turns k j e b batches ms
answers_turns k j e b batches (Stop ∷ ms) = answers_turns k j e b batches ms

-- and as many ends as stops
pub answers_ends : (k j e b : ℕ) (batches : List (List Tuple)) (ms : List ToFeeder)
    → ends (answers k j e b batches ms) ≡ stops ms
answers_ends k j e b batches [] = refl
answers_ends k j e b batches (Order epoch shift ∷ ms) = answers_ends k j epoch shift batches ms
answers_ends k j e b [] (Grant ∷ ms) = answers_ends k j e b [] ms
answers_ends k j e b (batch ∷ batches) (Grant ∷ ms) = ends_copied k j e b batch (answers k j e b batches ms)
    ∙ answers_ends k j e b batches ms
answers_ends k j e b batches (Stop ∷ ms) = let rest = answers_ends k j e b batches ms in omega arith

-- ---- what it took is determined by its lists

-- of two fronts of a list one is a front of the other
pub front_of_other : {X : Type 0} (xs us ys vs : List X) → xs ++ us ≡ ys ++ vs
    → ((ws : List X) × (ys ≡ xs ++ ws) × (us ≡ ws ++ vs)) ⊎ ((ws : List X) × (xs ≡ ys ++ ws) × (vs ≡ ws ++ us))
front_of_other [] us ys vs is = inl (ys, refl, is)
front_of_other (x ∷ xs) us [] vs is = inr (x ∷ xs, refl, sym is)
front_of_other (x ∷ xs) us (y ∷ ys) vs is =
    let here : x ≡ y = cc in
    let tail : xs ++ us ≡ ys ++ vs = cc in
    elim (front_of_other xs us ys vs tail) [
      | inl r ↦ inl (r.0, (let rest = r.1 in cc), r.2)
      | inr r ↦ inr (r.0, (let rest = r.1 in cc), r.2)
    ]

module _ (s : FeederStart) (lists : FeederLists) where
  no_longer : (t1 t2 : List ToFeeder) (law1 : FeederLaw s lists t1) (law2 : FeederLaw s lists t2) (m : ToFeeder)
      (rest : List ToFeeder) → t2 ≡ t1 ++ m ∷ rest → ¬ CanTake s t1 lists.to_controller m → ⊥
  no_longer t1 t2 law1 law2 (Order epoch shift) rest is cannot =
      let same : answers s.k 0 s.epoch s.shift s.batches t1 ≡ answers s.k 0 s.epoch s.shift s.batches t2 =
      sym (law1.answered 0 (pow_pos s.k)) ∙ law2.answered 0 (pow_pos s.k) in
      let a = answers_turns s.k 0 s.epoch s.shift s.batches t1 in
      let c = answers_turns s.k 0 s.epoch s.shift s.batches t2 in
      let turns_same = ap turns same in
      let more : length (order_epochs t2) ≡ length (order_epochs t1)
      + length (order_epochs (Order epoch shift ∷ rest)) =
      ap (λ ms. length (order_epochs ms)) is ∙ ap length (order_epochs-append t1 (Order epoch shift ∷ rest))
      ∙ length-append (order_epochs t1) (order_epochs (Order epoch shift ∷ rest)) in
      omega arith
  no_longer t1 t2 law1 law2 Grant rest is cannot =
      let more = ap grants is ∙ grants-append t1 (Grant ∷ rest) in
      elim law1.granted [
        | inr could ↦ cannot could
        | inl even ↦ elim law2.granted [ inl even' ↦ omega arith | inr odd ↦ omega arith ]
      ]
  no_longer t1 t2 law1 law2 Stop rest is cannot =
      let same : answers s.k 0 s.epoch s.shift s.batches t1 ≡ answers s.k 0 s.epoch s.shift s.batches t2 =
      sym (law1.answered 0 (pow_pos s.k)) ∙ law2.answered 0 (pow_pos s.k) in
      let a = answers_ends s.k 0 s.epoch s.shift s.batches t1 in
      let c = answers_ends s.k 0 s.epoch s.shift s.batches t2 in
      let ends_same = ap ends same in
      let more = ap stops is ∙ stops-append t1 (Stop ∷ rest) in
      omega arith

  -- what a feeder took of its lists is one list
  pub taken_is_one : (t1 t2 : List ToFeeder) → FeederLaw s lists t1 → FeederLaw s lists t2 → t1 ≡ t2
  taken_is_one t1 t2 law1 law2 = elim (front_of_other t1 law1.held t2 law2.held (law1.splits ∙ sym law2.splits)) [
    | inl r ↦ by_rest t1 t2 law1 law2 r.0 r.1 r.2
    | inr r ↦ sym (by_rest t2 t1 law2 law1 r.0 r.1 r.2)
  ]
    where
      by_rest : (t1 t2 : List ToFeeder) (law1 : FeederLaw s lists t1) (law2 : FeederLaw s lists t2) (ws : List ToFeeder)
          → t2 ≡ t1 ++ ws → law1.held ≡ ws ++ law2.held → t1 ≡ t2
      by_rest t1 t2 law1 law2 [] is held = sym (is ∙ append-nil t1)
      by_rest t1 t2 law1 law2 (m ∷ ws) is held = absurd (no_longer t1 t2 law1 law2 m ws is
          (law1.stuck m (ws ++ law2.held) held))
