-- What is kept after a message is what is to be kept of the longer list.
use Rattle.std.proofs.Common.{◌≡◌, ◌<◌, ◌≤◌, ◌↔◌, ◌+◌, ℕ, zero, suc, refl, sym, ◌∙◌, ap, subst, arith, inl, inr, Bool}
use Rattle.std.proofs.Common.{true, false, cond, IsTrue, List, [], ◌∷◌, ◌++◌, length, append_assoc, Option, Some, None}
use Rattle.std.proofs.Common.{get_or, set, length-set, get_or-set_other, Result, Ok, Err}
use Rattle.std.specs.Prelude.{◌==◌, map, flat_map, is_some, slice_get, replicate, OnOk, is_err}
use Rattle.std.specs.declared.alloc.AllocError.{AllocError}
use Rattle.std.specs.List.{range_with_len, list_all}
use Rattle.std.proofs.lemmas.Bool.{cases_Bool, eqb-true, eq-eqb, and_parts, and_from}
use Rattle.std.proofs.lemmas.List.{append-nil, set-get_or, set_past, get_or_read, length-replicate}
use Rattle.std.proofs.lemmas.Grind.{get_or-set_at, flat_map-append}
use Rattle.std.proofs.lemmas.Option.{slice_get_within, get_or_from_slice_get, slice_get-get_or}
use Rattle.std.proofs.lemmas.List.FromFn.{map-range_with_len_more}
use Rattle.row_cells.specs.Lists.{SameBag, gather}
use Rattle.row_cells.proofs.Bags.{SameBag-refl}
use Rattle.epoch_tags.specs.declared.actor.Actor.TheVariants.{Joiner}
use Rattle.epoch_tags.specs.declared.tuple.Pair.{Pair}
use Rattle.epoch_tags.specs.declared.message.ToCollector.{ToCollector}
use Rattle.epoch_tags.specs.declared.message.ToCollector.TheVariants.{Found, Fin}
use Rattle.epoch_tags.specs.Messages.{found_before_fin, fins}
use Rattle.pair_collector.specs.declared.part.Last.{Last}
use Rattle.pair_collector.specs.Kept.{Kept}
use Rattle.pair_collector.specs.Law.{CollectorLists, pairs_taken, IsComplete}
use Rattle.pair_collector.specs.Standing.{CollectorState, StandsFor, TakesMessage, IsPassedOver, kept_of, kept_after}
use Rattle.pair_collector.specs.Standing.{last_of, pairs_kept, with_message, is_complete, nothing_yet, nothing_kept}
use Rattle.pair_collector.specs.Standing.{state_after}

-- ---- one joiner

front-after : (found : List Pair) (kept : Kept) (m : ToCollector)
    → kept_after (record kept { pairs = found ++ kept.pairs }) m
    ≡ record (kept_after kept m) { pairs = found ++ (kept_after kept m).pairs }
front-after found kept (Found pairs) = by_last kept.last
  where
    by_last : (last : Option Last) → cond (is_some last) (record { pairs = found ++ kept.pairs; last = last })
        (record { pairs = (found ++ kept.pairs) ++ pairs; last = last })
        ≡ (let after : Kept = cond (is_some last) (record { pairs = kept.pairs; last = last })
        (record { pairs = kept.pairs ++ pairs; last = last }) in record after { pairs = found ++ after.pairs })
    by_last None = ap (λ ps. record { pairs = ps; last = None }) (append_assoc found kept.pairs pairs)
    by_last (Some last) = refl
front-after found kept (Fin rows_r rows_s moved) = by_last kept.last
  where
    fin : Option Last
    fin = Some (record { held = record { rows_r = rows_r; rows_s = rows_s }; moved = moved })

    by_last : (last : Option Last) → cond (is_some last) (record { pairs = found ++ kept.pairs; last = last })
        (record { pairs = found ++ kept.pairs; last = fin })
        ≡ (let after : Kept = cond (is_some last) (record { pairs = kept.pairs; last = last })
        (record { pairs = kept.pairs; last = fin }) in record after { pairs = found ++ after.pairs })
    by_last None = refl
    by_last (Some last) = refl

-- what is to be kept with one message more is what was to be kept, after that message
pub kept-append : (ms : List ToCollector) (m : ToCollector) → kept_of (ms ++ m ∷ []) ≡ kept_after (kept_of ms) m
kept-append [] (Found pairs) = ap (λ ps. record { pairs = ps; last = None }) (append-nil pairs)
kept-append [] (Fin rows_r rows_s moved) = refl
kept-append (Found pairs ∷ ms) m = ap (λ (kept : Kept). record kept { pairs = pairs ++ kept.pairs }) (kept-append ms m)
    ∙ sym (front-after pairs (kept_of ms) m)
kept-append (Fin rows_r rows_s moved ∷ ms) (Found pairs) = refl
kept-append (Fin rows_r rows_s moved ∷ ms) (Fin rows_r' rows_s' moved') = refl

-- a joiner of which something is kept as its last message has sent a `Fin`
pub ended : (ms : List ToCollector) → is_some (last_of ms) ≡ true → 0 < fins ms
ended (Found pairs ∷ ms) is = ended ms is
ended (Fin rows_r rows_s moved ∷ ms) is = omega arith
ended [] is = absurd (cc)

-- and where it has sent one, what the first of them carries is kept
pub has_last : (ms : List ToCollector) → 0 < fins ms → is_some (last_of ms) ≡ true
has_last [] some = absurd (omega arith)
has_last (Found pairs ∷ ms) some = has_last ms some
has_last (Fin rows_r rows_s moved ∷ ms) some = refl

-- ---- the list of all joiners

-- a list that has at each place what a function gives for it is what that gives for all its places in order
pub from_places : {X : Type 0} (f : ℕ → X) (a : ℕ) (xs : List X)
    → ((j : ℕ) (x : X) → slice_get xs j ≡ Some x → x ≡ f (a + j)) → xs ≡ map f (range_with_len a (length xs))
from_places f a [] each = refl
from_places f a (x ∷ xs) each =
    let here : a + 0 ≡ a = omega arith in
    let first : x ≡ f a = rw here at (each 0 x refl) in
    let rest = from_places f (a + 1) xs (λ j y is. let next : a + suc j ≡ a + 1 + j = omega arith in
    rw next at (each (suc j) y is)) in
    ap (λ y. y ∷ xs) first ∙ ap (λ ys. f a ∷ ys) rest

-- the lists for the numbers from 0 on, one behind the other, are what is gathered of them
pub flat_map-range : {X : Type 0} (g : ℕ → List X) (n : ℕ) → flat_map (λ xs. xs) (map g (range_with_len 0 n))
    ≡ gather n g
flat_map-range g zero = refl
flat_map-range g (suc n) =
    let next : suc n ≡ n + 1 = omega arith in
    ap (λ k. flat_map (λ xs. xs) (map g (range_with_len 0 k))) next
    ∙ ap (flat_map (λ xs. xs)) (map-range_with_len_more g 0 n n (omega arith))
    ∙ flat_map-append (λ xs. xs) (map g (range_with_len 0 n)) (g n ∷ [])
    ∙ ap (λ xs. flat_map (λ ys. ys) (map g (range_with_len 0 n)) ++ xs) (append-nil (g n))
    ∙ ap (λ xs. xs ++ g n) (flat_map-range g n)

module _ (state : CollectorState) (lists : CollectorLists) where
  -- at each place is kept what is to be kept of that joiner's messages
  abbrev pub Each : Type 0
  Each = (j : ℕ) (kept : Kept) → slice_get state.joiners j ≡ Some kept → kept ≡ kept_of (lists.from_joiner j)

  -- then what is kept is that of all joiners in the order of their numbers
  pub as_map : Each → state.joiners ≡ map (λ j. kept_of (lists.from_joiner j)) (range_with_len 0 (length state.joiners))
  as_map each = from_places (λ j. kept_of (lists.from_joiner j)) 0 state.joiners
      (λ j kept is. let same : 0 + j ≡ j = omega arith in rw same (each j kept is))

  -- and the pairs that are kept are the pairs of all joiners
  pub pairs_are : Each → pairs_kept state ≡ pairs_taken (length state.joiners) lists
  pairs_are each =
      ap (flat_map (λ kept. kept.pairs)) (as_map each)
      ∙ flat_map-of_map (λ j. kept_of (lists.from_joiner j)) (range_with_len 0 (length state.joiners))
      ∙ flat_map-range (λ j. found_before_fin (lists.from_joiner j)) (length state.joiners)
    where
      flat_map-of_map : (f : ℕ → Kept) (js : List ℕ) → flat_map (λ kept. kept.pairs) (map f js)
          ≡ flat_map (λ xs. xs) (map (λ j. (f j).pairs) js)
      flat_map-of_map f [] = refl
      flat_map-of_map f (j ∷ js) = ap (λ ps. (f j).pairs ++ ps) (flat_map-of_map f js)

  -- so such a machine stands for the lists
  pub stand : (joiners : ℕ) → length state.joiners ≡ joiners → Each → StandsFor joiners lists state
  stand joiners began each = record {
    began = began;
    each = each;
    law = record {
      kept = subst (SameBag (pairs_kept state)) (pairs_are each ∙ ap (λ n. pairs_taken n lists) began)
          (SameBag-refl (pairs_kept state));
    };
  }

-- ---- a message

-- a joiner's message is taken where what is kept of this joiner becomes what is kept after the message
pub joiner_takes : (old : CollectorState) (given : List ℕ) (spent : Bool) (j : ℕ) (m : ToCollector) (kept : Kept)
    → j < length old.joiners → kept ≡ get_or old.joiners j kept
    → TakesMessage (Joiner j) m old (record {
      joiners = set old.joiners j (kept_after kept m);
      given = given;
      spent = spent;
    })
joiner_takes old given spent j m kept low is = record {
  start = length-set old.joiners j (kept_after kept m);
  stands = λ joiners lists stands.
      let new : CollectorState = record {
        joiners = set old.joiners j (kept_after kept m);
        given = given;
        spent = spent;
      } in
      stand new (with_message (Joiner j) m lists) joiners (length-set old.joiners j (kept_after kept m) ∙ stands.began)
      (λ i k at.
      let within : i < length old.joiners = rw (length-set old.joiners j (kept_after kept m)) at
      (slice_get_within new.joiners i k at) in
      let value : get_or new.joiners i k ≡ k = get_or_from_slice_get new.joiners i k k at in
      elim (cases_Bool (i == j)) [
        | inl found ↦
            let same : i ≡ j = eqb-true i j found in
            let here : slice_get old.joiners i ≡ Some kept =
            ap (slice_get old.joiners) same ∙ slice_get-get_or old.joiners j kept low ∙ ap Some (sym is) in
            rw found (sym value ∙ get_or-set_at old.joiners j i (kept_after kept m) k same low
            ∙ ap (λ k'. kept_after k' m) (stands.each i kept here) ∙ sym (kept-append (lists.from_joiner i) m))
        | inr differs ↦
            let other : i ≡ j → ⊥ = λ same. let found : (i == j) ≡ true = eq-eqb i j same in cc in
            let here : slice_get old.joiners i ≡ Some k =
            slice_get-get_or old.joiners i k within ∙ ap Some
            (sym (get_or-set_other old.joiners j i (kept_after kept m) k other) ∙ value) in
            rw differs (stands.each i k here)
      ]);
}

-- of none of the joiners
pub stranger_takes : (old : CollectorState) (j : ℕ) (m : ToCollector) → length old.joiners ≤ j
    → TakesMessage (Joiner j) m old old
stranger_takes old j m past = record {
  start = refl;
  stands = λ joiners lists stands. stand old (with_message (Joiner j) m lists) joiners stands.began (λ i k at.
      let within = slice_get_within old.joiners i k at in
      elim (cases_Bool (i == j)) [
        | inl found ↦ let same = eqb-true i j found in absurd (omega arith)
        | inr differs ↦ rw differs (stands.each i k at)
      ]);
}

-- a message of a joiner that has ended leaves what is kept of it as it was
pub passed_over : (kept : Kept) (m : ToCollector) → is_some kept.last ≡ true → kept_after kept m ≡ kept
passed_over kept (Found pairs) is = rw is refl
passed_over kept (Fin rows_r rows_s moved) is = rw is refl

-- ---- the end

-- where the element at each place passes a test, all pass it
pub every : {X : Type 0} (test : X → Bool) (xs : List X) → ((j : ℕ) (x : X) → slice_get xs j ≡ Some x → test x ≡ true)
    → list_all test xs ≡ true
every test [] each = refl
every test (x ∷ xs) each = and_from (test x) (list_all test xs) (each 0 x refl)
    (every test xs (λ j y at. each (suc j) y at))

-- and where all pass it, the element at each place does
pub one_of : {X : Type 0} (test : X → Bool) (xs : List X) → list_all test xs ≡ true → (j : ℕ) (x : X)
    → slice_get xs j ≡ Some x → test x ≡ true
one_of test [] all j x at = absurd (cc)
one_of test (y ∷ ys) all zero x at =
    let same : y ≡ x = cc in
    subst (λ z. test z ≡ true) same (and_parts (test y) (list_all test ys) all).0
one_of test (y ∷ ys) all (suc j) x at = one_of test ys (and_parts (test y) (list_all test ys) all).1 j x at

-- the machine finds that all joiners have ended just where it has the `Fin` of each
pub complete_says : (joiners : ℕ) (lists : CollectorLists) (state : CollectorState) → StandsFor joiners lists state
    → IsTrue (is_complete state) ↔ IsComplete joiners lists
complete_says joiners lists state stands = (
  λ is j below.
      let low : j < length state.joiners = rw stands.began below in
      let kept = get_or state.joiners j nothing_kept in
      let there : slice_get state.joiners j ≡ Some kept = slice_get-get_or state.joiners j nothing_kept low in
      let last : is_some kept.last ≡ true = one_of (λ (k : Kept). is_some k.last) state.joiners is j kept there in
      ended (lists.from_joiner j) (subst (λ (k : Kept). is_some k.last ≡ true) (stands.each j kept there) last),
  λ each. every (λ (k : Kept). is_some k.last) state.joiners (λ j kept there.
      let low : j < joiners = rw (← stands.began) (slice_get_within state.joiners j kept there) in
      subst (λ (k : Kept). is_some k.last ≡ true) (sym (stands.each j kept there))
      (has_last (lists.from_joiner j) (each j low))),
)

-- the machine that keeps this of the joiners, has given so many pairs of each, and is spent or not
abbrev pub state_of : List Kept → List ℕ → Bool → CollectorState
state_of xs given spent = record { joiners = xs; given = given; spent = spent }

-- what comes behind a `Fin` changes nothing
pub passes_over : (r : Result (Unit {0}) AllocError) (xs : List Kept) (given : List ℕ) (j : ℕ) (m : ToCollector)
    (kept after : Kept) (spent : Bool) → spent ≡ is_err r → OnOk r (after ≡ kept_after kept m)
    → j < length xs → kept ≡ get_or xs j kept
    → OnOk r (IsPassedOver (state_of xs given false) (Joiner j)
    → state_of (set xs j after) given spent ≡ state_of xs given false)
passes_over (Ok x) xs given j m kept after spent none is low at = λ passed.
    let there : slice_get xs j ≡ Some kept = slice_get-get_or xs j kept low ∙ ap Some (sym at) in
    let same : after ≡ kept = is ∙ passed_over kept m (passed kept there) in
    let back : set xs j after ≡ xs = ap (set xs j) (same ∙ at) ∙ set-get_or xs j kept in
    ap (λ s. state_of (set xs j after) given s) none ∙ ap (λ ys. state_of ys given false) back
passes_over (Err e) xs given j m kept after spent none is low at = tt

-- what is kept of this joiner, and nothing else, is what is kept after the message
pub state_is : (r : Result (Unit {0}) AllocError) (xs : List Kept) (given : List ℕ) (j : ℕ) (m : ToCollector)
    (kept after : Kept) (spent : Bool) → spent ≡ is_err r → OnOk r (after ≡ kept_after kept m)
    → j < length xs → kept ≡ get_or xs j kept
    → OnOk r (state_of (set xs j after) given spent ≡ state_after (Joiner j) m (state_of xs given false))
state_is (Ok x) xs given j m kept after spent none is low at =
    ap (λ s. state_of (set xs j after) given s) none
    ∙ ap (λ k. state_of (set xs j k) given false)
    (is ∙ ap (λ k. kept_after k m) (get_or_read xs j kept low at nothing_kept))
state_is (Err e) xs given j m kept after spent none is low at = tt

-- of a joiner past the last one nothing is
pub stranger_stays : (old : CollectorState) (j : ℕ) (m : ToCollector) → length old.joiners ≤ j
    → old ≡ state_after (Joiner j) m old
stranger_stays old j m past =
    sym (ap (λ xs. record old { joiners = xs })
    (set_past old.joiners j (kept_after (get_or old.joiners j nothing_kept) m) past))

-- ---- the beginning

-- a machine that keeps nothing of each joiner yet stands for empty lists
pub fresh_stands : (joiners n : ℕ) (xs : List Kept) (given : List ℕ) (spent : Bool) → n ≡ joiners
    → xs ≡ replicate n nothing_kept → StandsFor joiners nothing_yet (state_of xs given spent)
fresh_stands joiners n xs given spent all is =
    stand (state_of xs given spent) nothing_yet joiners (ap length is ∙ length-replicate n nothing_kept ∙ all)
    (λ j kept at. nothing_at n j kept (rw is at at))
  where
    nothing_at : (n j : ℕ) (kept : Kept) → slice_get (replicate n nothing_kept) j ≡ Some kept → kept ≡ nothing_kept
    nothing_at zero j kept at = absurd (cc)
    nothing_at (suc n) zero kept at = let same : nothing_kept ≡ kept = cc in sym same
    nothing_at (suc n) (suc j) kept at = nothing_at n j kept at
