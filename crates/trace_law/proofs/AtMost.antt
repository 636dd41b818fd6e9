-- At every moment a joiner has stored at most what it holds, and nothing is found twice.
use Rattle.std.proofs.Common.{◌≡◌, ℕ, zero, suc, ◌+◌, ◌<◌, ◌≤◌, ◌^◌, min, inl, inr, refl, sym, ◌∙◌, ap, subst, arith}
use Rattle.std.proofs.Common.{Bool, true, false, cond, ◌&&◌, List, [], ◌∷◌, ◌++◌, length, append_assoc}
use Rattle.std.specs.Prelude.{map, filter, ◌==◌}
use Rattle.std.proofs.lemmas.Bool.{cases_eq, lt-ltb, le-ltb}
use Rattle.std.proofs.lemmas.List.Sums.{sum_by-append}
use Rattle.row_cells.specs.Lists.{IsPrefix, SameBag, IsWithinBag}
use Rattle.row_cells.proofs.Bags.{only_if, sum-filter, sum_three}
use Rattle.epoch_tags.specs.declared.tuple.Tuple.{Tuple}
use Rattle.epoch_tags.specs.declared.message.ToJoiner.{ToJoiner}
use Rattle.epoch_tags.specs.declared.message.ToJoiner.TheVariants.{Tup, Turn, End, Moved, MovedEnd}
use Rattle.epoch_tags.specs.Messages.{tups_of, moved_of}
use Rattle.migration_plan.specs.Steps.{AreNeighbours, holds, is_of, exchanged_side, partner_in_step}
use Rattle.reshuffler_core.specs.Law.{answers}
use Rattle.reshuffler_core.proofs.Arrivals.{granted, of_feeder}
use Rattle.epoch_tags.proofs.RowMessages.{tups_of-append}
use Rattle.joiner_law.specs.Law.{JoinerStart, Taken, opened, shift_after, partner_of, store, arrived}
use Rattle.trace_law.specs.declared.input.Input.{Input}
use Rattle.trace_law.specs.declared.setting.Setting.{Setting}
use Rattle.trace_law.specs.Validity.{IsValid}
use Rattle.trace_law.specs.Family.{Rest, IsRestFor, Family, IsAgreeing, joiner_start, feeder_start, old_rows, aged}
use Rattle.trace_law.proofs.Stores.{is_stored, at_rising, at_falling}
use Rattle.trace_law.proofs.Membership.{low_within}
use Rattle.trace_law.proofs.Arrivals.{front_of, goes_by, all_granted, granted_since}
use Rattle.trace_law.proofs.Aged.{filter-map, within-map, aged_in, old_stamps, later_alone, first_within}
use Rattle.std.proofs.lemmas.List.{map-append, length-map}
use Rattle.trace_law.proofs.Journals.{shift_in, feeders_go, begins, rows_known}
use Rattle.row_cells.proofs.Within.{IsWithinBag-trans, within_same, within-filter, within-gather, within-more}
use Rattle.row_cells.proofs.Within.{nothing_within}
use Rattle.row_cells.proofs.Totals.{gather-filter}
use Rattle.grid_map.proofs.Halves.{partner_below}

-- ---- one step

at_either : (k b b' e j : ℕ) → AreNeighbours b b' → b ≤ k → b' ≤ k → k ≤ 8 → (t : Tuple) (n : ℕ)
    → only_if (is_stored k b e j t) (only_if (holds k b' j t) n)
    + only_if (is_stored k b e (partner_in_step b b' j) t) (only_if (is_of (exchanged_side b b') t) n)
    + only_if ((t.stamp == e + 1) && holds k b' j t) n
    ≡ only_if (is_stored k b' (e + 1) j t) n
at_either k b b' e j (inl up) low low' small t n =
    let least : min b b' ≡ b = omega arith in
    rw (least, lt-ltb b b' (omega arith), up) (at_rising k b e j (omega arith) small t.side t.ticket t.stamp n)
at_either k b b' e j (inr down) low low' small t n =
    let least : min b b' ≡ b' = omega arith in
    rw (least, le-ltb b b' (omega arith), down) (at_falling k b' e j (omega arith) small t.side t.ticket t.stamp n)

module _ (all A M N : List Tuple) (k b b' e j : ℕ) where
  step_within : AreNeighbours b b' → b ≤ k → b' ≤ k → k ≤ 8
      → IsWithinBag A (filter (is_stored k b e j) all)
      → IsWithinBag M (filter (is_of (exchanged_side b b')) (filter (is_stored k b e (partner_in_step b b' j)) all))
      → IsWithinBag N (filter (λ t. (t.stamp == e + 1) && holds k b' j t) all)
      → IsWithinBag (filter (holds k b' j) A ++ M ++ N) (filter (is_stored k b' (e + 1) j) all)
  step_within near low low' small mine came new = record {
    sums = λ f.
        let q = partner_in_step b b' j in
        let x = exchanged_side b b' in
        let kept = sum-filter f (holds k b' j) A in
        let kept' = mine.sums (λ t. only_if (holds k b' j t) (f t)) in
        let kept'' = sum-filter (λ t. only_if (holds k b' j t) (f t)) (is_stored k b e j) all in
        let came' = came.sums f in
        let came'' =
        sum-filter f (is_of x) (filter (is_stored k b e q) all)
        ∙ sum-filter (λ t. only_if (is_of x t) (f t)) (is_stored k b e q) all in
        let new' = new.sums f in
        let new'' = sum-filter f (λ t. (t.stamp == e + 1) && holds k b' j t) all in
        let three =
        sum_three (λ t. only_if (is_stored k b e j t) (only_if (holds k b' j t) (f t)))
        (λ t. only_if (is_stored k b e q t) (only_if (is_of x t) (f t)))
        (λ t. only_if ((t.stamp == e + 1) && holds k b' j t) (f t)) (λ t. only_if (is_stored k b' (e + 1) j t) (f t))
        (λ t. at_either k b b' e j near low low' small t (f t)) all in
        let parts = sum_by-append f (filter (holds k b' j) A ++ M) N in
        let parts' = sum_by-append f (filter (holds k b' j) A) M in
        let whole = sum-filter f (is_stored k b' (e + 1) j) all in
        omega arith;
  }

-- ---- what came

front-moved : (e : ℕ) (xs ys : List ToJoiner) → IsWithinBag (moved_of e xs) (moved_of e (xs ++ ys))
front-moved e xs ys =
    subst (λ zs. IsWithinBag (moved_of e xs) zs) (sym (both xs)) (within-more (moved_of e xs) (moved_of e ys))
  where
    both : (zs : List ToJoiner) → moved_of e (zs ++ ys) ≡ moved_of e zs ++ moved_of e ys
    both [] = refl
    both (Tup x ∷ zs) = both zs
    both (Turn epoch shift ∷ zs) = both zs
    both (End ∷ zs) = both zs
    both (Moved epoch x ∷ zs) = by_test (epoch == e) (both zs)
      where
        by_test : (t : Bool) → moved_of e (zs ++ ys) ≡ moved_of e zs ++ moved_of e ys
            → cond t (x ∷ moved_of e (zs ++ ys)) (moved_of e (zs ++ ys)) ≡ cond t (x ∷ moved_of e zs) (moved_of e zs)
            ++ moved_of e ys
        by_test true rest = ap (λ ts. x ∷ ts) rest
        by_test false rest = rest
    both (MovedEnd epoch ∷ zs) = both zs

front-tups : (e : ℕ) (xs ys : List ToJoiner) → IsWithinBag (tups_of e xs) (tups_of e (xs ++ ys))
front-tups e xs ys =
    subst (λ zs. IsWithinBag (tups_of e xs) zs) (sym (tups_of-append e xs ys))
    (within-more (tups_of e xs) (tups_of e ys))

-- ---- of a family

module _ (input : Input) (setting : Setting) (valid : IsValid input setting) (rest : Rest)
    (stands : IsRestFor input setting rest) (f : Family) (agrees : IsAgreeing input setting rest f) where
  -- the shift of an epoch by the journal
  abbrev pub b : ℕ → ℕ
  b e = shift_in input setting rest f agrees e

  -- the rows that are known: the older ones, and those that feeders granted
  abbrev pub all : List Tuple
  all = rows_known input setting rest f agrees

  -- how joiner j begins
  abbrev pub start_of : ℕ → JoinerStart
  start_of j = joiner_start input setting rest j

  -- what it took
  abbrev pub took : ℕ → Taken
  took j = agrees.taken_by_joiner j

  abbrev e0 : ℕ
  e0 = rest.line.epoch

  abbrev old : Tuple → Tuple
  old t = aged rest.line t

  -- the rows that feeders granted
  abbrev pub new_rows : List Tuple
  new_rows =
      all_granted input setting rest f agrees b (feeders_go input setting rest f agrees)
      (begins input setting rest f agrees)

  arrived_within : (j : ℕ) (h : j < 2 ^ setting.k) (v : ℕ) → e0 ≤ v
      → IsWithinBag (map old (arrived (start_of j) (took j) v))
      (filter (λ t. (t.stamp == v) && holds setting.k (b v) j t) new_rows)
  arrived_within j h v late =
      let keep : Tuple → Bool = λ t. (t.stamp == v) && holds setting.k (b v) j t in
      let of_p : ℕ → List Tuple =
      λ p. granted e0 (feeder_start input setting rest p).batches (agrees.taken_by_feeder p) in
      let came : IsWithinBag (arrived (start_of j) (took j) v) (filter keep new_rows) =
      subst (λ ts. IsWithinBag (arrived (start_of j) (took j) v) ts) (gather-filter keep setting.feeders of_p)
      (within-gather setting.feeders (λ p. tups_of v ((took j).from_feeder p)) (λ p. filter keep (of_p p))
      (λ p h'.
      let front =
      front_of input setting rest f agrees b (feeders_go input setting rest f agrees)
      (begins input setting rest f agrees) j p h h' in
      let is : tups_of v ((took j).from_feeder p ++ front.0) ≡ filter keep (of_p p) =
      ap (tups_of v) front.1
      ∙ ap
      (λ c.
      tups_of v (answers setting.k j e0 c (feeder_start input setting rest p).batches (agrees.taken_by_feeder p)))
      (begins input setting rest f agrees)
      ∙ of_feeder setting.k j e0 v b (feeder_start input setting rest p).batches (agrees.taken_by_feeder p)
      (feeders_go input setting rest f agrees p h') in
      subst (λ ts. IsWithinBag (tups_of v ((took j).from_feeder p)) ts) is
      (front-tups v ((took j).from_feeder p) front.0))) in
      subst (λ ts. IsWithinBag (map old (arrived (start_of j) (took j) v)) ts)
      (aged_in rest.line v (holds setting.k (b v) j) late new_rows) (within-map old came)

  -- a joiner's shift after n steps is that of the journal
  pub shift_is : (j : ℕ) (h : j < 2 ^ setting.k) (n : ℕ) → n ≤ opened (start_of j) (took j)
      → shift_after (start_of j) (took j) n ≡ b (e0 + n)
  shift_is j h n low =
      goes_by input setting rest f agrees b (feeders_go input setting rest f agrees)
      (begins input setting rest f agrees) j h n low

  next_epoch : (n : ℕ) → e0 + (n + 1) ≡ e0 + n + 1
  next_epoch n = omega arith

  -- so is that after the next step
  pub shift_next : (j : ℕ) (h : j < 2 ^ setting.k) (n : ℕ) → n < opened (start_of j) (took j)
      → shift_after (start_of j) (took j) (n + 1) ≡ b (e0 + n + 1)
  shift_next j h n low = shift_is j h (n + 1) (omega arith) ∙ ap b (next_epoch n)

  -- what a partner moved, where each store of the step's epoch is at most what is held
  pub came_within : (n j : ℕ) (h : j < 2 ^ setting.k) → n < opened (start_of j) (took j)
      → ((q : ℕ) → q < 2 ^ setting.k → n ≤ opened (start_of q) (took q)
      → IsWithinBag (map old (store (start_of q) (took q) n))
      (filter (is_stored setting.k (b (e0 + n)) (e0 + n) q) all))
      → IsWithinBag (map old (moved_of (e0 + n + 1) ((took j).from_joiner (partner_of (start_of j) (took j) n))))
      (filter (is_of (exchanged_side (b (e0 + n)) (b (e0 + n + 1))))
      (filter (is_stored setting.k (b (e0 + n)) (e0 + n) (partner_in_step (b (e0 + n)) (b (e0 + n + 1)) j)) all))
  came_within n j h is_open below =
      let k = setting.k in
      let law = agrees.joiners j h in
      let s = start_of j in
      let t = took j in
      let e = e0 + n in
      let here : shift_after s t n ≡ b e = shift_is j h n (omega arith) in
      let next : shift_after s t (n + 1) ≡ b (e + 1) = shift_next j h n is_open in
      let low = min (shift_after s t n) (shift_after s t (n + 1)) in
      let low_k : low < k =
      low_within k (shift_after s t n) (shift_after s t (n + 1)) (law.by_one n is_open) (law.within n (omega arith))
      (law.within (n + 1) (omega arith)) in
      let q = partner_of s t n in
      let h' : q < 2 ^ k = partner_below k low j low_k h in
      let law' = agrees.joiners q h' in
      let link : IsPrefix ((f.joiner j).from_joiner q) ((f.joiner q).to_joiner j) = agrees.joiner_joiner q j h' h in
      let of_q = law.of_joiners q h' in
      let its_part : List Tuple = moved_of (e + 1) ((f.joiner q).to_joiner j) in
      let sent : t.from_joiner q ++ (of_q.held ++ link.rest) ≡ (f.joiner q).to_joiner j =
      sym (append_assoc (t.from_joiner q) of_q.held link.rest) ∙ ap (λ ms. ms ++ link.rest) of_q.splits ∙ link.joins in
      let front : IsWithinBag (moved_of (e + 1) (t.from_joiner q)) its_part =
      subst (λ ms. IsWithinBag (moved_of (e + 1) (t.from_joiner q)) (moved_of (e + 1) ms)) sent
      (front-moved (e + 1) (t.from_joiner q) (of_q.held ++ link.rest)) in
      let x = exchanged_side (b e) (b (e + 1)) in
      let same_q : partner_in_step (b e) (b (e + 1)) j ≡ q =
      ap (λ c. partner_in_step c (b (e + 1)) j) (sym here)
      ∙ ap (λ c. partner_in_step (shift_after s t n) c j) (sym next) in
      let all_sent : IsWithinBag (map old its_part) (filter (is_of x) (filter (is_stored k (b e) e q) all)) =
      elim (cases_eq (length its_part) 0) [
        | inl none ↦
            let none' : length (map old its_part) ≡ 0 = length-map its_part old ∙ none in
            nothing_within (map old its_part) (filter (is_of x) (filter (is_stored k (b e) e q) all)) none'
        | inr some ↦
            let only = law'.moved_only j (e + 1) (omega arith) in
            let same : only.0 ≡ n = omega (arith, only.1) in
            let open_q : n < opened (start_of q) (took q) = subst (λ m. m < opened (start_of q) (took q)) same only.2 in
            let to_j : j ≡ partner_of (start_of q) (took q) n =
            subst (λ m. j ≡ partner_of (start_of q) (took q) m) same only.3 in
            let side' =
            exchanged_side (shift_after (start_of q) (took q) n) (shift_after (start_of q) (took q) (n + 1)) in
            let its : SameBag its_part (filter (is_of side') (store (start_of q) (took q) n)) =
            subst
            (λ i.
            SameBag (moved_of (e + 1) ((f.joiner q).to_joiner i))
            (filter (is_of side') (store (start_of q) (took q) n))) (sym to_j) (law'.moved n open_q) in
            let side_is : side' ≡ x =
            ap (λ c. exchanged_side c (shift_after (start_of q) (took q) (n + 1))) (shift_is q h' n (omega arith))
            ∙ ap (λ c. exchanged_side (b e) c) (shift_next q h' n open_q) in
            let its' : SameBag its_part (filter (is_of x) (store (start_of q) (took q) n)) =
            subst (λ y. SameBag its_part (filter (is_of y) (store (start_of q) (took q) n))) side_is its in
            let its'' : IsWithinBag (map old its_part) (filter (is_of x) (map old (store (start_of q) (took q) n))) =
            subst (λ ts. IsWithinBag (map old its_part) ts)
            (sym (filter-map old (is_of x) (is_of x) (λ y. refl) (store (start_of q) (took q) n)))
            (within-map old (within_same its')) in
            IsWithinBag-trans its'' (within-filter (is_of x) (below q h' (omega arith)))
      ] in
      subst
      (λ i.
      IsWithinBag (map old (moved_of (e + 1) (t.from_joiner q)))
      (filter (is_of x) (filter (is_stored k (b e) e i) all))) (sym same_q)
      (IsWithinBag-trans (within-map old front) all_sent)

  -- a joiner has stored at most the rows of an epoch or older that it holds at its shift, each at most once
  pub stores_at_most : (n j : ℕ) (h : j < 2 ^ setting.k) → n ≤ opened (start_of j) (took j)
      → IsWithinBag (map old (store (start_of j) (took j) n)) (filter (is_stored setting.k (b (e0 + n)) (e0 + n) j) all)
  stores_at_most zero j h low =
      let k = setting.k in
      let s = start_of j in
      let t = took j in
      let same : e0 ≡ e0 + 0 = omega arith in
      let mine : SameBag (map old (rest.stores j)) (filter (holds k (b e0) j) (old_rows input rest.line)) =
      subst (λ c. SameBag (map old (rest.stores j)) (filter (holds k c j) (old_rows input rest.line)))
      (begins input setting rest f agrees) (stands.stored j h) in
      let since =
      granted_since input setting rest f agrees b (feeders_go input setting rest f agrees)
      (begins input setting rest f agrees) in
      let first : IsWithinBag (map old (rest.stores j) ++ map old (arrived s t e0))
      (filter (is_stored k (b e0) e0 j) all) =
      first_within k (b e0) e0 j (map old (rest.stores j)) (map old (arrived s t e0)) (old_rows input rest.line)
      new_rows (old_stamps input rest.line) since mine (arrived_within j h e0 (omega arith)) in
      let first' : IsWithinBag (map old (store s t 0)) (filter (is_stored k (b e0) e0 j) all) =
      subst (λ ts. IsWithinBag ts (filter (is_stored k (b e0) e0 j) all))
      (sym (map-append old (rest.stores j) (arrived s t e0))) first in
      subst (λ e. IsWithinBag (map old (store s t 0)) (filter (is_stored k (b e) e j) all)) same first'
  stores_at_most (suc n) j h low =
      let k = setting.k in
      let law = agrees.joiners j h in
      let s = start_of j in
      let t = took j in
      let e = e0 + n in
      let is_open : n < opened s t = omega arith in
      let here : shift_after s t n ≡ b e = shift_is j h n (omega arith) in
      let next : shift_after s t (n + 1) ≡ b (e + 1) = shift_next j h n is_open in
      let near : AreNeighbours (b e) (b (e + 1)) =
      subst (λ c. AreNeighbours c (b (e + 1))) here
      (subst (λ c. AreNeighbours (shift_after s t n) c) next (law.by_one n is_open)) in
      let low_here : b e ≤ k = subst (λ c. c ≤ k) here (law.within n (omega arith)) in
      let low_next : b (e + 1) ≤ k = subst (λ c. c ≤ k) next (law.within (n + 1) (omega arith)) in
      let one : e + 1 ≡ e0 + suc n = omega arith in
      let moved : List Tuple = moved_of (e + 1) (t.from_joiner (partner_of s t n)) in
      let keep : Tuple → Bool = λ x. (x.stamp == e + 1) && holds k (b (e + 1)) j x in
      let new : IsWithinBag (map old (arrived s t (e + 1))) (filter keep all) =
      IsWithinBag-trans (arrived_within j h (e + 1) (omega arith))
      (within_same
      (later_alone e0 (e + 1) (holds k (b (e + 1)) j) (old_rows input rest.line) new_rows
      (old_stamps input rest.line) (omega arith))) in
      let whole : IsWithinBag
      (filter (holds k (b (e + 1)) j) (map old (store s t n)) ++ map old moved ++ map old (arrived s t (e + 1)))
      (filter (is_stored k (b (e + 1)) (e + 1) j) all) =
      step_within all (map old (store s t n)) (map old moved) (map old (arrived s t (e + 1))) k (b e) (b (e + 1))
      e j near low_here low_next valid.small
      (stores_at_most n j h (omega arith)) (came_within n j h is_open (λ q h' low'. stores_at_most n q h' low')) new in
      let parts : map old (store s t (suc n)) ≡ filter (holds k (b (e + 1)) j) (map old (store s t n)) ++ map old moved
      ++ map old (arrived s t (e + 1)) =
      map-append old (filter (holds k (shift_after s t (n + 1)) j) (store s t n) ++ moved) (arrived s t (e + 1))
      ∙ ap (λ ts. ts ++ map old (arrived s t (e + 1)))
      (map-append old (filter (holds k (shift_after s t (n + 1)) j) (store s t n)) moved)
      ∙ ap (λ c. map old (filter (holds k c j) (store s t n)) ++ map old moved ++ map old (arrived s t (e + 1))) next
      ∙ ap (λ ts. ts ++ map old moved ++ map old (arrived s t (e + 1)))
      (sym (filter-map old (holds k (b (e + 1)) j) (holds k (b (e + 1)) j) (λ y. refl) (store s t n))) in
      let whole' : IsWithinBag (map old (store s t (suc n))) (filter (is_stored k (b (e + 1)) (e + 1) j) all) =
      subst (λ ts. IsWithinBag ts (filter (is_stored k (b (e + 1)) (e + 1) j) all)) (sym parts) whole in
      subst (λ m. IsWithinBag (map old (store s t (suc n))) (filter (is_stored k (b m) m j) all)) one whole'
