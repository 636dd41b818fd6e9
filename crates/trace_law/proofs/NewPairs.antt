-- Pairs of what a store began with, beside those that are found.
use Rattle.std.proofs.Common.{◌≡◌, ℕ, ◌+◌, ◌<◌, ◌≤◌, ◌^◌, max, inl, inr, refl, sym, ◌∙◌, ap, arith, Bool, true, false}
use Rattle.std.proofs.Common.{cond, ◌&&◌, List, ◌++◌}
use Rattle.std.specs.Prelude.{map, filter, sum_by, ◌==◌, nat_le}
use Rattle.std.specs.List.{AllByRecursion}
use Rattle.std.proofs.lemmas.Bool.{cases_Bool, eq-eqb, leb-true}
use Rattle.std.proofs.lemmas.Bool.Decides.{nat_tests}
use Rattle.std.proofs.lemmas.List.Sums.{sum_by-append}
use Rattle.row_cells.specs.declared.table.Side.TheVariants.{R, S}
use Rattle.row_cells.specs.Lists.{SameBag, gather, total}
use Rattle.row_cells.proofs.Bags.{only_if, sum-same, sum_of_map}
use Rattle.row_cells.specs.declared.table.Side.{Side}
use Rattle.row_cells.proofs.Totals.{sum_plus, sum_same_on, sum-gather, total_same, exchange, one_index, zeros}
use Rattle.grid_map.specs.Grid.{meet, holds_r, holds_s}
use Rattle.grid_map.proofs.Halves.{meets, meet_below}
use Rattle.epoch_tags.specs.declared.tuple.Tuple.{Tuple}
use Rattle.epoch_tags.specs.declared.tuple.Pair.{Pair}
use Rattle.migration_plan.specs.Steps.{holds, holds_ticket, is_of, same_side}
use Rattle.joiner_law.specs.Law.{pairs_by, pair_of, is_greater_stamp}
use Rattle.load_controller.specs.declared.line.TurnLine.{TurnLine}
use Rattle.trace_law.specs.Family.{aged}
use Rattle.trace_law.specs.Join.{is_before}
use Rattle.trace_law.specs.Stored.{is_stored}
use Rattle.trace_law.proofs.FoundOnce.{sum-pairs, sum-pairs_by, never, turn_round}

-- ---- of two lists in one

-- what a pair of two tuples counts for
abbrev pub weight_of : (Tuple → Tuple → Bool) → (Pair → ℕ) → Tuple → Tuple → ℕ
weight_of test f r q = only_if (is_of R r) (only_if (is_of S q && test r q) (f (pair_of r q)))

-- the pairs with one of the second list, and those within the first, are all
pub pairs-parts : (test : Tuple → Tuple → Bool) (base new : List Tuple)
    → SameBag ((pairs_by test new (base ++ new) ++ pairs_by test base new) ++ pairs_by test base base)
    (pairs_by test (base ++ new) (base ++ new))
pairs-parts test base new = record {
  sums = λ f.
      let w = weight_of test f in
      let all = base ++ new in
      let a1 = sum-pairs f test new all in
      let a2 = sum-pairs f test base new in
      let a3 = sum-pairs f test base base in
      let a4 = sum-pairs f test all all in
      let outer = sum_by-append (λ r. sum_by (w r) all) base new in
      let inner =
      sum-same (λ r. sum_by (w r) all) (λ r. sum_by (w r) base + sum_by (w r) new)
      (λ r. sum_by-append (w r) base new) base in
      let split = sum_plus (λ r. sum_by (w r) base) (λ r. sum_by (w r) new) base in
      let left = sum_by-append f (pairs_by test new all ++ pairs_by test base new) (pairs_by test base base) in
      let left' = sum_by-append f (pairs_by test new all) (pairs_by test base new) in
      omega arith;
}

-- a test that doesn't look at older stamps finds the same pairs
pub pairs-aged : (line : TurnLine) (own test : Tuple → Tuple → Bool)
    → ((r q : Tuple) → test (aged line r) (aged line q) ≡ own r q) → (rs ss : List Tuple)
    → SameBag (pairs_by own rs ss) (pairs_by test (map (aged line) rs) (map (aged line) ss))
pairs-aged line own test same rs ss = record {
  sums = λ f.
      let w = weight_of own f in
      let w' = weight_of test f in
      sum-pairs f own rs ss
      ∙ sum-same (λ r. sum_by (w r) ss) (λ r. sum_by (w' (aged line r)) (map (aged line) ss))
      (λ r.
      sum-same (w r) (λ q. w' (aged line r) (aged line q))
      (λ q. ap (λ c. only_if (is_of R r) (only_if (is_of S q && c) (f (pair_of r q)))) (sym (same r q))) ss
      ∙ sym (sum_of_map (w' (aged line r)) (aged line) ss)) rs
      ∙ sym (sum_of_map (λ r. sum_by (w' r) (map (aged line) ss)) (aged line) rs)
      ∙ sym (sum-pairs f test (map (aged line) rs) (map (aged line) ss));
}

-- the greater stamp is a later epoch whatever the older stamps are
pub later_stamp : (line : TurnLine) (e : ℕ) → line.epoch < e → (r q : Tuple)
    → is_greater_stamp e (aged line r) (aged line q) ≡ is_greater_stamp e r q
later_stamp line e late r q = at (is_before line r.side r.index) (is_before line q.side q.index) r.stamp q.stamp
  where
    at : (c d : Bool) (a b : ℕ)
        → (max (cond c (max line.epoch a) a) (cond d (max line.epoch b) b) == e) ≡ (max a b == e)
    at true true a b = grind (arith, nat_tests)
    at true false a b = grind (arith, nat_tests)
    at false true a b = grind (arith, nat_tests)
    at false false a b = refl

module _ (e sr sq n : ℕ) (hr hs side_r side_q m : Bool) where
  -- in the first epoch each pair has its stamp
  at_first : e ≤ sr → e ≤ sq
      → only_if (nat_le sr e && hr) (only_if side_r (only_if (nat_le sq e && hs) (only_if (side_q && m) n)))
      ≡ only_if (nat_le sr e && hr)
      (only_if side_r (only_if (nat_le sq e && hs) (only_if (side_q && (m && (max sr sq == e))) n)))
  at_first low_r low_q = elim (cases_Bool (nat_le sr e)) [
    | inl r ↦ elim (cases_Bool (nat_le sq e)) [
      | inl q ↦
          let high_r = leb-true sr e r in
          let high_q = leb-true sq e q in
          rw (eq-eqb (max sr sq) e (omega arith)) (both m)
      | inr q ↦ rw q refl
    ]
    | inr r ↦ rw r refl
  ]
    where
      both : (t : Bool)
          → only_if (nat_le sr e && hr) (only_if side_r (only_if (nat_le sq e && hs) (only_if (side_q && t) n)))
          ≡ only_if (nat_le sr e && hr)
          (only_if side_r (only_if (nat_le sq e && hs) (only_if (side_q && (t && true)) n)))
      both true = refl
      both false = refl

-- of stored rows of the first epoch or older each pair has that epoch as its greater stamp
pub first_finds : (matches : Tuple → Tuple → Bool) (k j c e : ℕ) (ts : List Tuple)
    → AllByRecursion (λ t. e ≤ t.stamp) ts
    → let kept = filter (is_stored k c e j) ts in
    SameBag (pairs_by matches kept kept) (pairs_by (λ r q. matches r q && is_greater_stamp e r q) kept kept)
first_finds matches k j c e ts since = record {
  sums = λ f.
      let keep = is_stored k c e j in
      let w : Tuple → Tuple → ℕ =
      λ r q.
      only_if (keep r)
      (only_if (is_of R r) (only_if (keep q) (only_if (is_of S q && matches r q) (f (pair_of r q))))) in
      let w' : Tuple → Tuple → ℕ =
      λ r q.
      only_if (keep r)
      (only_if (is_of R r)
      (only_if (keep q) (only_if (is_of S q && (matches r q && is_greater_stamp e r q)) (f (pair_of r q))))) in
      sum-pairs_by f matches keep ts
      ∙ sum_same_on (λ t. e ≤ t.stamp) (λ r. sum_by (w r) ts) (λ r. sum_by (w' r) ts)
      (λ r low_r. sum_same_on (λ t. e ≤ t.stamp) (w r) (w' r)
      (λ q low_q.
      at_first e r.stamp q.stamp (f (pair_of r q)) (holds k c j r) (holds k c j q) (is_of R r) (is_of S q)
      (matches r q) low_r low_q) ts since) ts since
      ∙ sym (sum-pairs_by f (λ r q. matches r q && is_greater_stamp e r q) keep ts);
}

-- ---- the pairs of older rows: each meets in one joiner

-- pairs of the same rows are the same
pub same_pairs : {rs ss rs' ss' : List Tuple} (test : Tuple → Tuple → Bool) → SameBag rs rs' → SameBag ss ss'
    → SameBag (pairs_by test rs ss) (pairs_by test rs' ss')
same_pairs {rs = rs} {ss = ss} {rs' = rs'} {ss' = ss'} test left right = record {
  sums = λ f.
      let w = weight_of test f in
      sum-pairs f test rs ss
      ∙ sum-same (λ r. sum_by (w r) ss) (λ r. sum_by (w r) ss') (λ r. right.sums (w r)) rs
      ∙ left.sums (λ r. sum_by (w r) ss')
      ∙ sym (sum-pairs f test rs' ss');
}

module _ (k b : ℕ) (small : k ≤ 8) (within : b ≤ k) where
  -- an R tuple and an S tuple are held together by one joiner, others by none
  meet_once : (side_r side_q : Side) (tr tq n : ℕ) (m : Bool) → tr < 2 ^ 8
      → total (2 ^ k)
      (λ j.
      only_if (holds_ticket k b j side_r tr)
      (only_if (same_side R side_r) (only_if (holds_ticket k b j side_q tq) (only_if (same_side S side_q && m) n))))
      ≡ only_if (same_side R side_r) (only_if (same_side S side_q && m) n)
  meet_once R S tr tq n m fits =
      total_same (2 ^ k) (λ j. only_if (holds_r k b j tr) (only_if (holds_s b j tq) (only_if m n)))
      (λ j. only_if (meet k b tr tq == j) (only_if m n))
      (λ j below. both (holds_r k b j tr) (holds_s b j tq)
      ∙ ap (λ t. only_if t (only_if m n)) (meets k b j tr tq ∙ turn_round j (meet k b tr tq)))
      ∙ one_index (2 ^ k) (meet k b tr tq) (λ j. only_if m n) (meet_below k b tr tq within small fits)
    where
      both : (hr hs : Bool) → only_if hr (only_if hs (only_if m n)) ≡ only_if (hr && hs) (only_if m n)
      both true hs = refl
      both false hs = refl
  meet_once R R tr tq n m fits =
      zeros (2 ^ k) (λ j. only_if (holds_r k b j tr) (only_if (holds_r k b j tq) 0))
      (λ j. ap (λ x. only_if (holds_r k b j tr) x) (never (holds_r k b j tq)) ∙ never (holds_r k b j tr))
  meet_once S side_q tr tq n m fits = zeros (2 ^ k) (λ j. only_if (holds_s b j tr) 0) (λ j. never (holds_s b j tr))

  -- each pair is one of just one joiner
  pub held_once : (matches : Tuple → Tuple → Bool) (all : List Tuple) → AllByRecursion (λ t. t.ticket < 2 ^ 8) all
      → SameBag (gather (2 ^ k) (λ j. pairs_by matches (filter (holds k b j) all) (filter (holds k b j) all)))
      (pairs_by matches all all)
  held_once matches all fit = record {
    sums = λ f.
        let w : ℕ → Tuple → Tuple → ℕ =
        λ j r q.
        only_if (holds k b j r)
        (only_if (is_of R r) (only_if (holds k b j q) (only_if (is_of S q && matches r q) (f (pair_of r q))))) in
        sum-gather f (2 ^ k) (λ j. pairs_by matches (filter (holds k b j) all) (filter (holds k b j) all))
        ∙ total_same (2 ^ k) (λ j. sum_by f (pairs_by matches (filter (holds k b j) all) (filter (holds k b j) all)))
        (λ j. sum_by (λ r. sum_by (w j r) all) all) (λ j low. sum-pairs_by f matches (holds k b j) all)
        ∙ exchange (2 ^ k) (λ j r. sum_by (w j r) all) all
        ∙ sum_same_on (λ t. t.ticket < 2 ^ 8) (λ r. total (2 ^ k) (λ j. sum_by (w j r) all))
        (λ r. sum_by (weight_of matches f r) all)
        (λ r fits. exchange (2 ^ k) (λ j. w j r) all
        ∙ sum-same (λ q. total (2 ^ k) (λ j. w j r q)) (weight_of matches f r)
        (λ q. meet_once r.side q.side r.ticket q.ticket (f (pair_of r q)) (matches r q) fits) all) all fit
        ∙ sym (sum-pairs f matches all all);
  }

-- ---- what is left without equal parts
