-- Older rows with the wave's first epoch as their stamp: what a store is compared with.
use Rattle.std.proofs.Common.{◌≡◌, ℕ, ◌<◌, ◌≤◌, max, refl, sym, ◌∙◌, ap, arith, Bool, true, false, cond, ◌&&◌, List, []}
use Rattle.std.proofs.Common.{◌∷◌, ◌++◌}
use Rattle.std.specs.Prelude.{map, filter, sum_by, ◌==◌, nat_le}
use Rattle.std.specs.List.{AllByRecursion}
use Rattle.std.proofs.lemmas.Bool.{and_parts, eqb-true, ne_eqb, le-leb}
use Rattle.std.proofs.lemmas.Bool.Decides.{nat_tests}
use Rattle.std.proofs.lemmas.List.Sums.{sum_by-append}
use Rattle.row_cells.specs.Lists.{SameBag, IsWithinBag}
use Rattle.row_cells.proofs.Bags.{only_if, sum-filter, sum_of_map}
use Rattle.row_cells.proofs.Everywhere.{all-map}
use Rattle.row_cells.proofs.Totals.{sum_same_on, sum_zero}
use Rattle.epoch_tags.specs.declared.tuple.Tuple.{Tuple}
use Rattle.migration_plan.specs.Steps.{holds}
use Rattle.load_controller.specs.declared.line.TurnLine.{TurnLine}
use Rattle.row_tickets.specs.declared.place.Place.{Place}
use Rattle.trace_law.specs.declared.input.Input.{Input}
use Rattle.trace_law.specs.Family.{is_old, all_places, tuple_of, old_rows, aged}
use Rattle.trace_law.specs.Join.{is_before}
use Rattle.trace_law.specs.Stored.{is_stored}

-- ---- of any list

-- a filter after a map by a function that the test sees through
pub filter-map : {X Y : Type 0} (g : X → Y) (test : Y → Bool) (own : X → Bool) → ((x : X) → test (g x) ≡ own x)
    → (xs : List X) → filter test (map g xs) ≡ map g (filter own xs)
filter-map g test own same [] = refl
filter-map g test own same (x ∷ xs) =
    ap (λ c. cond c (g x ∷ filter test (map g xs)) (filter test (map g xs))) (same x)
    ∙ by_test (own x) (filter-map g test own same xs)
  where
    by_test : (c : Bool) → filter test (map g xs) ≡ map g (filter own xs)
        → cond c (g x ∷ filter test (map g xs)) (filter test (map g xs))
        ≡ map g (cond c (x ∷ filter own xs) (filter own xs))
    by_test true rest = ap (λ ys. g x ∷ ys) rest
    by_test false rest = rest

-- a bag within another stays so under a map
pub within-map : {X Y : Type 0} {xs ys : List X} (g : X → Y) → IsWithinBag xs ys → IsWithinBag (map g xs) (map g ys)
within-map {xs = xs} {ys = ys} g within = record {
  sums = λ f.
      let a = sum_of_map f g xs in
      let b = sum_of_map f g ys in
      let c = within.sums (λ x. f (g x)) in
      omega arith;
}

-- what holds of everything holds of each element
pub everywhere : {X : Type 0} (P : X → Type 0) → ((x : X) → P x) → (xs : List X) → AllByRecursion P xs
everywhere P each [] = tt
everywhere P each (x ∷ xs) = (each x, everywhere P each xs)

-- ---- tuples of the wave are as they are

pick : (c : Bool) (a b : ℕ) → a ≡ b → cond c a b ≡ b
pick true a b is = is
pick false a b is = refl

-- a tuple with a stamp of the wave stays as it is
pub aged_new : (line : TurnLine) (t : Tuple) → line.epoch ≤ t.stamp → aged line t ≡ t
aged_new line t new =
    ap (λ s. record t {
      stamp = s;
    }) (pick (is_before line t.side t.index) (max line.epoch t.stamp) t.stamp (omega arith))

-- so do all tuples with one stamp of the wave
pub aged_in : (line : TurnLine) (v : ℕ) (h : Tuple → Bool) → line.epoch ≤ v → (ts : List Tuple)
    → map (aged line) (filter (λ t. (t.stamp == v) && h t) ts) ≡ filter (λ t. (t.stamp == v) && h t) ts
aged_in line v h low [] = refl
aged_in line v h low (t ∷ ts) =
    by_test ((t.stamp == v) && h t)
    (λ is. let same = eqb-true t.stamp v (and_parts (t.stamp == v) (h t) is).0 in aged_new line t (omega arith))
    (aged_in line v h low ts)
  where
    kept : List Tuple
    kept = filter (λ x. (x.stamp == v) && h x) ts

    by_test : (c : Bool) → (c ≡ true → aged line t ≡ t) → map (aged line) kept ≡ kept
        → map (aged line) (cond c (t ∷ kept) kept) ≡ cond c (t ∷ kept) kept
    by_test true same rest = ap (λ x. x ∷ map (aged line) kept) (same refl) ∙ ap (λ xs. t ∷ xs) rest
    by_test false same rest = rest

-- ---- the rows from before the wave

-- the older rows have the wave's first epoch as their stamp
pub old_stamps : (input : Input) (line : TurnLine) → AllByRecursion (λ t. t.stamp ≡ line.epoch) (old_rows input line)
old_stamps input line =
    all-map (λ (t : Tuple). t.stamp ≡ line.epoch) (tuple_of input line.epoch) (filter (is_old line) (all_places input))
    (everywhere (λ (place : Place). line.epoch ≡ line.epoch) (λ place. refl) (filter (is_old line) (all_places input)))

-- what has a later stamp is not among them
pub later_alone : (e v : ℕ) (h : Tuple → Bool) (old new : List Tuple) → AllByRecursion (λ t. t.stamp ≡ e) old → e < v
    → SameBag (filter (λ t. (t.stamp == v) && h t) new) (filter (λ t. (t.stamp == v) && h t) (old ++ new))
later_alone e v h old new stamps later = record {
  sums = λ f.
      let w : Tuple → ℕ = λ t. only_if ((t.stamp == v) && h t) (f t) in
      let a = sum-filter f (λ t. (t.stamp == v) && h t) new in
      let b = sum-filter f (λ t. (t.stamp == v) && h t) (old ++ new) in
      let parts = sum_by-append w old new in
      let none =
      sum_same_on (λ t. t.stamp ≡ e) w (λ t. 0)
      (λ t is. ap (λ c. only_if (c && h t) (f t)) (ne_eqb t.stamp v (λ same. absurd (omega arith)))) old stamps in
      let zero_left = sum_zero old in
      omega arith;
}

-- ---- the first epoch: what the store began with and what arrived are together what is held

old_part : (k b e j : ℕ) (old : List Tuple) → AllByRecursion (λ t. t.stamp ≡ e) old → (f : Tuple → ℕ)
    → sum_by (λ t. only_if (holds k b j t) (f t)) old ≡ sum_by (λ t. only_if (is_stored k b e j t) (f t)) old
old_part k b e j old stamps f =
    sum_same_on (λ t. t.stamp ≡ e) (λ t. only_if (holds k b j t) (f t)) (λ t. only_if (is_stored k b e j t) (f t))
    (λ t is. ap (λ c. only_if (c && holds k b j t) (f t)) (sym (le-leb t.stamp e (omega arith)))) old stamps

new_part : (k b e j : ℕ) (new : List Tuple) → AllByRecursion (λ t. e ≤ t.stamp) new → (f : Tuple → ℕ)
    → sum_by (λ t. only_if ((t.stamp == e) && holds k b j t) (f t)) new
    ≡ sum_by (λ t. only_if (is_stored k b e j t) (f t)) new
new_part k b e j new stamps f =
    sum_same_on (λ t. e ≤ t.stamp) (λ t. only_if ((t.stamp == e) && holds k b j t) (f t))
    (λ t. only_if (is_stored k b e j t) (f t))
    (λ t low. ap (λ c. only_if (c && holds k b j t) (f t)) (at_least t.stamp low)) new stamps
  where
    at_least : (stamp : ℕ) → e ≤ stamp → (stamp == e) ≡ nat_le stamp e
    at_least stamp low = grind (arith, nat_tests)

module _ (k b e j : ℕ) (base arrived old new : List Tuple) where
  -- base and arrivals are together what is held of the older and the granted rows of the first epoch
  pub first_same : AllByRecursion (λ t. t.stamp ≡ e) old
      → AllByRecursion (λ t. e ≤ t.stamp) new
      → SameBag base (filter (holds k b j) old) → SameBag arrived (filter (λ t. (t.stamp == e) && holds k b j t) new)
      → SameBag (base ++ arrived) (filter (is_stored k b e j) (old ++ new))
  first_same stamps since mine came = record {
    sums = λ f.
        let w : Tuple → ℕ = λ t. only_if (is_stored k b e j t) (f t) in
        let a = mine.sums f ∙ sum-filter f (holds k b j) old ∙ old_part k b e j old stamps f in
        let c = came.sums f ∙ sum-filter f (λ t. (t.stamp == e) && holds k b j t) new ∙ new_part k b e j new since f in
        let left = sum_by-append f base arrived in
        let right = sum-filter f (is_stored k b e j) (old ++ new) ∙ sum_by-append w old new in
        omega arith;
  }

  -- the same where not all has arrived
  pub first_within : AllByRecursion (λ t. t.stamp ≡ e) old
      → AllByRecursion (λ t. e ≤ t.stamp) new
      → SameBag base (filter (holds k b j) old)
      → IsWithinBag arrived (filter (λ t. (t.stamp == e) && holds k b j t) new)
      → IsWithinBag (base ++ arrived) (filter (is_stored k b e j) (old ++ new))
  first_within stamps since mine came = record {
    sums = λ f.
        let w : Tuple → ℕ = λ t. only_if (is_stored k b e j t) (f t) in
        let a = mine.sums f ∙ sum-filter f (holds k b j) old ∙ old_part k b e j old stamps f in
        let below = came.sums f in
        let c = sum-filter f (λ t. (t.stamp == e) && holds k b j t) new ∙ new_part k b e j new since f in
        let left = sum_by-append f base arrived in
        let right = sum-filter f (is_stored k b e j) (old ++ new) ∙ sum_by-append w old new in
        omega arith;
  }
