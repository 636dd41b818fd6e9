-- Bags that are parts of others.
use Rattle.std.proofs.Common.{◌≡◌, ℕ, zero, suc, ◌<◌, ◌≤◌, inl, inr, refl, sym, ◌∙◌, arith, Bool, true, false, List, []}
use Rattle.std.proofs.Common.{◌∷◌, length, ◌++◌, not}
use Rattle.std.specs.Prelude.{filter, sum_by}
use Rattle.std.specs.List.{AllByRecursion}
use Rattle.std.proofs.lemmas.List.Sums.{sum_by-cons, sum_by-append}
use Rattle.std.proofs.lemmas.Bool.{cases_eq}
use Rattle.row_cells.specs.Lists.{SameBag, gather, IsWithinBag}
use Rattle.row_cells.proofs.Bags.{only_if, sum-same, sum-filter}
use Rattle.row_cells.proofs.Totals.{total_same, total_le, sum-gather, sum_zero}

-- a part of a part is a part of the whole
pub IsWithinBag-trans : {X : Type 0} {xs ys zs : List X} → IsWithinBag xs ys → IsWithinBag ys zs → IsWithinBag xs zs
IsWithinBag-trans a b = record { sums = λ f. let x = a.sums f in let y = b.sums f in omega arith }

-- of two lists that are one bag the first is within the other
pub within_same : {X : Type 0} {xs ys : List X} → SameBag xs ys → IsWithinBag xs ys
within_same same = record { sums = λ f. let is = same.sums f in omega arith }

-- a bag within another stays so under a filter
pub within-filter : {X : Type 0} {xs ys : List X} (keep : X → Bool) → IsWithinBag xs ys
    → IsWithinBag (filter keep xs) (filter keep ys)
within-filter {xs = xs} {ys = ys} keep within = record {
  sums = λ f.
      let a = sum-filter f keep xs in
      let b = sum-filter f keep ys in
      let below = within.sums (λ x. only_if (keep x) (f x)) in
      omega arith;
}

-- the lists of all indices below n, end to end, are within others, where each is within its own
pub within-gather : {X : Type 0} (n : ℕ) (g h : ℕ → List X) → ((i : ℕ) → i < n → IsWithinBag (g i) (h i))
    → IsWithinBag (gather n g) (gather n h)
within-gather n g h each = record {
  sums = λ f.
      let a = sum-gather f n g in
      let b = sum-gather f n h in
      let below = total_le n (λ i. sum_by f (g i)) (λ i. sum_by f (h i)) (λ i low. let in_i = each i low in
      in_i.sums f) in
      omega arith;
}

-- and so are two lists end to end
pub within-append : {X : Type 0} {xs ys us vs : List X} → IsWithinBag xs us → IsWithinBag ys vs
    → IsWithinBag (xs ++ ys) (us ++ vs)
within-append {xs = xs} {ys = ys} {us = us} {vs = vs} left right = record {
  sums = λ f.
      let l = left.sums f in let r = right.sums f in
      let a = sum_by-append f xs ys in let b = sum_by-append f us vs in
      omega arith;
}

-- a list is within each that begins with it
pub within-more : {X : Type 0} (xs ys : List X) → IsWithinBag xs (xs ++ ys)
within-more xs ys = record { sums = λ f. let a = sum_by-append f xs ys in omega arith }

-- a list without an element is within any
pub nothing_within : {X : Type 0} (xs ys : List X) → length xs ≡ 0 → IsWithinBag xs ys
nothing_within [] ys none = record { sums = λ f. omega arith }
nothing_within (x ∷ xs) ys none = absurd (omega arith)

-- a list is within itself
pub within-refl : {X : Type 0} (xs : List X) → IsWithinBag xs xs
within-refl xs = record { sums = λ f. omega arith }

-- what passes a test in a list is within the list
pub filtered_within : {X : Type 0} (keep : X → Bool) (xs : List X) → IsWithinBag (filter keep xs) xs
filtered_within {X = X} keep xs = record {
  sums = λ f.
      let is = sum-filter f keep xs in
      let below = kept_below f xs in
      omega arith;
}
  where
    at_most : (t : Bool) (n : ℕ) → only_if t n ≤ n
    at_most true n = omega arith
    at_most false n = omega arith

    kept_below : (f : X → ℕ) (ys : List X) → sum_by (λ x. only_if (keep x) (f x)) ys ≤ sum_by f ys
    kept_below f [] = omega arith
    kept_below f (y ∷ ys) =
        let rest = kept_below f ys in
        let here = at_most (keep y) (f y) in
        let a = sum_by-cons (λ x. only_if (keep x) (f x)) y ys in
        let c = sum_by-cons f y ys in
        omega arith

-- the lists of fewer indices, end to end, are within those of more
pub gather_more : {X : Type 0} (n m : ℕ) (g : ℕ → List X) → n ≤ m → IsWithinBag (gather n g) (gather m g)
gather_more n zero g low = let none : n ≡ 0 = omega arith in rw none (within-refl (gather 0 g))
gather_more n (suc m) g low = elim (cases_eq n (suc m)) [
  | inl is ↦ rw is (within-refl (gather (suc m) g))
  | inr differ ↦ IsWithinBag-trans (gather_more n m g (omega arith)) (within-more (gather m g) (g m))
]

-- lists end to end are one bag with others, where each is one with its own
pub same-gather : {X : Type 0} (n : ℕ) (g h : ℕ → List X) → ((i : ℕ) → i < n → SameBag (g i) (h i))
    → SameBag (gather n g) (gather n h)
same-gather n g h each = record {
  sums = λ f. sum-gather f n g ∙ total_same n (λ i. sum_by f (g i)) (λ i. sum_by f (h i))
      (λ i low. let in_i = each i low in in_i.sums f) ∙ sym (sum-gather f n h);
}

-- where no element fails a test, each passes it
pub none_fails : {X : Type 0} (test : X → Bool) (xs : List X) → sum_by (λ x. only_if (not (test x)) 1) xs ≡ 0
    → AllByRecursion (λ x. test x ≡ true) xs
none_fails test [] none = tt
none_fails test (x ∷ xs) none =
    let parts = sum_by-cons (λ y. only_if (not (test y)) 1) x xs in
    (passes (test x) (omega arith), none_fails test xs (omega arith))
  where
    passes : (t : Bool) → only_if (not t) 1 ≡ 0 → t ≡ true
    passes true is = refl
    passes false is = absurd (omega arith)

-- what is within the elements that pass a test passes it
pub all_pass : {X : Type 0} (test : X → Bool) (xs ys : List X) → IsWithinBag xs (filter test ys)
    → AllByRecursion (λ x. test x ≡ true) xs
all_pass test xs ys within =
    let below = within.sums (λ x. only_if (not (test x)) 1) in
    let is = sum-filter (λ x. only_if (not (test x)) 1) test ys in
    let none : sum_by (λ x. only_if (test x) (only_if (not (test x)) 1)) ys ≡ 0 =
    sum-same (λ x. only_if (test x) (only_if (not (test x)) 1)) (λ x. 0) (λ x. by_test (test x)) ys ∙ sum_zero ys in
    none_fails test xs (omega arith)
  where
    by_test : (t : Bool) → only_if t (only_if (not t) 1) ≡ 0
    by_test true = refl
    by_test false = refl
