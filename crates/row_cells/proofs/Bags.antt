-- Laws of bags. A bag is what its sums are, so each law is one on numbers.
use Rattle.std.proofs.Common.{◌≡◌, ℕ, ◌+◌, refl, sym, ◌∙◌, ap, arith, Bool, true, false, cond, List, [], ◌∷◌, ◌++◌}
use Rattle.std.specs.Prelude.{filter, map, flat_map, sum_by}
use Rattle.std.specs.List.Sorted.{IsPermutation}
use Rattle.std.proofs.lemmas.List.Sums.{sum_by-cons, sum_by-append}
use Rattle.std.proofs.lemmas.List.Sorted.{sum_by-IsPermutation}
use Rattle.row_cells.specs.Lists.{IsPrefix, SameBag, IsWithinBag}

-- the number where the test passes, else 0
abbrev pub only_if : Bool → ℕ → ℕ
only_if b n = cond b n 0

-- ---- sums

-- two sums that count the same for every element are equal
pub sum-same : {X : Type 0} (f g : X → ℕ) → ((x : X) → f x ≡ g x) → (xs : List X) → sum_by f xs ≡ sum_by g xs
sum-same f g same [] = refl
sum-same f g same (x ∷ xs) = sum_by-cons f x xs ∙ ap (λ n. n + sum_by f xs) (same x)
    ∙ ap (λ n. g x + n) (sum-same f g same xs) ∙ sym (sum_by-cons g x xs)

sum_cond : {X : Type 0} (f : X → ℕ) (b : Bool) (x : X) (ys : List X)
    → sum_by f (cond b (x ∷ ys) ys) ≡ only_if b (f x) + sum_by f ys
sum_cond f true x ys = sum_by-cons f x ys
sum_cond f false x ys = omega arith

-- a sum over what passes a test is one over all that counts nothing where the test fails
pub sum-filter : {X : Type 0} (f : X → ℕ) (keep : X → Bool) (xs : List X)
    → sum_by f (filter keep xs) ≡ sum_by (λ x. only_if (keep x) (f x)) xs
sum-filter f keep [] = refl
sum-filter f keep (x ∷ xs) =
    sum_cond f (keep x) x (filter keep xs)
    ∙ ap (λ n. only_if (keep x) (f x) + n) (sum-filter f keep xs)
    ∙ sym (sum_by-cons (λ y. only_if (keep y) (f y)) x xs)

-- a sum over a mapped list counts for each element what it is mapped to
pub sum_of_map : {X Y : Type 0} (f : Y → ℕ) (g : X → Y) (xs : List X) → sum_by f (map g xs) ≡ sum_by (λ x. f (g x)) xs
sum_of_map f g [] = refl
sum_of_map f g (x ∷ xs) = sum_by-cons f (g x) (map g xs) ∙ ap (λ n. f (g x) + n) (sum_of_map f g xs)
    ∙ sym (sum_by-cons (λ y. f (g y)) x xs)

-- a sum over the lists that elements are mapped to, end to end, counts for each element the sum over its list
pub sum-flat_map : {X Y : Type 0} (f : Y → ℕ) (g : X → List Y) (xs : List X)
    → sum_by f (flat_map g xs) ≡ sum_by (λ x. sum_by f (g x)) xs
sum-flat_map f g [] = refl
sum-flat_map f g (x ∷ xs) = sum_by-append f (g x) (flat_map g xs) ∙ ap (λ n. sum_by f (g x) + n) (sum-flat_map f g xs)
    ∙ sym (sum_by-cons (λ y. sum_by f (g y)) x xs)

-- three sums add up to a fourth where they do so at each element
pub sum_three : {X : Type 0} (a b c all : X → ℕ) → ((x : X) → a x + b x + c x ≡ all x) → (xs : List X)
    → sum_by a xs + sum_by b xs + sum_by c xs ≡ sum_by all xs
sum_three a b c all each [] = refl
sum_three a b c all each (x ∷ xs) =
    let here = each x in
    let rest = sum_three a b c all each xs in
    rw (sum_by-cons a x xs, sum_by-cons b x xs, sum_by-cons c x xs, sum_by-cons all x xs) (omega arith)

-- ---- bags

-- a list is one bag with itself
pub SameBag-refl : {X : Type 0} (xs : List X) → SameBag xs xs
SameBag-refl xs = record { sums = λ f. refl }

-- two lists that are one bag are so the other way round
pub SameBag-sym : {X : Type 0} {xs ys : List X} → SameBag xs ys → SameBag ys xs
SameBag-sym same = record { sums = λ f. sym (same.sums f) }

-- and the first of three is one bag with the last, where the second is with both
pub SameBag-trans : {X : Type 0} {xs ys zs : List X} → SameBag xs ys → SameBag ys zs → SameBag xs zs
SameBag-trans first second = record { sums = λ f. first.sums f ∙ second.sums f }

-- a list in another order is the same bag
pub SameBag-permutation : {X : Type 0} (xs ys : List X) → IsPermutation xs ys → SameBag xs ys
SameBag-permutation xs ys moves = record { sums = λ f. sym (sum_by-IsPermutation f xs ys moves) }

-- lists end to end are one bag with others end to end, where each is with its own
pub SameBag-append : {X : Type 0} {xs ys us vs : List X} → SameBag xs us → SameBag ys vs → SameBag (xs ++ ys) (us ++ vs)
SameBag-append {xs = xs} {ys = ys} {us = us} {vs = vs} left right = record {
  sums = λ f.
      let l = left.sums f in let r = right.sums f in
      sum_by-append f xs ys ∙ ap (λ n. n + sum_by f ys) l ∙ ap (λ n. sum_by f us + n) r ∙ sym (sum_by-append f us vs);
}

-- two lists that are one bag stay so under a filter
pub SameBag-filter : {X : Type 0} {xs ys : List X} (keep : X → Bool) → SameBag xs ys
    → SameBag (filter keep xs) (filter keep ys)
SameBag-filter {xs = xs} {ys = ys} keep same = record {
  sums = λ f.
      sum-filter f keep xs ∙ same.sums (λ x. only_if (keep x) (f x)) ∙ sym (sum-filter f keep ys);
}

-- and under a map
pub SameBag-map : {X Y : Type 0} {xs ys : List X} (g : X → Y) → SameBag xs ys → SameBag (map g xs) (map g ys)
SameBag-map {xs = xs} {ys = ys} g same = record {
  sums = λ f. sum_of_map f g xs ∙ same.sums (λ x. f (g x))
      ∙ sym (sum_of_map f g ys);
}

-- the front of a list is a part of its bag
pub IsWithinBag-prefix : {X : Type 0} {xs ys : List X} → IsPrefix xs ys → IsWithinBag xs ys
IsWithinBag-prefix {xs = xs} {ys = ys} prefix = record {
  sums = λ f.
      let whole = sum_by-append f xs prefix.rest in
      let is = ap (λ zs. sum_by f zs) prefix.joins in
      omega (arith, whole, is);
}
