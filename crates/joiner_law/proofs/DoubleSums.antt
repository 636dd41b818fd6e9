-- Sums over the pairs of two lists.
use Rattle.std.proofs.Common.{◌≡◌, ℕ, ◌+◌, refl, sym, ◌∙◌, ap, arith, Bool, true, false, ◌&&◌, List, [], ◌∷◌}
use Rattle.std.specs.Prelude.{filter, map, sum_by}
use Rattle.std.specs.List.{AllByRecursion}
use Rattle.std.proofs.lemmas.List.Sums.{sum_by-cons}
use Rattle.row_cells.specs.declared.table.Side.{Side}
use Rattle.row_cells.specs.declared.table.Side.TheVariants.{R, S}
use Rattle.row_cells.specs.Lists.{SameBag}
use Rattle.row_cells.proofs.Bags.{only_if, sum-same, sum-filter, sum_of_map, sum-flat_map}
use Rattle.epoch_tags.specs.declared.tuple.Tuple.{Tuple}
use Rattle.epoch_tags.specs.declared.tuple.Pair.{Pair}
use Rattle.migration_plan.specs.Steps.{is_of, same_side}
use Rattle.joiner_law.specs.Law.{pair_of, pairs_by}
use Rattle.row_cells.proofs.Totals.{sum_same_on}

-- what the pair of these two tuples adds, where it is an R tuple and an S tuple that pass the test
abbrev pub weight : (Pair → ℕ) → (Tuple → Tuple → Bool) → Tuple → Tuple → ℕ
weight f test r q = only_if (is_of R r) (only_if (is_of S q && test r q) (f (pair_of r q)))

-- the sum over the pairs of the two lists
abbrev pub double : (Tuple → Tuple → ℕ) → List Tuple → List Tuple → ℕ
double w xs ys = sum_by (λ r. sum_by (w r) ys) xs

sum_zero : {X : Type 0} (xs : List X) → sum_by (λ (x : X). 0) xs ≡ 0
sum_zero [] = refl
sum_zero (x ∷ xs) =
    let first = sum_by-cons (λ y. 0) x xs in
    let rest = sum_zero xs in
    omega arith

only_if-sum : {X : Type 0} (b : Bool) (g : X → ℕ) (ys : List X)
    → only_if b (sum_by g ys) ≡ sum_by (λ y. only_if b (g y)) ys
only_if-sum true g ys = refl
only_if-sum false g ys = sym (sum_zero ys)

-- a sum over the pairs of two lists is the double sum of what each two of their tuples add
pub sum-pairs : (f : Pair → ℕ) (test : Tuple → Tuple → Bool) (xs ys : List Tuple)
    → sum_by f (pairs_by test xs ys) ≡ double (weight f test) xs ys
sum-pairs f test xs ys =
    sum-flat_map f (λ r. map (pair_of r) (filter (λ q. is_of S q && test r q) ys)) (filter (is_of R) xs)
    ∙ sum-filter (λ r. sum_by f (map (pair_of r) (filter (λ q. is_of S q && test r q) ys))) (is_of R) xs
    ∙ sum-same _ _ each xs
  where
    each : (r : Tuple) → only_if (is_of R r) (sum_by f (map (pair_of r) (filter (λ q. is_of S q && test r q) ys)))
        ≡ sum_by (weight f test r) ys
    each r =
        ap (λ n. only_if (is_of R r) n) (sum_of_map f (pair_of r) (filter (λ q. is_of S q && test r q) ys)
        ∙ sum-filter (λ q. f (pair_of r q)) (λ q. is_of S q && test r q) ys)
        ∙ only_if-sum (is_of R r) (λ q. only_if (is_of S q && test r q) (f (pair_of r q))) ys

-- a double sum doesn't depend on the order within its two lists
pub double-bag : (w : Tuple → Tuple → ℕ) (xs xs' ys ys' : List Tuple) → SameBag xs xs' → SameBag ys ys'
    → double w xs ys ≡ double w xs' ys'
double-bag w xs xs' ys ys' left right = left.sums (λ r. sum_by (w r) ys)
    ∙ sum-same (λ r. sum_by (w r) ys) (λ r. sum_by (w r) ys') (λ r. right.sums (w r)) xs'

-- where each element adds two numbers, the sum is that of the first and that of the second together
pub sum_two : {X : Type 0} (a b : X → ℕ) (xs : List X) → sum_by (λ x. a x + b x) xs ≡ sum_by a xs + sum_by b xs
sum_two a b [] = refl
sum_two a b (x ∷ xs) =
    let rest = sum_two a b xs in
    rw (sum_by-cons a x xs, sum_by-cons b x xs, sum_by-cons (λ y. a y + b y) x xs) (omega arith)

-- what one tuple more adds: its pairs with the others, from both sides
pub double-add : (w : Tuple → Tuple → ℕ) (x : Tuple) (xs : List Tuple) → w x x ≡ 0
    → double w (x ∷ xs) (x ∷ xs) ≡ double w xs xs + (sum_by (w x) xs + sum_by (λ r. w r x) xs)
double-add w x xs none =
    let outer : double w (x ∷ xs) (x ∷ xs) ≡ sum_by (w x) (x ∷ xs) + sum_by (λ r. sum_by (w r) (x ∷ xs)) xs =
    sum_by-cons (λ r. sum_by (w r) (x ∷ xs)) x xs in
    let own : sum_by (w x) (x ∷ xs) ≡ w x x + sum_by (w x) xs = sum_by-cons (w x) x xs in
    let inner : sum_by (λ r. sum_by (w r) (x ∷ xs)) xs ≡ sum_by (λ r. w r x + sum_by (w r) xs) xs =
    sum-same (λ r. sum_by (w r) (x ∷ xs)) (λ r. w r x + sum_by (w r) xs) (λ r. sum_by-cons (w r) x xs) xs in
    let two : sum_by (λ r. w r x + sum_by (w r) xs) xs ≡ sum_by (λ r. w r x) xs + sum_by (λ r. sum_by (w r) xs) xs =
    sum_two (λ r. w r x) (λ r. sum_by (w r) xs) xs in
    omega arith

-- the double sum of a list with itself is 0 where no two of its tuples add anything
pub double-none : (P : Tuple → Type 0) (w : Tuple → Tuple → ℕ) (xs : List Tuple) → AllByRecursion P xs
    → ((r q : Tuple) → P r → P q → w r q ≡ 0) → double w xs xs ≡ 0
double-none P w xs all none =
    sum_same_on P (λ r. sum_by (w r) xs) (λ r. 0) (λ r p. sum_same_on P (w r) (λ q. 0) (λ q. none r q p) xs all
    ∙ sum_zero xs) xs all
    ∙ sum_zero xs

-- no tuple is of both sides
pub not_both : (f : Pair → ℕ) (test : Tuple → Tuple → Bool) (x : Tuple) → weight f test x x ≡ 0
not_both f test x = by_side x.side (test x x) (f (pair_of x x))
  where
    by_side : (side : Side) (t : Bool) (n : ℕ) → only_if (same_side R side) (only_if (same_side S side && t) n) ≡ 0
    by_side R t n = refl
    by_side S t n = refl
