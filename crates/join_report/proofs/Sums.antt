-- Two lists joined element by element.
use Rattle.std.proofs.Common.{◌≡◌, ◌≤◌, ◌+◌, ◌∙◌, ℕ, zero, suc, min, refl, ap, arith, List, [], ◌∷◌, ◌++◌}
use Rattle.std.proofs.Common.{length, take, Some}
use Rattle.std.specs.Prelude.{All, slice_get}
use Rattle.std.specs.List.{AllByRecursion}
use Rattle.std.specs.Simd.Lanes.{zip2}
use Rattle.std.proofs.lemmas.List.Elements.{All-from_recursion, recursion_from_All}
use Rattle.join_report.specs.Waves.{sums_of}

one_more : {X Y Z : Type 0} (f : X → Y → Z) (xs : List X) (ys : List Y) (n : ℕ) (x : X) (y : Y)
    → slice_get xs n ≡ Some x → slice_get ys n ≡ Some y
    → take (suc n) (zip2 f xs ys) ≡ take n (zip2 f xs ys) ++ f x y ∷ []
one_more f [] ys n x y at at' = absurd (cc)
one_more f (a ∷ xs) [] n x y at at' = absurd (cc)
one_more f (a ∷ xs) (b ∷ ys) zero x y at at' =
    let same : a ≡ x = cc in
    let same' : b ≡ y = cc in
    rw same (rw same' refl)
one_more f (a ∷ xs) (b ∷ ys) (suc n) x y at at' = ap (λ zs. f a b ∷ zs) (one_more f xs ys n x y at at')

-- one element more
pub zip2_more : {X Y Z : Type 0} (f : X → Y → Z) (xs : List X) (ys : List Y) (n : ℕ) (x : X) (y : Y)
    → slice_get xs n ≡ Some x → slice_get ys n ≡ Some y
    → take (n + 1) (zip2 f xs ys) ≡ take n (zip2 f xs ys) ++ f x y ∷ []
zip2_more f xs ys n x y at at' =
    let next : n + 1 ≡ suc n = omega arith in
    ap (λ m. take m (zip2 f xs ys)) next ∙ one_more f xs ys n x y at at'

-- as many elements as there are
pub zip2_whole : {X Y Z : Type 0} (f : X → Y → Z) (xs : List X) (ys : List Y) (n : ℕ)
    → min (length xs) (length ys) ≤ n → take n (zip2 f xs ys) ≡ zip2 f xs ys
zip2_whole f [] ys zero low = refl
zip2_whole f [] ys (suc n) low = refl
zip2_whole f (x ∷ xs) [] zero low = refl
zip2_whole f (x ∷ xs) [] (suc n) low = refl
zip2_whole f (x ∷ xs) (y ∷ ys) zero low = absurd (omega arith)
zip2_whole f (x ∷ xs) (y ∷ ys) (suc n) low = let low' : min (length xs) (length ys) ≤ n = omega arith in
    ap (λ zs. f x y ∷ zs) (zip2_whole f xs ys n low')

each_within : (xs ys : List ℕ) (m n : ℕ) → AllByRecursion (λ x. x ≤ m) xs → AllByRecursion (λ y. y ≤ n) ys
    → AllByRecursion (λ sum. sum ≤ m + n) (sums_of xs ys)
each_within [] ys m n of_x of_y = of_x
each_within (x ∷ xs) [] m n of_x of_y = of_y
each_within (x ∷ xs) (y ∷ ys) m n of_x of_y =
    (omega (arith, of_x.0, of_y.0), each_within xs ys m n of_x.1 of_y.1)

-- no sum is past the sum of two bounds
pub sums_within : (xs ys : List ℕ) (m n : ℕ) → All (λ x. x ≤ m) xs → All (λ y. y ≤ n) ys
    → All (λ sum. sum ≤ m + n) (sums_of xs ys)
sums_within xs ys m n of_x of_y = All-from_recursion (λ sum. sum ≤ m + n) (sums_of xs ys)
    (each_within xs ys m n (recursion_from_All (λ x. x ≤ m) xs of_x) (recursion_from_All (λ y. y ≤ n) ys of_y))
