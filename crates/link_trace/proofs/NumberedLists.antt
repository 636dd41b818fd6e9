-- A list to which what comes of the numbers from 0 on is added, one number after another.
use Rattle.std.proofs.Common.{◌≡◌, ℕ, zero, suc, ◌+◌, ap, ◌∙◌, List, [], ◌∷◌, ◌++◌, map, append_assoc, append-nil, sym}
use Rattle.std.proofs.Common.{arith}
use Rattle.std.specs.Prelude.{flat_map}
use Rattle.std.specs.List.{range_with_len}
use Rattle.std.proofs.lemmas.List.FromFn.{map-range_with_len_more}

-- where f of the numbers below n was added to a list, and then f of n, f of the numbers below n + 1 was added
pub one_more : {X : Type 0} (f : ℕ → X) (before now after : List X) (n : ℕ) → now ≡ before ++ map f (range_with_len 0 n)
    → after ≡ now ++ f n ∷ []
    → after ≡ before ++ map f (range_with_len 0 (n + 1))
one_more f before now after n was is =
    is ∙ ap (λ xs. xs ++ f n ∷ []) was ∙ append_assoc before (map f (range_with_len 0 n)) (f n ∷ [])
    ∙ ap (λ xs. before ++ xs) (sym (map-range_with_len_more f 0 n n (omega arith)))

flat_more : {X : Type 0} (f : ℕ → List X) (a n j : ℕ) → a + n ≡ j
    → flat_map f (range_with_len a (suc n)) ≡ flat_map f (range_with_len a n) ++ f j
flat_more f a zero j e = let same : a ≡ j = omega arith in append-nil (f a) ∙ ap f same
flat_more f a (suc n) j e = ap (λ xs. f a ++ xs) (flat_more f (a + 1) n j (omega arith))
    ∙ sym (append_assoc (f a) (flat_map f (range_with_len (a + 1) n)) (f j))

-- so it is where f of a number is a list, all of which is added
pub more : {X : Type 0} (f : ℕ → List X) (before now after : List X) (n : ℕ)
    → now ≡ before ++ flat_map f (range_with_len 0 n) → after ≡ now ++ f n
    → after ≡ before ++ flat_map f (range_with_len 0 (n + 1))
more f before now after n was is =
    let next : n + 1 ≡ suc n = omega arith in
    is ∙ ap (λ xs. xs ++ f n) was ∙ append_assoc before (flat_map f (range_with_len 0 n)) (f n)
    ∙ ap (λ xs. before ++ xs) (sym (flat_more f 0 n n (omega arith)))
    ∙ ap (λ m. before ++ flat_map f (range_with_len 0 m)) (sym next)
