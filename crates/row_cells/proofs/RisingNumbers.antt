-- Numbers that count up.
use Rattle.std.proofs.Common.{◌≡◌, ℕ, zero, suc, ◌+◌, ◌<◌, ◌≤◌, inl, inr, refl, sym, ◌∙◌, ap, arith, Bool, true, false}
use Rattle.std.proofs.Common.{List, [], ◌∷◌, ◌++◌, length}
use Rattle.std.specs.List.{list_all}
use Rattle.std.proofs.lemmas.Bool.{cases_eq, and_left, and_right, and_parts, and_from}
use Rattle.row_cells.specs.Lists.{counting_from}

-- there are as many of them as steps
pub length-counting_from : (a n : ℕ) → length (counting_from a n) ≡ n
length-counting_from a zero = refl
length-counting_from a (suc n) = let rest = length-counting_from (a + 1) n in omega arith

-- each stands at its place
pub at_place : (a n : ℕ) (xs : List ℕ) (x : ℕ) (ys : List ℕ) → xs ++ x ∷ ys ≡ counting_from a n → x ≡ a + length xs
at_place a zero [] x ys is = absurd (cc)
at_place a (suc n) [] x ys is = let here : x ≡ a = cc in omega arith
at_place a zero (y ∷ xs) x ys is = absurd (cc)
at_place a (suc n) (y ∷ xs) x ys is =
    let rest : xs ++ x ∷ ys ≡ counting_from (a + 1) n = cc in
    let more = at_place (a + 1) n xs x ys rest in
    omega arith

-- a front counts up too
pub front_counts : (a n : ℕ) (xs ys : List ℕ) → xs ++ ys ≡ counting_from a n → xs ≡ counting_from a (length xs)
front_counts a n [] ys is = refl
front_counts a zero (x ∷ xs) ys is = absurd (cc)
front_counts a (suc n) (x ∷ xs) ys is =
    let here : x ≡ a = cc in
    let rest : xs ++ ys ≡ counting_from (a + 1) n = cc in
    let more = front_counts (a + 1) n xs ys rest in
    let e : x ∷ xs ≡ a ∷ counting_from (a + 1) (length xs) = cc in
    e

-- one more at the end
pub counting-more : (a n : ℕ) → counting_from a (n + 1) ≡ counting_from a n ++ (a + n) ∷ []
counting-more a zero = let e : a ≡ a + 0 = omega arith in ap (λ x. x ∷ []) e
counting-more a (suc n) =
    let one : suc n + 1 ≡ suc (n + 1) = omega arith in
    let last : a + 1 + n ≡ a + suc n = omega arith in
    ap (counting_from a) one ∙ ap (λ xs. a ∷ xs) (counting-more (a + 1) n)
    ∙ ap (λ x. a ∷ (counting_from (a + 1) n ++ x ∷ [])) last

-- where one fails not all pass
pub one_fails : (test : ℕ → Bool) (q a n : ℕ) → a ≤ q → q < a + n → test q ≡ false
    → list_all test (counting_from a n) ≡ false
one_fails test q a zero low high fails = absurd (omega arith)
one_fails test q a (suc n) low high fails = elim (cases_eq a q) [
  | inl is ↦ and_left (test a) (list_all test (counting_from (a + 1) n)) (ap test is ∙ fails)
  | inr differ ↦ and_right (test a) (list_all test (counting_from (a + 1) n))
      (one_fails test q (a + 1) n (omega arith) (omega arith) fails)
]

-- where all pass a test, so does each of them
pub one_passes : (test : ℕ → Bool) (q a n : ℕ) → a ≤ q → q < a + n → list_all test (counting_from a n) ≡ true
    → test q ≡ true
one_passes test q a zero low high all = absurd (omega arith)
one_passes test q a (suc n) low high all =
    let parts = and_parts (test a) (list_all test (counting_from (a + 1) n)) all in
    elim (cases_eq a q) [
      | inl is ↦ ap test (sym is) ∙ parts.0
      | inr differ ↦ one_passes test q (a + 1) n (omega arith) (omega arith) parts.1
    ]

-- and all pass, where every number below their end does
pub every_passes : (test : ℕ → Bool) (a n : ℕ) → ((q : ℕ) → q < a + n → test q ≡ true)
    → list_all test (counting_from a n) ≡ true
every_passes test a zero each = refl
every_passes test a (suc n) each =
    and_from (test a) (list_all test (counting_from (a + 1) n)) (each a (omega arith))
    (every_passes test (a + 1) n (λ q low. each q (omega arith)))
