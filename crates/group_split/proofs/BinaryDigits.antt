-- The digits of a number from a place downwards, and the sums of what they stand for.
use Rattle.std.proofs.Common.{◌≡◌, ℕ, zero, suc, ◌+◌, ◌-◌, ◌*◌, ◌/◌, ◌%◌, ◌^◌, ◌<◌, ◌≤◌, ◌==◌, Bool, true, false, cond}
use Rattle.std.proofs.Common.{refl, sym, ◌∙◌, ap, arith, List, [], ◌∷◌, ◌++◌, append_assoc, append-nil, map, take, drop}
use Rattle.std.proofs.Common.{eqb-true}
use Rattle.std.specs.Prelude.{filter, sum, All}
use Rattle.std.proofs.lemmas.List.Elements.{All-filter, All-from_recursion}
use Rattle.std.proofs.lemmas.List.Sums.{sum_by-cons}
use Rattle.std.proofs.lemmas.Nat.{mod-pow-add}
use Rattle.std.proofs.Math.Nat.{mod-eq_of_lt}
use Rattle.group_split.specs.Sizes.{has_digit, digits, sizes, before}

-- the places below k, greatest first
abbrev pub falling : ℕ → List ℕ
falling zero = []
falling (suc k) = k ∷ falling k

-- the places below k of digits that are 1, greatest first
unfoldable pub digits_below : ℕ → ℕ → List ℕ
digits_below n k = filter (has_digit n) (falling k)

-- all digits are those below the eighth
pub digits-below : (n : ℕ) → digits n ≡ digits_below n 7
unfolding digits digits_below
digits-below n = refl

digits_below-zero : (n : ℕ) → digits_below n 0 ≡ []
unfolding digits_below
digits_below-zero n = refl

digits_below-suc : (n k : ℕ) → digits_below n (suc k) ≡ cond (has_digit n k) (k ∷ digits_below n k) (digits_below n k)
unfolding digits_below
digits_below-suc n k = refl

-- what the digits of these places stand for together
abbrev pub sum_of : List ℕ → ℕ
sum_of places = sum (map (λ place. 2 ^ place) places)

-- a sum of one number more
pub sum-cons : (n : ℕ) (ns : List ℕ) → sum (n ∷ ns) ≡ n + sum ns
sum-cons n ns = sum_by-cons (λ m. m) n ns

sum_step : (k m : ℕ) (places : List ℕ) (digit : Bool) → m < 2 → (m == 1) ≡ digit
    → sum_of (cond digit (k ∷ places) places) ≡ m * 2 ^ k + sum_of places
sum_step k m places true low is =
    let one : m ≡ 1 = eqb-true m 1 is in
    sum-cons (2 ^ k) (map (λ place. 2 ^ place) places) ∙ ap (λ part. part + sum_of places) (rw one (omega arith))
sum_step k m places false low is = let none : m ≡ 0 = zero_from m low is in rw none (omega arith)
  where
    zero_from : (m : ℕ) → m < 2 → (m == 1) ≡ false → m ≡ 0
    zero_from zero low is = refl
    zero_from (suc zero) low is = absurd (grind arith)
    zero_from (suc (suc m)) low is = absurd (omega arith)

-- the digits below k stand for what is left on division by 2 ^ k
pub sum_digits_below : (n k : ℕ) → sum_of (digits_below n k) ≡ n % 2 ^ k
sum_digits_below n zero = rw (digits_below-zero n) (omega arith)
sum_digits_below n (suc k) =
    let next : 1 + k ≡ suc k = omega arith in
    let low : n / 2 ^ k % 2 < 2 = omega arith in
    ap sum_of (digits_below-suc n k) ∙ sum_step k (n / 2 ^ k % 2) (digits_below n k) (has_digit n k) low refl
    ∙ ap (λ rest. n / 2 ^ k % 2 * 2 ^ k + rest) (sum_digits_below n k)
    ∙ sym (rw next at (mod-pow-add n 1 k))

-- the sizes of groups are as many joiners as there are
pub sum_sizes : (n : ℕ) → n < 2 ^ 7 → sum (sizes n) ≡ n
sum_sizes n low = ap sum_of (digits-below n) ∙ sum_digits_below n 7 ∙ mod-eq_of_lt low

-- one digit more of those from above
pub more_digits : (n step : ℕ) (places more : List ℕ) → step < 7 → places ++ digits_below n (7 - step) ≡ digits n
    → more ≡ cond (has_digit n (6 - step)) ((6 - step) ∷ []) []
    → (places ++ more) ++ digits_below n (7 - (step + 1)) ≡ digits n
more_digits n step places more low so_far is =
    let here : 7 - step ≡ suc (6 - step) = omega arith in
    let next : 7 - (step + 1) ≡ 6 - step = omega arith in
    let below = digits_below n (6 - step) in
    ap (λ k. (places ++ more) ++ digits_below n k) next
    ∙ append_assoc places more below
    ∙ ap (λ ds. places ++ ds)
    (ap (λ m. m ++ below) is ∙ front (has_digit n (6 - step)) ∙ sym (digits_below-suc n (6 - step))
    ∙ ap (digits_below n) (sym here))
    ∙ so_far
  where
    front : (digit : Bool) → cond digit ((6 - step) ∷ []) [] ++ digits_below n (6 - step)
        ≡ cond digit ((6 - step) ∷ digits_below n (6 - step)) (digits_below n (6 - step))
    front true = refl
    front false = refl

-- after the last digit these are all
pub at_last : (n : ℕ) (places : List ℕ) (step : ℕ) → 7 ≤ step → places ++ digits_below n (7 - step) ≡ digits n
    → places ≡ digits n
at_last n places step over so_far =
    let none : 7 - step ≡ 0 = omega arith in
    sym (append-nil places) ∙ ap (λ ds. places ++ ds) (sym (digits_below-zero n))
    ∙ ap (λ k. places ++ digits_below n k) (sym none) ∙ so_far

-- ---- from one group to the next

-- a digit that is 1 is the next group's
pub here_is_one : (n step g : ℕ) → step < 7 → drop g (digits n) ≡ digits_below n (7 - step)
    → has_digit n (6 - step) ≡ true → drop g (digits n) ≡ (6 - step) ∷ digits_below n (7 - (step + 1))
here_is_one n step g low rest one =
    let here : 7 - step ≡ suc (6 - step) = omega arith in
    let next : 6 - step ≡ 7 - (step + 1) = omega arith in
    rest ∙ ap (digits_below n) here ∙ digits_below-suc n (6 - step)
    ∙ ap (λ t. cond t ((6 - step) ∷ digits_below n (6 - step)) (digits_below n (6 - step))) one
    ∙ ap (λ k. (6 - step) ∷ digits_below n k) next

-- one that is 0 is of none
pub here_is_none : (n step g : ℕ) → step < 7 → drop g (digits n) ≡ digits_below n (7 - step)
    → has_digit n (6 - step) ≡ false → drop g (digits n) ≡ digits_below n (7 - (step + 1))
here_is_none n step g low rest none =
    let here : 7 - step ≡ suc (6 - step) = omega arith in
    let next : 6 - step ≡ 7 - (step + 1) = omega arith in
    rest ∙ ap (digits_below n) here ∙ digits_below-suc n (6 - step)
    ∙ ap (λ t. cond t ((6 - step) ∷ digits_below n (6 - step)) (digits_below n (6 - step))) none
    ∙ ap (digits_below n) next

-- behind a group's digit are those of the groups after it
pub next_place : (places rest : List ℕ) (g k : ℕ) → drop g places ≡ k ∷ rest → drop (g + 1) places ≡ rest
next_place [] rest zero k is = absurd (cc)
next_place [] rest (suc g) k is = absurd (cc)
next_place (p ∷ places) rest zero k is = cc
next_place (p ∷ places) rest (suc g) k is =
    let one : suc g + 1 ≡ suc (g + 1) = omega arith in
    ap (λ m. drop m (p ∷ places)) one ∙ next_place places rest g k is

-- one group more has as many joiners more as its digit stands for
pub next_sum : (places rest : List ℕ) (g k : ℕ) → drop g places ≡ k ∷ rest
    → sum (take (g + 1) (map (λ place. 2 ^ place) places)) ≡ sum (take g (map (λ place. 2 ^ place) places)) + 2 ^ k
next_sum [] rest zero k is = absurd (cc)
next_sum [] rest (suc g) k is = absurd (cc)
next_sum (p ∷ places) rest zero k is = let same : p ≡ k = cc in sum-cons (2 ^ p) [] ∙ rw same (omega arith)
next_sum (p ∷ places) rest (suc g) k is =
    let one : suc g + 1 ≡ suc (g + 1) = omega arith in
    let front : ℕ → List ℕ = λ m. take m (map (λ place. 2 ^ place) places) in
    ap (λ m. sum (take m (map (λ place. 2 ^ place) (p ∷ places)))) one
    ∙ sum-cons (2 ^ p) (front (g + 1)) ∙ ap (λ m. 2 ^ p + m) (next_sum places rest g k is)
    ∙ regrouped (2 ^ p) (sum (front g)) (2 ^ k) ∙ ap (λ m. m + 2 ^ k) (sym (sum-cons (2 ^ p) (front g)))
  where
    regrouped : (a b d : ℕ) → a + (b + d) ≡ (a + b) + d
    regrouped a b d = omega arith

-- where no digit is left all sizes were taken
pub all_taken : (places : List ℕ) (g : ℕ) → drop g places ≡ []
    → take g (map (λ place. 2 ^ place) places) ≡ map (λ place. 2 ^ place) places
all_taken [] zero is = refl
all_taken [] (suc g) is = refl
all_taken (p ∷ places) zero is = absurd (cc)
all_taken (p ∷ places) (suc g) is = ap (λ sizes. 2 ^ p ∷ sizes) (all_taken places g is)

-- no number is left once all groups are passed
pub none_left : (n step g : ℕ) → n < 2 ^ 7 → 7 ≤ step → drop g (digits n) ≡ digits_below n (7 - step) → before n g ≡ n
none_left n step g low over rest =
    let none : 7 - step ≡ 0 = omega arith in
    let empty = rest ∙ ap (digits_below n) none ∙ digits_below-zero n in
    ap sum (all_taken (digits n) g empty) ∙ sum_sizes n low

-- a place is one of the seven
pub digits_small : (n : ℕ) → All (λ place. place < 7) (digits n)
unfolding digits
digits_small n =
    All-filter (has_digit n) (λ place. place < 7) (6 ∷ 5 ∷ 4 ∷ 3 ∷ 2 ∷ 1 ∷ 0 ∷ [])
    (All-from_recursion (λ place. place < 7) (6 ∷ 5 ∷ 4 ∷ 3 ∷ 2 ∷ 1 ∷ 0 ∷ [])
    (omega arith, (omega arith, (omega arith, (omega arith, (omega arith, (omega arith, (omega arith, tt))))))))

-- an item that is pushed if the test passes
pub same_test : {test wanted : Bool} {item place : ℕ} → test ≡ wanted → item ≡ place
    → cond test (item ∷ []) [] ≡ cond wanted (place ∷ []) []
same_test {test = test} {place = place} tests items =
    ap (λ i. cond test (i ∷ []) []) items ∙ ap (λ t. cond t (place ∷ []) []) tests
