-- Sums over all indices below a number.
use Rattle.std.proofs.Common.{◌≡◌, ℕ, zero, suc, ◌+◌, ◌<◌, ◌≤◌, inl, inr, refl, sym, ◌∙◌, ap, arith, Bool, true, false}
use Rattle.std.proofs.Common.{List, [], ◌∷◌, cond, length, ◌++◌, ◌*◌, reverse, length-append, subst}
use Rattle.std.specs.Prelude.{filter, sum_by, ◌==◌, nat_lt, slice_index_or}
use Rattle.std.specs.List.{AllByRecursion, enumerate_from, range_with_len}
use Rattle.std.proofs.lemmas.List.Sums.{sum_by-cons, sum_by-append}
use Rattle.std.proofs.lemmas.Bool.{cases_eq, eq-eqb, ne_eqb, lt-ltb, le-ltb, cases_lt}
use Rattle.row_cells.specs.Lists.{gather, greatest, total, total, IsPrefix}
use mathlib.Core.List.{reverse-cons}
use Rattle.std.proofs.lemmas.List.Elements.{filter-append}
use Rattle.row_cells.proofs.Bags.{only_if}
use Rattle.row_cells.proofs.Everywhere.{weaken}

-- equal numbers at the indices below n have equal totals
pub total_same : (n : ℕ) (g h : ℕ → ℕ) → ((i : ℕ) → i < n → g i ≡ h i) → total n g ≡ total n h
total_same zero g h same = refl
total_same (suc n) g h same = let rest = total_same n g h (λ i low. same i (omega arith)) in
    let here = same n (omega arith) in omega arith

-- numbers that are nowhere greater have no greater total
pub total_le : (n : ℕ) (g h : ℕ → ℕ) → ((i : ℕ) → i < n → g i ≤ h i) → total n g ≤ total n h
total_le zero g h less = omega arith
total_le (suc n) g h less = let rest = total_le n g h (λ i low. less i (omega arith)) in
    let here = less n (omega arith) in omega arith

-- what two numbers at each index come to is the two totals together
pub total-add : (n : ℕ) (g h : ℕ → ℕ) → total n (λ i. g i + h i) ≡ total n g + total n h
total-add zero g h = refl
total-add (suc n) g h = let rest = total-add n g h in omega arith

-- nothing at each index is nothing in all
pub total-zero : (n : ℕ) → total n (λ i. 0) ≡ 0
total-zero zero = refl
total-zero (suc n) = let rest = total-zero n in omega arith

-- the same number at each of n indices is n times that in all
pub total-const : (n c : ℕ) → total n (λ i. c) ≡ n * c
total-const zero c = omega arith
total-const (suc n) c = let rest = total-const n c in omega arith

-- at one index more, elsewhere the same
pub total_one : (n i d : ℕ) (g : ℕ → ℕ) → i < n → total n (λ q. g q + cond (i == q) d 0) ≡ total n g + d
total_one zero i d g low = absurd (omega arith)
total_one (suc n) i d g low = elim (cases_eq i n) [
  | inl is ↦
      let rest = total_same n (λ q. g q + cond (i == q) d 0) g (λ q l. rw (ne_eqb i q (omega arith)) (omega arith)) in
      rw (eq-eqb i n is) (omega arith)
  | inr differ ↦
      let rest = total_one n i d g (omega arith) in
      rw (ne_eqb i n differ) (omega arith)
]

-- one index exchanged
pub total_but : (n p : ℕ) (g h : ℕ → ℕ) → p < n → ((i : ℕ) → i < n → g i ≤ h i) → total n g + h p ≤ g p + total n h
total_but zero p g h low less = absurd (omega arith)
total_but (suc n) p g h low less = elim (cases_eq p n) [
  | inl is ↦ let rest = total_le n g h (λ i l. less i (omega arith)) in rw is (omega arith)
  | inr differ ↦ let rest = total_but n p g h (omega arith) (λ i l. less i (omega arith)) in
      let here = less n (omega arith) in omega arith
]

-- where none is more than c and all together are c each, each is c
pub each_full : (n c : ℕ) (g : ℕ → ℕ) → ((i : ℕ) → i < n → g i ≤ c) → n * c ≤ total n g → (p : ℕ) → p < n → g p ≡ c
each_full n c g few all p low =
    let but = total_but n p g (λ i. c) low few in
    let same = total-const n c in
    let here = few p low in
    omega arith

-- where all together are fewer than c each, one is less
pub some_less : (n c : ℕ) (g : ℕ → ℕ) → total n g < n * c → (i : ℕ) × (i < n) × (g i < c)
some_less zero c g few = absurd (omega arith)
some_less (suc n) c g few = elim (cases_lt (g n) c) [
  | inl less ↦ (n, omega arith, less)
  | inr more ↦ let rest = some_less n c g (omega arith) in (rest.0, omega (arith, rest.1), rest.2)
]

-- lists end to end
pub length-gather : {X : Type 0} (n : ℕ) (xs : ℕ → List X) → length (gather n xs) ≡ total n (λ i. length (xs i))
length-gather zero xs = refl
length-gather (suc n) xs = let rest = length-gather n xs in simp length-append (omega arith)

-- ---- sums over lists

-- a sum over lists end to end is the total of the sums over each
pub sum-gather : {X : Type 0} (f : X → ℕ) (n : ℕ) (g : ℕ → List X)
    → sum_by f (gather n g) ≡ total n (λ i. sum_by f (g i))
sum-gather f zero g = refl
sum-gather f (suc n) g = sum_by-append f (gather n g) (g n) ∙ ap (λ m. m + sum_by f (g n)) (sum-gather f n g)

-- a sum that counts nothing for any element is 0
pub sum_zero : {X : Type 0} (xs : List X) → sum_by (λ x. 0) xs ≡ 0
sum_zero [] = refl
sum_zero (x ∷ xs) = let rest = sum_zero xs in rw (sum_by-cons (λ y. 0) x xs) (omega arith)

-- two sums over one list are one sum that counts for each element what both do
pub sum_plus : {X : Type 0} (f g : X → ℕ) (xs : List X) → sum_by f xs + sum_by g xs ≡ sum_by (λ x. f x + g x) xs
sum_plus f g [] = refl
sum_plus f g (x ∷ xs) =
    let rest = sum_plus f g xs in
    rw (sum_by-cons f x xs, sum_by-cons g x xs, sum_by-cons (λ y. f y + g y) x xs) (omega arith)

-- the two sums change places
pub exchange : {X : Type 0} (n : ℕ) (g : ℕ → X → ℕ) (xs : List X)
    → total n (λ i. sum_by (g i) xs) ≡ sum_by (λ x. total n (λ i. g i x)) xs
exchange zero g xs = sym (sum_zero xs)
exchange (suc n) g xs = ap (λ m. m + sum_by (g n) xs) (exchange n g xs) ∙ sum_plus (λ x. total n (λ i. g i x)) (g n) xs

-- a test outside a sum goes inside
pub test_inside : {X : Type 0} (b : Bool) (f : X → ℕ) (xs : List X)
    → only_if b (sum_by f xs) ≡ sum_by (λ x. only_if b (f x)) xs
test_inside true f xs = refl
test_inside false f xs = sym (sum_zero xs)

-- where one index alone counts
pub one_index : (n m : ℕ) (g : ℕ → ℕ) → m < n → total n (λ i. only_if (m == i) (g i)) ≡ g m
one_index zero m g below = absurd (omega arith)
one_index (suc n) m g below = elim (cases_eq m n) [
  | inl is ↦
      let none : total n (λ i. only_if (m == i) (g i)) ≡ total n (λ i. 0) =
      total_same n (λ i. only_if (m == i) (g i)) (λ i. 0)
      (λ i low. ap (λ t. only_if t (g i)) (ne_eqb m i (omega arith))) in
      let zero_all = total-zero n in
      let last : only_if (m == n) (g n) ≡ g m = ap (λ t. only_if t (g n)) (eq-eqb m n is) ∙ ap g (sym is) in
      omega arith
  | inr differ ↦
      let rest = one_index n m g (omega arith) in
      let last : only_if (m == n) (g n) ≡ 0 = ap (λ t. only_if t (g n)) (ne_eqb m n differ) in
      omega arith
]

-- two sums are equal that count the same for whatever has a property that each element has
pub sum_same_on : {X : Type 0} (P : X → Type 0) (f g : X → ℕ) → ((x : X) → P x → f x ≡ g x) → (xs : List X)
    → AllByRecursion P xs → sum_by f xs ≡ sum_by g xs
sum_same_on P f g same [] holds = refl
sum_same_on P f g same (x ∷ xs) (here, rest) =
    sum_by-cons f x xs ∙ ap (λ n. n + sum_by f xs) (same x here) ∙ ap (λ n. g x + n) (sum_same_on P f g same xs rest)
    ∙ sym (sum_by-cons g x xs)

-- a sum that counts no more for any element is no greater
pub sum_by-le : {X : Type 0} (g h : X → ℕ) → ((x : X) → g x ≤ h x) → (xs : List X) → sum_by g xs ≤ sum_by h xs
sum_by-le g h below [] = omega arith
sum_by-le g h below (x ∷ xs) =
    let rest = sum_by-le g h below xs in
    let here = below x in
    rw (sum_by-cons g x xs, sum_by-cons h x xs) (omega arith)

-- the total is 0 where every number is
pub zeros : (n : ℕ) (g : ℕ → ℕ) → ((i : ℕ) → g i ≡ 0) → total n g ≡ 0
zeros n g each = total_same n g (λ i. 0) (λ i low. each i) ∙ total-zero n

-- a total begins with the number at index 0, and goes on with the others
pub total_front : (n : ℕ) (g : ℕ → ℕ) → total (suc n) g ≡ g 0 + total n (λ i. g (suc i))
total_front zero g = omega arith
total_front (suc n) g = let rest = total_front n g in ap (λ m. m + g (suc n)) rest ∙ omega arith

-- a sum over n numbers that count up from a is the total of what it counts for each
pub range_sum : (h : ℕ → ℕ) (a n : ℕ) → sum_by h (range_with_len a n) ≡ total n (λ i. h (a + i))
range_sum h a zero = refl
range_sum h a (suc n) =
    let first : a + 0 ≡ a = omega arith in
    sum_by-cons h a (range_with_len (a + 1) n)
    ∙ ap (λ m. h a + m) (range_sum h (a + 1) n ∙ total_same n (λ i. h ((a + 1) + i)) (λ i. h (a + suc i))
    (λ i low. let same : (a + 1) + i ≡ a + suc i = omega arith in ap h same))
    ∙ ap (λ m. h m + total n (λ i. h (a + suc i))) (sym first)
    ∙ sym (total_front n (λ i. h (a + i)))

-- and one over the elements of a list, each with its number, is a total over their places
pub enumerate_sum : {X : Type 0} (h : ℕ × X → ℕ) (d : X) (a : ℕ) (xs : List X)
    → sum_by h (enumerate_from a xs) ≡ total (length xs) (λ i. h (a + i, slice_index_or xs i d))
enumerate_sum h d a [] = refl
enumerate_sum h d a (x ∷ xs) =
    let first : a + 0 ≡ a = omega arith in
    sum_by-cons h (a, x) (enumerate_from (a + 1) xs)
    ∙ ap (λ m. h (a, x) + m)
    (enumerate_sum h d (a + 1) xs
    ∙ total_same (length xs) (λ i. h ((a + 1) + i, slice_index_or xs i d)) (λ i. h (a + suc i, slice_index_or xs i d))
    (λ i low. let same : (a + 1) + i ≡ a + suc i = omega arith in ap (λ n. h (n, slice_index_or xs i d)) same))
    ∙ ap (λ m. h (m, x) + total (length xs) (λ i. h (a + suc i, slice_index_or xs i d))) (sym first)
    ∙ sym (total_front (length xs) (λ i. h (a + i, slice_index_or (x ∷ xs) i d)))

-- only the indices below m count
pub below_sum : (m n : ℕ) (h : ℕ → ℕ) → m ≤ n → total n (λ i. only_if (nat_lt i m) (h i)) ≡ total m h
below_sum m zero h low = let none : m ≡ 0 = omega arith in rw none refl
below_sum m (suc n) h low = elim (cases_eq m (suc n)) [
  | inl is ↦
      rw is (total_same (suc n) (λ i. only_if (nat_lt i (suc n)) (h i)) h
      (λ i small. ap (λ t. only_if t (h i)) (lt-ltb i (suc n) small)))
  | inr differ ↦
      let rest = below_sum m n h (omega arith) in
      let last : only_if (nat_lt n m) (h n) ≡ 0 = ap (λ t. only_if t (h n)) (le-ltb n m (omega arith)) in
      omega arith
]

-- a total over n + m indices is one over the first n and one over the m behind them
pub total_add : (n m : ℕ) (h : ℕ → ℕ) → total (n + m) h ≡ total n h + total m (λ i. h (n + i))
total_add n zero h = let is : n + 0 ≡ n = omega arith in ap (λ c. total c h) is ∙ omega arith
total_add n (suc m) h =
    let is : n + suc m ≡ suc (n + m) = omega arith in
    let rest = total_add n m h in
    ap (λ c. total c h) is ∙ ap (λ c. c + h (n + m)) rest ∙ omega arith

-- a total over m times n indices goes row by row, through m rows of n
pub total_grid : (m n : ℕ) (h : ℕ → ℕ) → total (m * n) h ≡ total m (λ a. total n (λ c. h (a * n + c)))
total_grid zero n h = let is : 0 * n ≡ 0 = omega arith in ap (λ c. total c h) is
total_grid (suc m) n h =
    let is : suc m * n ≡ m * n + n = omega arith in
    ap (λ c. total c h) is ∙ total_add (m * n) n h ∙ ap (λ c. c + total n (λ i. h (m * n + i))) (total_grid m n h)

-- a factor that each number has is one of the total
pub pulled : (n : ℕ) (g : ℕ → ℕ) (c : ℕ) → total n (λ i. g i * c) ≡ total n g * c
pulled zero g c = omega arith
pulled (suc n) g c = let rest = pulled n g c in ap (λ m. m + g n * c) rest ∙ omega arith

-- none of the numbers is greater than the total
pub total_part : (n i : ℕ) (g : ℕ → ℕ) → i < n → g i ≤ total n g
total_part zero i g low = absurd (omega arith)
total_part (suc n) i g low = elim (cases_eq i n) [
  | inl is ↦ rw is (omega arith)
  | inr differ ↦ let rest = total_part n i g (omega arith) in omega arith
]

-- a sum counts for no element more than in all
pub each_below : {X : Type 0} (g : X → ℕ) (xs : List X) → AllByRecursion (λ x. g x ≤ sum_by g xs) xs
each_below g [] = tt
each_below g (x ∷ xs) =
    let is = sum_by-cons g x xs in (
      omega arith,
      weaken (λ y. g y ≤ sum_by g xs) (λ y. g y ≤ sum_by g (x ∷ xs)) (λ y low. omega arith) xs (each_below g xs),
    )

-- a sum doesn't depend on whether a list is reversed
pub sum-reverse : {X : Type 0} (f : X → ℕ) (xs : List X) → sum_by f (reverse xs) ≡ sum_by f xs
sum-reverse f [] = refl
sum-reverse f (x ∷ xs) =
    let rest = sum-reverse f xs in
    let parts = sum_by-append f (reverse xs) (x ∷ []) in
    let one = sum_by-cons f x [] in
    let whole = sum_by-cons f x xs in
    ap (sum_by f) (reverse-cons x xs) ∙ omega arith

-- equal lists at the indices below n are equal end to end
pub gather_same : {X : Type 0} (n : ℕ) (g h : ℕ → List X) → ((i : ℕ) → i < n → g i ≡ h i) → gather n g ≡ gather n h
gather_same zero g h same = refl
gather_same (suc n) g h same =
    ap (λ xs. xs ++ g n) (gather_same n g h (λ i low. same i (omega arith)))
    ∙ ap (λ xs. gather n h ++ xs) (same n (omega arith))

-- filtered lists end to end are the lists end to end, filtered
pub gather-filter : {X : Type 0} (p : X → Bool) (n : ℕ) (g : ℕ → List X)
    → gather n (λ i. filter p (g i)) ≡ filter p (gather n g)
gather-filter p zero g = refl
gather-filter p (suc n) g = ap (λ xs. xs ++ filter p (g n)) (gather-filter p n g)
    ∙ sym (filter-append p (gather n g) (g n))

-- none of the lists is longer than all of them end to end
pub part_length : {X : Type 0} (n : ℕ) (g : ℕ → List X) (i : ℕ) → i < n → length (g i) ≤ length (gather n g)
part_length zero g i low = absurd (omega arith)
part_length (suc n) g i low = elim (cases_eq i n) [
  | inl is ↦ rw is (simp length-append (omega arith))
  | inr differ ↦ let rest = part_length n g i (omega arith) in simp length-append (omega arith)
]

-- none of the numbers is greater than the greatest
pub greatest_above : (n : ℕ) (g : ℕ → ℕ) (i : ℕ) → i < n → g i ≤ greatest n g
greatest_above zero g i below = absurd (omega arith)
greatest_above (suc n) g i below = elim (cases_eq i n) [
  | inl is ↦ rw is (omega arith)
  | inr differ ↦ let rest = greatest_above n g i (omega arith) in omega arith
]

-- a length is the sum that counts 1 for each element
pub length_sum : {X : Type 0} (xs : List X) → length xs ≡ sum_by (λ x. 1) xs
length_sum [] = refl
length_sum (x ∷ xs) = let rest = length_sum xs in let e = sum_by-cons (λ y. 1) x xs in omega arith

-- the front of a list is no longer than the whole
pub front_length : {X : Type 0} (xs ys : List X) → IsPrefix xs ys → length xs ≤ length ys
front_length xs ys front = let a = length-append xs front.rest in let b = ap length front.joins in omega arith

-- a filter leaves no more elements than there were
pub filter_fewer : {X : Type 0} (keep : X → Bool) (xs : List X) → length (filter keep xs) ≤ length xs
filter_fewer keep [] = omega arith
filter_fewer keep (x ∷ xs) = by_test (keep x) (filter_fewer keep xs)
  where
    by_test : (t : Bool) → length (filter keep xs) ≤ length xs
        → length (cond t (x ∷ filter keep xs) (filter keep xs)) ≤ length (x ∷ xs)
    by_test true rest = omega arith
    by_test false rest = omega arith

-- the greatest is no more than a bound of all the numbers
pub greatest_most : (n v : ℕ) (g : ℕ → ℕ) → ((i : ℕ) → i < n → g i ≤ v) → greatest n g ≤ v
greatest_most zero v g each = omega arith
greatest_most (suc n) v g each = let rest = greatest_most n v g (λ i low. each i (omega arith)) in
    let here = each n (omega arith) in omega arith

-- equal numbers at the indices below n have the same greatest one
pub greatest_same : (n : ℕ) (g h : ℕ → ℕ) → ((i : ℕ) → i < n → g i ≡ h i) → greatest n g ≡ greatest n h
greatest_same zero g h same = refl
greatest_same (suc n) g h same = let rest = greatest_same n g h (λ i low. same i (omega arith)) in
    let here = same n (omega arith) in omega arith

-- two sums change places
pub total_swap : (n m : ℕ) (g : ℕ → ℕ → ℕ) → total n (λ i. total m (λ j. g i j)) ≡ total m (λ j. total n (λ i. g i j))
total_swap zero m g = sym (total-zero m)
total_swap (suc n) m g =
    let rest = total_swap n m g in
    let add = total-add m (λ j. total n (λ i. g i j)) (λ j. g n j) in
    omega arith

-- only one index has something
pub only_one : (n i c : ℕ) (g : ℕ → ℕ) → ((q : ℕ) → q < n → (q ≡ i → ⊥) → g q ≡ 0) → (i < n → g i ≤ c) → total n g ≤ c
only_one zero i c g others one = omega arith
only_one (suc n) i c g others one = elim (cases_eq n i) [
  | inl is ↦
      let none = total_same n g (λ q. 0) (λ q low. others q (omega arith) (λ same. absurd (omega arith))) in
      let zeros = total-zero n in
      let here : g n ≤ c = subst (λ v. g v ≤ c) (sym is) (one (omega arith)) in
      omega arith
  | inr differ ↦
      let rest = only_one n i c g (λ q low. others q (omega arith)) (λ low. one (omega arith)) in
      let here = others n (omega arith) differ in
      omega arith
]

-- n numbers of at most c are at most n times c in all
pub total_most : (n c : ℕ) (g : ℕ → ℕ) → ((i : ℕ) → i < n → g i ≤ c) → total n g ≤ n * c
total_most n c g each = let a = total_le n g (λ i. c) each in let b = total-const n c in omega arith
