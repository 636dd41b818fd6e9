-- The parts of R's rows: which rows they have, and that each row is of one.
use Rattle.std.proofs.Common.{◌≡◌, ℕ, zero, suc, ◌+◌, ◌^◌, ◌<◌, ◌≤◌, ◌==◌, Bool, true, false, cond, inl, inr, refl, sym}
use Rattle.std.proofs.Common.{◌∙◌, ap, subst, arith, List, [], ◌∷◌, ◌++◌, length, take}
use Rattle.std.specs.Prelude.{All, filter, sum, sum_by, nat_le, nat_lt, ◌&&◌, slice_index}
use Rattle.std.specs.List.{range_with_len}
use Rattle.std.proofs.Math.Seq.{drop-length}
use Rattle.std.proofs.lemmas.Bool.{cases_eq, eq-eqb, ne_eqb, cases_lt, lt-ltb, le-ltb, le-leb, lt-leb}
use Rattle.std.proofs.lemmas.List.{map-id}
use Rattle.std.proofs.lemmas.List.Elements.{All-filter}
use Rattle.std.proofs.lemmas.List.FromFn.{filter_of_map_range_with_len_more, get_or-range_with_len}
use Rattle.std.proofs.lemmas.List.FromFn.{length-range_with_len}
use Rattle.row_cells.specs.Lists.{total}
use Rattle.row_cells.proofs.Bags.{only_if, sum-filter}
use Rattle.row_cells.proofs.Totals.{total_same, exchange, range_sum, filter_fewer}
use Rattle.group_split.specs.Sizes.{digits, sizes, before, IsGroupOf, is_of}
use Rattle.group_split.specs.Parts.{part}
use Rattle.group_split.proofs.BinaryDigits.{sum-cons, sum_sizes, all_taken}

-- ---- joiners before a group

sum_take_mono : (ns : List ℕ) (g h : ℕ) → g ≤ h → sum (take g ns) ≤ sum (take h ns)
sum_take_mono [] zero zero low = omega arith
sum_take_mono [] zero (suc h) low = omega arith
sum_take_mono [] (suc g) zero low = omega arith
sum_take_mono [] (suc g) (suc h) low = omega arith
sum_take_mono (n ∷ ns) zero h low = omega arith
sum_take_mono (n ∷ ns) (suc g) zero low = absurd (omega arith)
sum_take_mono (n ∷ ns) (suc g) (suc h) low =
    let rest = sum_take_mono ns g h (omega arith) in
    let left = sum-cons n (take g ns) in
    let right = sum-cons n (take h ns) in
    omega arith

-- before a later group there are no fewer
pub before_mono : (joiners g h : ℕ) → g ≤ h → before joiners g ≤ before joiners h
before_mono joiners g h low = sum_take_mono (sizes joiners) g h low

-- before the end of the groups there are all joiners
pub before-all : (joiners : ℕ) → joiners < 2 ^ 7 → before joiners (length (digits joiners)) ≡ joiners
before-all joiners few =
    ap sum (all_taken (digits joiners) (length (digits joiners)) (drop-length (digits joiners))) ∙ sum_sizes joiners few

-- ---- the test

-- no number is of two groups
pub is_of_group : (joiners number group g : ℕ) → IsGroupOf joiners number group → (group == g) ≡ is_of joiners g number
is_of_group joiners number group g its = elim (cases_eq group g) [
  | inl is ↦
      let at : IsGroupOf joiners number g = subst (IsGroupOf joiners number) is its in
      eq-eqb group g is
      ∙ sym (both (nat_le (before joiners g) number) (nat_lt number (before joiners (g + 1)))
      (le-leb (before joiners g) number at.from) (lt-ltb number (before joiners (g + 1)) at.below))
  | inr differ ↦ ne_eqb group g differ ∙ sym (elim (cases_lt group g) [
    | inl low ↦
        let over = before_mono joiners (group + 1) g (omega arith) in
        let upper = its.below in
        left (nat_le (before joiners g) number) (nat_lt number (before joiners (g + 1)))
        (lt-leb (before joiners g) number (omega arith))
    | inr high ↦
        let under = before_mono joiners (g + 1) group (omega arith) in
        let lower = its.from in
        right (nat_le (before joiners g) number) (nat_lt number (before joiners (g + 1)))
        (le-ltb number (before joiners (g + 1)) (omega arith))
  ])
]
  where
    both : (a b : Bool) → a ≡ true → b ≡ true → a && b ≡ true
    both a b one two = ap (λ t. t && b) one ∙ two

    left : (a b : Bool) → a ≡ false → a && b ≡ false
    left a b one = ap (λ t. t && b) one

    right : (a b : Bool) → b ≡ false → a && b ≡ false
    right true b two = two
    right false b two = refl

-- of the groups below m a number is of one where there are more joiners before m, and else of none
pub once : (joiners number m w : ℕ)
    → total m (λ g. only_if (is_of joiners g number) w) ≡ only_if (nat_lt number (before joiners m)) w
once joiners number zero w = sym (ap (λ t. only_if t w) (le-ltb number 0 (omega arith)))
once joiners number (suc m) w =
    let next : suc m ≡ m + 1 = omega arith in
    let up = before_mono joiners m (m + 1) (omega arith) in
    ap (λ n. n + only_if (is_of joiners m number) w) (once joiners number m w)
    ∙ elim (cases_lt number (before joiners m)) [
      | inl low ↦
          let lower : number < before joiners (m + 1) = omega arith in
          rw (
            lt-ltb number (before joiners m) low,
            lt-leb (before joiners m) number low,
            next,
            lt-ltb number (before joiners (m + 1)) lower,
          ) (omega arith)
      | inr high ↦
          rw (le-ltb number (before joiners m) high, le-leb (before joiners m) number high, next) (omega arith)
    ]

-- ---- the indices of a part

-- one index more
pub filter_more : (p : ℕ → Bool) (n : ℕ)
    → filter p (range_with_len 0 (n + 1)) ≡ filter p (range_with_len 0 n) ++ cond (p n) (n ∷ []) []
filter_more p n =
    sym (ap (filter p) (map-id (range_with_len 0 (n + 1))))
    ∙ filter_of_map_range_with_len_more p (λ i. i) 0 n n (omega arith)
    ∙ ap (λ is. filter p is ++ cond (p n) (n ∷ []) []) (map-id (range_with_len 0 n))

-- each index of a part is one of a row
pub part_within : (joiners : ℕ) (numbers : List ℕ) (g : ℕ) → All (λ i. i < length numbers) (part joiners numbers g)
part_within joiners numbers g =
    All-filter (λ i. is_of joiners g (slice_index numbers i)) (λ i. i < length numbers)
    (range_with_len 0 (length numbers))
    (λ k d low.
    let all = length-range_with_len 0 (length numbers) in
    let is = get_or-range_with_len 0 (length numbers) k d (omega arith) in
    omega arith)

-- a part has no more rows than there are
pub part_few : (joiners : ℕ) (numbers : List ℕ) (g : ℕ) → length (part joiners numbers g) ≤ length numbers
part_few joiners numbers g =
    let all = length-range_with_len 0 (length numbers) in
    let fewer = filter_fewer (λ i. is_of joiners g (slice_index numbers i)) (range_with_len 0 (length numbers)) in
    omega arith

-- ---- all parts

-- each row is of one part
pub parted : (joiners : ℕ) (numbers : List ℕ) (h : ℕ → ℕ) → joiners < 2 ^ 7 → All (λ number. number < joiners) numbers
    → total (length (digits joiners)) (λ g. sum_by h (part joiners numbers g)) ≡ total (length numbers) h
parted joiners numbers h few below =
    let groups = length (digits joiners) in
    let rows = range_with_len 0 (length numbers) in
    let test : ℕ → ℕ → Bool = λ g i. is_of joiners g (slice_index numbers i) in
    total_same groups (λ g. sum_by h (part joiners numbers g)) (λ g. sum_by (λ i. only_if (test g i) (h i)) rows)
    (λ g low. sum-filter h (test g) rows)
    ∙ exchange groups (λ g i. only_if (test g i) (h i)) rows
    ∙ range_sum (λ i. total groups (λ g. only_if (test g i) (h i))) 0 (length numbers)
    ∙ total_same (length numbers) (λ i. total groups (λ g. only_if (test g (0 + i)) (h (0 + i)))) h
    (λ i low.
    let same : 0 + i ≡ i = omega arith in
    let number = slice_index numbers i in
    let its : number < joiners = below i 0 low in
    ap (λ n. total groups (λ g. only_if (test g n) (h n))) same
    ∙ once joiners number groups (h i)
    ∙ ap (λ all. only_if (nat_lt number all) (h i)) (before-all joiners few)
    ∙ ap (λ t. only_if t (h i)) (lt-ltb number joiners its))
