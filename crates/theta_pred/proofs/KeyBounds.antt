-- The bounds of a difference, where a test of whole sums is true.
use Rattle.std.proofs.Common.{◌≡◌, Bool, true, ◌&&◌, ℤ, pos, negsuc, ◌+ℤ◌, ◌-ℤ◌, neg_ℤ, ◌≤ℤ◌, ◌<ℤ◌, Some, refl, arith}
use Rattle.std.specs.Prelude.{int_le}
use Rattle.std.specs.Cmp.{int_ranks}
use Rattle.std.specs.Ordering.{int_cmp, is_eq, is_lt, is_le, is_gt, is_ge, MatchOrdering}
use Rattle.std.specs.declared.cmp.Ordering.{Ordering}
use Rattle.std.specs.declared.cmp.Ordering.TheVariants.{Less, Equal, Greater}
use Rattle.std.proofs.lemmas.Bool.{false≢true}
use Rattle.std.proofs.lemmas.Int.{ints}
use Rattle.theta_tree.specs.declared.tree.Op.{Op}
use Rattle.theta_tree.specs.declared.tree.Op.TheVariants.{Eq, Ne, Lt, Le, Gt, Ge}
use Rattle.theta_pred.specs.Keys.{is_from, is_up_to, num_low, num_high, reach}
use Rattle.theta_pred.specs.Truth.{allows, size_of}

-- ---- the order of two numbers

eq_from : (x y : ℤ) (o : Ordering) → MatchOrdering o (x <ℤ y) (x ≡ y) (y <ℤ x) → is_eq o ≡ true → x ≡ y
eq_from x y Less h e = absurd (false≢true e)
eq_from x y Equal h e = h
eq_from x y Greater h e = absurd (false≢true e)

lt_from : (x y : ℤ) (o : Ordering) → MatchOrdering o (x <ℤ y) (x ≡ y) (y <ℤ x) → is_lt o ≡ true → x <ℤ y
lt_from x y Less h e = h
lt_from x y Equal h e = absurd (false≢true e)
lt_from x y Greater h e = absurd (false≢true e)

le_from : (x y : ℤ) (o : Ordering) → MatchOrdering o (x <ℤ y) (x ≡ y) (y <ℤ x) → is_le o ≡ true → x ≤ℤ y
le_from x y Less h e = omega (arith, ints)
le_from x y Equal h e = omega (arith, ints)
le_from x y Greater h e = absurd (false≢true e)

gt_from : (x y : ℤ) (o : Ordering) → MatchOrdering o (x <ℤ y) (x ≡ y) (y <ℤ x) → is_gt o ≡ true → y <ℤ x
gt_from x y Less h e = absurd (false≢true e)
gt_from x y Equal h e = absurd (false≢true e)
gt_from x y Greater h e = h

ge_from : (x y : ℤ) (o : Ordering) → MatchOrdering o (x <ℤ y) (x ≡ y) (y <ℤ x) → is_ge o ≡ true → y ≤ℤ x
ge_from x y Less h e = absurd (false≢true e)
ge_from x y Equal h e = omega (arith, ints)
ge_from x y Greater h e = omega (arith, ints)

-- ---- the bounds

both : (p q : Bool) → p ≡ true → q ≡ true → (p && q) ≡ true
both p q is_p is_q = cc

-- a number that is at most another is found to be so
pub at_most : (x y : ℤ) → x ≤ℤ y → int_le x y ≡ true
at_most x y h = grind (arith, ints)

-- where a comparison of two sums is true, the difference of their columns lies between the bounds that it gives
pub num_bounds : (op : Op) (x y gap c : ℤ) → allows op (int_cmp x y) ≡ true → x -ℤ y ≡ gap +ℤ c
    → (is_from (num_low op c) gap && is_up_to (num_high op c) gap) ≡ true
num_bounds Eq x y gap c holds apart =
    let is = eq_from x y (int_cmp x y) (int_ranks x y) holds in
    both _ _ (at_most (neg_ℤ c) gap (omega (arith, ints))) (at_most gap (neg_ℤ c) (omega (arith, ints)))
num_bounds Ne x y gap c holds apart = refl
num_bounds Lt x y gap c holds apart =
    let is = lt_from x y (int_cmp x y) (int_ranks x y) holds in
    at_most gap (neg_ℤ (pos 1) -ℤ c) (omega (arith, ints))
num_bounds Le x y gap c holds apart =
    let is = le_from x y (int_cmp x y) (int_ranks x y) holds in
    at_most gap (neg_ℤ c) (omega (arith, ints))
num_bounds Gt x y gap c holds apart =
    let is = gt_from x y (int_cmp x y) (int_ranks x y) holds in
    both _ true (at_most (pos 1 -ℤ c) gap (omega (arith, ints))) refl
num_bounds Ge x y gap c holds apart =
    let is = ge_from x y (int_cmp x y) (int_ranks x y) holds in
    both _ true (at_most (neg_ℤ c) gap (omega (arith, ints))) refl

-- a number lies between its size and the opposite
within_size : (x reach : ℤ) → size_of x ≤ℤ reach → (neg_ℤ reach ≤ℤ x) × (x ≤ℤ reach)
within_size (pos n) reach h = (omega (arith, ints), omega (arith, ints))
within_size (negsuc n) reach h = (omega (arith, ints), omega (arith, ints))

band_reach : (op : Op) (x reach gap c : ℤ) → size_of x ≤ℤ reach → x ≡ gap +ℤ c
    → (is_from (Some (neg_ℤ reach -ℤ c)) gap && is_up_to (Some (reach -ℤ c)) gap) ≡ true
band_reach op x reach gap c small apart =
    let within = within_size x reach small in
    let above = within.0 in
    let below = within.1 in
    both _ _ (at_most (neg_ℤ reach -ℤ c) gap (omega (arith, ints))) (at_most gap (reach -ℤ c) (omega (arith, ints)))

-- of a band that leaves its bound out, each size below the bound is at most the greatest that it allows
pub lt_reach : (x bound : ℤ) → allows Lt (int_cmp (size_of x) bound) ≡ true → size_of x ≤ℤ reach Lt bound
lt_reach x bound holds =
    let is = lt_from (size_of x) bound (int_cmp (size_of x) bound) (int_ranks (size_of x) bound) holds in
    omega (arith, ints)

-- where a sum has a size that a band allows, what its columns come to lies between the band's bounds
pub band_bounds : (op : Op) (x bound gap c : ℤ) → size_of x ≤ℤ reach op bound → x ≡ gap +ℤ c
    → (is_from (Some (neg_ℤ (reach op bound) -ℤ c)) gap && is_up_to (Some (reach op bound -ℤ c)) gap) ≡ true
band_bounds op x bound gap c small apart = band_reach op x (reach op bound) gap c small apart

-- of a band that takes its bound in, each size up to the bound is at most the greatest that it allows
pub le_reach : (x bound : ℤ) → allows Le (int_cmp (size_of x) bound) ≡ true → size_of x ≤ℤ reach Le bound
le_reach x bound holds = le_from (size_of x) bound (int_cmp (size_of x) bound) (int_ranks (size_of x) bound) holds
