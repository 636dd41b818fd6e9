-- The best shift is a shift of the grid, and none has fewer copies.
use Rattle.std.proofs.Common.{◌≡◌, ℕ, zero, suc, ◌≤◌, ◌<◌, inl, inr, arith}
use Rattle.std.specs.Prelude.{nat_lt, nat_le}
use Rattle.std.proofs.lemmas.Bool.{cases_eq, ltb-true, ltb-false, leb-true, cond_both}
use Rattle.grid_map.specs.Load.{copies, smallest_best, best_shift, HasFewest, IsSmallest}

-- the smallest best of the shifts up to `top` is one of these
pub smallest_within : (k top x y : ℕ) → smallest_best k top x y ≤ top
smallest_within k zero x y = omega arith
smallest_within k (suc top) x y =
    let here = smallest_within k top x y in
    cond_both (nat_lt (copies k (suc top) x y) (copies k (smallest_best k top x y) x y)) (suc top)
    (smallest_best k top x y) (λ b. b ≤ suc top) (λ e. omega arith) (λ e. omega arith)

-- the best shift is one of the grid's, where the present shift is
pub best_within : (k b x y : ℕ) → b ≤ k → best_shift k b x y ≤ k
best_within k b x y within =
    cond_both (nat_le (copies k b x y) (copies k (smallest_best k k x y) x y)) b (smallest_best k k x y) (λ c. c ≤ k)
    (λ e. within) (λ e. smallest_within k k x y)

-- no shift up to `top` has fewer copies than the smallest best of them
pub smallest_fewest : (k top x y c : ℕ) → c ≤ top → copies k (smallest_best k top x y) x y ≤ copies k c x y
smallest_fewest k zero x y c low = let is : c ≡ 0 = omega arith in rw is (omega arith)
smallest_fewest k (suc top) x y c low =
    let small = smallest_best k top x y in
    cond_both (nat_lt (copies k (suc top) x y) (copies k small x y)) (suc top) small
    (λ b. copies k b x y ≤ copies k c x y)
    (λ e. let less = ltb-true (copies k (suc top) x y) (copies k small x y) e in
    elim (cases_eq c (suc top)) [
      | inl is ↦ rw is (omega arith)
      | inr differ ↦ let rest = smallest_fewest k top x y c (omega arith) in omega arith
    ])
    (λ e. let more = ltb-false (copies k (suc top) x y) (copies k small x y) e in
    elim (cases_eq c (suc top)) [
      | inl is ↦ rw is more
      | inr differ ↦ smallest_fewest k top x y c (omega arith)
    ])

-- and each below it has more
pub smallest_is_smallest : (k top x y c : ℕ) → c < smallest_best k top x y
    → copies k (smallest_best k top x y) x y < copies k c x y
smallest_is_smallest k zero x y c low = omega arith
smallest_is_smallest k (suc top) x y c below =
    let small = smallest_best k top x y in
    cond_both (nat_lt (copies k (suc top) x y) (copies k small x y)) (suc top) small (λ b. c < b
    → copies k b x y < copies k c x y)
    (λ e low. let less = ltb-true (copies k (suc top) x y) (copies k small x y) e in
    let fewest = smallest_fewest k top x y c (omega arith) in omega arith)
    (λ e low. smallest_is_smallest k top x y c low) below

-- no shift of the grid has fewer copies than the best
pub best_fewest : (k b x y : ℕ) → b ≤ k → HasFewest k (best_shift k b x y) x y
best_fewest k b x y within = record {
  within = best_within k b x y within;
  fewest = λ c low.
      let least = smallest_fewest k k x y c low in
      cond_both (nat_le (copies k b x y) (copies k (smallest_best k k x y) x y)) b (smallest_best k k x y)
      (λ d. copies k d x y ≤ copies k c x y)
      (λ e. let here = leb-true (copies k b x y) (copies k (smallest_best k k x y) x y) e in omega arith)
      (λ e. least);
}

-- nor than the smallest best of all the grid's shifts
pub smallest_has_fewest : (k x y : ℕ) → HasFewest k (smallest_best k k x y) x y
smallest_has_fewest k x y = record {
  within = smallest_within k k x y;
  fewest = λ c low. smallest_fewest k k x y c low;
}

-- a shift with no more copies than one with the fewest has the fewest
pub as_few : (k b c x y : ℕ) → b ≤ k → copies k b x y ≤ copies k c x y → HasFewest k c x y → HasFewest k b x y
as_few k b c x y within less fewest = record {
  within = within;
  fewest = λ d low. let least = fewest.fewest d low in omega arith;
}

-- so a search through all of them ends at a shift with the fewest copies
pub is_fewest : (k below b x y : ℕ) → below ≡ k → b ≡ smallest_best k below x y → HasFewest k b x y
is_fewest k below b x y all is = let is' : b ≡ smallest_best k k x y = rw all at is in
    rw is' (smallest_has_fewest k x y)

-- and at the smallest such
pub is_smallest : (k below b x y : ℕ) → below ≡ k → b ≡ smallest_best k below x y → IsSmallest k b x y
is_smallest k below b x y all is = let is' : b ≡ smallest_best k k x y = rw all at is in
    rw is' (smallest_is_smallest k k x y)
