-- A child of growth holds no more than its parent, and has one parent.
use Rattle.std.proofs.Common.{◌≡◌, ℕ, ◌+◌, ◌-◌, ◌*◌, ◌/◌, ◌%◌, ◌^◌, ◌<◌, ◌≤◌, refl, sym, ◌∙◌, ap, ap₂, arith, true}
use Rattle.std.proofs.lemmas.Nat.{shr-shr, shr_split, mod-pow-add, mod_below, pow_pos, pow-add, same_from_place}
use Rattle.std.proofs.lemmas.Nat.{mul-add-lt, shr_below}
use Rattle.std.proofs.lemmas.Bool.{eq-eqb, eqb-true}
use Rattle.grid_map.specs.Grid.{row_of, holds_r, holds_s}
use Rattle.elastic_grow.specs.Children.{child, parent_of, ChildHolds, HasOneParent}

-- a number's part below a power is the next bit and the part below that
low_split : (b n : ℕ) → n % 2 ^ (b + 1) ≡ (n / 2 ^ b % 2) * 2 ^ b + n % 2 ^ b
low_split b n =
    let is : b + 1 ≡ 1 + b = omega arith in
    rw is (mod-pow-add n 1 b)

module _ (b id a d : ℕ) (low_a : a < 2) (low_d : d < 2) where
  -- the column of the child, below the number of columns
  low : d * 2 ^ b + id % 2 ^ b < 2 ^ (b + 1)
  low =
      let part = mod_below id (2 ^ b) (pow_pos b) in
      let is : 2 ^ (b + 1) ≡ 2 ^ b * 2 = pow-add 2 b 1 in
      let here = mul-add-lt d (2 ^ b) (id % 2 ^ b) 2 low_d part in
      omega (arith, is, here)

  places : (child b id a d / 2 ^ (b + 1) ≡ 2 * (id / 2 ^ b) + a)
      × (child b id a d % 2 ^ (b + 1) ≡ d * 2 ^ b + id % 2 ^ b)
  places =
      same_from_place (child b id a d / 2 ^ (b + 1)) (child b id a d % 2 ^ (b + 1)) (2 * (id / 2 ^ b) + a)
      (d * 2 ^ b + id % 2 ^ b) (2 ^ (b + 1))
      (mod_below (child b id a d) (2 ^ (b + 1)) (pow_pos (b + 1))) low (shr_split (child b id a d) (b + 1))

  row_is : (k t : ℕ) → b ≤ k → k ≤ 6 → row_of k b t ≡ row_of (k + 2) (b + 1) t / 2
  row_is k t within small =
      let is : 8 - (k - b) ≡ (8 - ((k + 2) - (b + 1))) + 1 = omega arith in
      rw is (sym (shr-shr t (8 - ((k + 2) - (b + 1))) 1))

  of_r : (k t : ℕ) → b ≤ k → k ≤ 6 → holds_r (k + 2) (b + 1) (child b id a d) t ≡ true → holds_r k b id t ≡ true
  of_r k t within small held =
      let same = sym (places.0) ∙ eqb-true (child b id a d / 2 ^ (b + 1)) (row_of (k + 2) (b + 1) t) held in
      let row = row_is k t within small in
      eq-eqb (id / 2 ^ b) (row_of k b t) (omega (arith, same, row, low_a))

  of_s : (t : ℕ) → holds_s (b + 1) (child b id a d) t ≡ true → holds_s b id t ≡ true
  of_s t held =
      let same = sym (places.1) ∙ eqb-true (child b id a d % 2 ^ (b + 1)) (t % 2 ^ (b + 1)) held in
      let parts =
      same_from_place d (id % 2 ^ b) (t / 2 ^ b % 2) (t % 2 ^ b) (2 ^ b) (mod_below id (2 ^ b) (pow_pos b))
      (mod_below t (2 ^ b) (pow_pos b)) (same ∙ low_split b t) in
      eq-eqb (id % 2 ^ b) (t % 2 ^ b) parts.1

  below : (k : ℕ) → b ≤ k → id < 2 ^ k → child b id a d < 2 ^ (k + 2)
  below k within small =
      let j = k - b in
      let is : k ≡ j + b = omega arith in
      let power : 2 ^ k ≡ 2 ^ (j + b) = rw (← is) refl in
      let parts : 2 ^ (j + b) ≡ 2 ^ j * 2 ^ b = pow-add 2 j b in
      let row : id / 2 ^ b < 2 ^ j = shr_below id j b (omega (arith, power, small)) in
      let two : 2 ^ (j + 1) ≡ 2 ^ j * 2 = pow-add 2 j 1 in
      let high : 2 * (id / 2 ^ b) + a < 2 ^ (j + 1) = omega (arith, row, two, low_a) in
      let all =
      mul-add-lt (2 * (id / 2 ^ b) + a) (2 ^ (b + 1)) (d * 2 ^ b + id % 2 ^ b) (2 ^ (j + 1)) high low in
      let whole : 2 ^ ((b + 1) + (j + 1)) ≡ 2 ^ (b + 1) * 2 ^ (j + 1) = pow-add 2 (b + 1) (j + 1) in
      let exponent : k + 2 ≡ (b + 1) + (j + 1) = omega arith in
      rw exponent (omega (arith, all, whole))

  -- the parent of the child is the joiner
  pub parent_is : parent_of b (child b id a d) ≡ id
  parent_is =
      let j = child b id a d in
      let two : b + 2 ≡ (b + 1) + 1 = omega arith in
      let deep : j / 2 ^ (b + 2) ≡ j / 2 ^ (b + 1) / 2 = rw two (sym (shr-shr j (b + 1) 1)) in
      let half = places.0 in
      let row : j / 2 ^ (b + 2) ≡ id / 2 ^ b = omega (arith, deep, half, low_a) in
      let column =
      (same_from_place (j / 2 ^ b % 2) (j % 2 ^ b) d (id % 2 ^ b) (2 ^ b) (mod_below j (2 ^ b) (pow_pos b))
      (mod_below id (2 ^ b) (pow_pos b)) (sym (low_split b j) ∙ places.1)).1 in
      ap₂ (λ r c. r * 2 ^ b + c) row column ∙ shr_split id b

-- a child is a joiner of the grown grid, and holds no more than its parent
pub children_hold : (k b id a d ticket : ℕ) → b ≤ k → k ≤ 6 → a < 2 → d < 2 → ChildHolds k b id a d ticket
children_hold k b id a d ticket within small low_a low_d = record {
  below = below b id a d low_a low_d k within;
  of_r = of_r b id a d low_a low_d k ticket within small;
  of_s = of_s b id a d low_a low_d ticket;
}

module _ (k b j : ℕ) (within : b ≤ k) (small : j < 2 ^ (k + 2)) where
  parent_below : parent_of b j < 2 ^ k
  parent_below =
      let exponent : (k - b) + (b + 2) ≡ k + 2 = omega arith in
      let row : j / 2 ^ (b + 2) < 2 ^ (k - b) = shr_below j (k - b) (b + 2) (rw exponent small) in
      let column : j % 2 ^ b < 2 ^ b = mod_below j (2 ^ b) (pow_pos b) in
      let is : b + (k - b) ≡ k = omega arith in
      let all : 2 ^ b * 2 ^ (k - b) ≡ 2 ^ k = sym (pow-add 2 b (k - b)) ∙ ap (λ n. 2 ^ n) is in
      rw all at (mul-add-lt (j / 2 ^ (b + 2)) (2 ^ b) (j % 2 ^ b) (2 ^ (k - b)) row column)

  parent_places : (parent_of b j / 2 ^ b ≡ j / 2 ^ (b + 2)) × (parent_of b j % 2 ^ b ≡ j % 2 ^ b)
  parent_places =
      same_from_place (parent_of b j / 2 ^ b) (parent_of b j % 2 ^ b) (j / 2 ^ (b + 2)) (j % 2 ^ b) (2 ^ b)
      (mod_below (parent_of b j) (2 ^ b) (pow_pos b)) (mod_below j (2 ^ b) (pow_pos b)) (shr_split (parent_of b j) b)

  child_is : child b (parent_of b j) (j / 2 ^ (b + 1) % 2) (j / 2 ^ b % 2) ≡ j
  child_is =
      let two : b + 2 ≡ (b + 1) + 1 = omega arith in
      let deep : j / 2 ^ (b + 2) ≡ j / 2 ^ (b + 1) / 2 = rw two (sym (shr-shr j (b + 1) 1)) in
      let own = parent_places.0 in
      let row : 2 * (parent_of b j / 2 ^ b) + j / 2 ^ (b + 1) % 2 ≡ j / 2 ^ (b + 1) = omega (arith, deep, own) in
      let column : (j / 2 ^ b % 2) * 2 ^ b + parent_of b j % 2 ^ b ≡ j % 2 ^ (b + 1) =
      ap (λ c. (j / 2 ^ b % 2) * 2 ^ b + c) (parent_places.1) ∙ sym (low_split b j) in
      ap₂ (λ r c. r * 2 ^ (b + 1) + c) row column ∙ shr_split j (b + 1)

  -- a joiner of the grown grid is a child of its parent, and of no other
  pub has_one_parent : HasOneParent k b j
  has_one_parent = record {
    below = parent_below;
    a = j / 2 ^ (b + 1) % 2;
    d = j / 2 ^ b % 2;
    low_a = mod_below (j / 2 ^ (b + 1)) 2 (omega arith);
    low_d = mod_below (j / 2 ^ b) 2 (omega arith);
    is = child_is;
    alone = λ id a' d' low_a low_d is. sym (parent_is b id a' d' low_a low_d) ∙ ap (parent_of b) is;
  }
