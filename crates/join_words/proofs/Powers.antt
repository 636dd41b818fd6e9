-- The exponents of small powers of two.
use Rattle.std.proofs.Common.{◌≡◌, ◌∙◌, ◌<◌, ◌≤◌, ◌^◌, ◌/◌, ◌%◌, ℕ, zero, suc, true, ap, sym, arith}
use Rattle.std.specs.Int.{bit_at, is_power_of_two, trailing_zeros, w64}
use Rattle.std.proofs.Math.Nat.{div-eq_of_lt}
use Rattle.std.proofs.Math.Pow.{pow_mono}
use Rattle.std.proofs.lemmas.Nat.{ones_le_self}
use Rattle.std.proofs.lemmas.Nat.Bits.{bit_at-trailing_zeros}

is_positive : (n : ℕ) → is_power_of_two n ≡ true → 0 < n
is_positive zero power = absurd (grind (arith, ones_le_self 0))
is_positive (suc n) power = omega arith

-- a bit that is set is below the number
set_below : (n i : ℕ) → n ≤ 64 → bit_at n i ≡ 1 → i ≤ 6
set_below n i few set = let no = above in omega (arith, no)
  where
    above : 7 ≤ i → ⊥
    above high =
        let wide : 2 ^ 7 ≤ 2 ^ i = pow_mono high in
        let none : n / 2 ^ i ≡ 0 = div-eq_of_lt (omega (arith, wide)) in
        let bad : 0 % 2 ≡ 1 = ap (λ (q : ℕ). q % 2) (sym none) ∙ set in
        omega arith

-- where at most 64 joiners are a power of two, its exponent is at most 6
pub small_exponent : (joiners : ℕ) → joiners ≤ 64 → is_power_of_two joiners ≡ true → trailing_zeros w64 joiners ≤ 6
small_exponent joiners few power =
    set_below joiners (trailing_zeros w64 joiners) few (bit_at-trailing_zeros w64 joiners (is_positive joiners power)
    (omega arith)).1
