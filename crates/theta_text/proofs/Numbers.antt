-- The number of some digits.
use Rattle.std.proofs.Common.{◌≡◌, ℕ, suc, ◌+◌, ◌-◌, ◌*◌, ◌<◌, ◌≤◌, List, [], ◌∷◌, length, drop, get_or, ap, ◌∙◌, arith}
use Rattle.std.proofs.Common.{ℤ, pos, w64, to_z, of_z}
use Rattle.std.proofs.lemmas.Int.{to_z_pos}
use Rattle.std.proofs.Math.Seq.{drop-cons}
use Rattle.theta_tree.specs.Tokens.{number_from}

-- more digits spell no less
pub number_from-le : (before : ℕ) (digits : List ℕ) → before ≤ number_from before digits
number_from-le before [] = omega arith
number_from-le before (b ∷ bs) = let le = number_from-le (before * 10 + (b - 48)) bs in omega (arith, le)

-- one digit
pub number_from-drop : (before at : ℕ) (digits : List ℕ) → at < length digits
    → number_from before (drop at digits) ≡ number_from (before * 10 + (get_or digits at 0 - 48)) (drop (at + 1) digits)
number_from-drop before at digits lt =
    let one : suc at ≡ at + 1 = omega arith in
    ap (number_from before) (drop-cons digits at 0 lt ∙ ap (λ n. get_or digits at 0 ∷ drop n digits) one)

-- a number that fits is the same behind a copy
pub number-copied : (value : ℤ) (n : ℕ) → value ≡ pos n → n ≤ 9223372036854775807 → to_z w64 (of_z w64 value) ≡ pos n
number-copied value n e le =
    let fits : n < 9223372036854775808 = omega (arith, le) in
    ap (λ z. to_z w64 (of_z w64 z)) e ∙ to_z_pos w64 n fits
