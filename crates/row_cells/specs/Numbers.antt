-- The number that a cell's text writes.
use Rattle.std.specs.Prelude.{◌≡◌, ◌^◌, ◌&&◌, ◌==◌, ℕ, ℤ, pos, negsuc, Bool, List, ◌++◌, Option, None, Some, drop, take}
use Rattle.std.specs.Prelude.{length, nat_lt, if◌then◌else◌, FitsSigned, not}
use Rattle.std.specs.Char.{digit_value}
use Rattle.std.specs.Int.{w64}
use Rattle.std.specs.List.{AllByRecursion, list_all, prefix_len}
use Rattle.std.specs.Str.Parse.{IsNumeral, signed_digits_value, without_leading_sign}

-- whether a byte is a space
abbrev pub is_space : ℕ → Bool
is_space byte = byte == 32

-- how many spaces a text begins with
abbrev pub spaces_at : List ℕ → ℕ
spaces_at text = prefix_len is_space text

-- and how many other bytes
abbrev pub others_at : List ℕ → ℕ
others_at text = prefix_len (λ byte. not (is_space byte)) text

-- the text has nothing but spaces
abbrev pub IsSpaces : List ℕ → Type 0
IsSpaces text = AllByRecursion (λ byte. byte ≡ 32) text

-- the text is spaces, an optional sign, one digit or more, and spaces, and the value of sign and digits is a number
-- that fits an i64
pub record IsNumber (text : List ℕ) (number : ℤ) : Type 0 where
  pub before : List ℕ
  pub numeral : List ℕ
  pub after : List ℕ
  pub joined : text ≡ before ++ numeral ++ after
  pub spaces_before : IsSpaces before
  pub spaces_after : IsSpaces after
  pub digits : IsNumeral 10 (without_leading_sign numeral)
  pub value : number ≡ signed_digits_value 10 numeral
  pub fits : FitsSigned w64 number

-- whether the bytes are one digit or more
abbrev pub is_numeral : List ℕ → Bool
is_numeral digits = nat_lt 0 (length digits) && list_all (λ byte. nat_lt (digit_value byte) 10) digits

-- whether a number lies from -2^63 to 2^63 - 1
abbrev pub fits_i64 : ℤ → Bool
fits_i64 (pos n) = nat_lt n (2 ^ 63)
fits_i64 (negsuc n) = nat_lt n (2 ^ 63)

-- the number of a text, where it is one: the bytes behind its first spaces, up to the next space, write it, and behind
-- them are spaces alone
unfoldable pub number_of : List ℕ → Option ℤ
number_of text =
    let rest = drop (spaces_at text) text in
    let numeral = take (others_at rest) rest in
    let after = drop (others_at rest) rest in
    let number = signed_digits_value 10 numeral in
    if (spaces_at after == length after) && is_numeral (without_leading_sign numeral) && fits_i64 number
    then Some number else None
