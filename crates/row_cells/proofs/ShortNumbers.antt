-- Texts of a few digits, and texts that begin as no number does.
use Rattle.std.proofs.Common.{◌≡◌, ◌≤◌, ◌<◌, ◌+◌, ◌-◌, ◌*◌, ◌^◌, ◌==◌, ℕ, ℤ, pos, Bool, true, false, List, [], ◌∷◌}
use Rattle.std.proofs.Common.{◌++◌, Option, None, Some, append-nil, arith, length, refl, slice_index_or, sym, take}
use Rattle.std.specs.Char.{is_ascii_digit}
use Rattle.std.specs.Int.{IsInRange}
use Rattle.std.specs.Str.Parse.{AllDigits, IsNumeral, digits_value, without_leading_sign}
use Rattle.std.proofs.Math.Nat.{pow-le-pow_right}
use Rattle.std.proofs.lemmas.Int.Digits.{digits_more, digits_value-lt, digits_value_more}
use Rattle.std.proofs.lemmas.List.{length-take-le, take_all}
use Rattle.std.proofs.lemmas.Str.{digit_value_digit}
use Rattle.std.proofs.lemmas.Str.Parse.{digit_from_value}
use Rattle.row_cells.specs.Numbers.{IsSpaces, number_of}
use Rattle.row_cells.proofs.Numbers.{number_of-writes, number_of-written, plain_numeral}

-- a sign or a digit is no more than '9'
low_first : (c : ℕ) (cs : List ℕ) → IsNumeral 10 (without_leading_sign (c ∷ cs)) → c ≤ 57
low_first c cs h = by (c == 45) (c == 43) refl refl h
  where
    by : (minus plus : Bool) → (c == 45) ≡ minus → (c == 43) ≡ plus → IsNumeral 10 (without_leading_sign (c ∷ cs))
        → c ≤ 57
    by true plus m p h = grind (arith, m)
    by false true m p h = grind (arith, p)
    by false false m p h = let d = rw (m, p) at h in let r = digit_from_value c d.1.0 in omega (arith, r)

low_number : (before numeral after : List ℕ) (c : ℕ) (cs : List ℕ) → c ∷ cs ≡ (before ++ numeral) ++ after
    → IsSpaces before → IsNumeral 10 (without_leading_sign numeral) → c ≤ 57
low_number [] [] after c cs e spaces digits = let n = (plain_numeral [] digits).0 in absurd (omega (arith, n))
low_number [] (d ∷ ds) after c cs e spaces digits =
    let same : c ≡ d = cc e in let low = low_first d ds digits in omega (arith, same, low)
low_number (b ∷ before) numeral after c cs e spaces digits =
    let same : c ≡ b = cc e in let space = spaces.0 in omega (arith, same, space)

-- a text whose first byte is past '9' writes no number
pub number-otherwise : (text : List ℕ) → 57 < slice_index_or text 0 0 → number_of text ≡ None
number-otherwise [] past = absurd (omega (arith, past))
number-otherwise (c ∷ cs) past = by (number_of (c ∷ cs)) refl
  where
    by : (x : Option ℤ) → number_of (c ∷ cs) ≡ x → number_of (c ∷ cs) ≡ None
    by None e = e
    by (Some number) e =
        let is = number_of-writes (c ∷ cs) number e in
        let low = low_number is.before is.numeral is.after c cs is.joined is.spaces_before is.digits in
        absurd (omega (arith, past, low))

-- so many bytes are digits, and this is what they write
pub record IsWritten (text : List ℕ) (place number : ℕ) : Type 0 where
  pub digits : AllDigits 10 (take place text)
  pub value : number ≡ digits_value 10 (take place text)

-- fewer digits than 18 write less than 10 ^ 17
pub written-small : (text : List ℕ) (place number : ℕ) → IsWritten text place number → place < length text
    → length text ≤ 18 → number < 10 ^ 17
written-small text place number is within short =
    let size : length (take place text) ≡ place = length-take-le place text (omega (arith, within)) in
    let below = digits_value-lt 10 (take place text) is.digits in
    let few : length (take place text) ≤ 17 = omega (arith, size, within, short) in
    let some : 0 < 10 = omega arith in
    let most : 10 ^ length (take place text) ≤ 10 ^ 17 = pow-le-pow_right some few in
    omega (arith, is.value, below, most)

-- one digit more
pub written-more : (text : List ℕ) (place number : ℕ) → IsWritten text place number → place < length text
    → is_ascii_digit (slice_index_or text place 0) ≡ true
    → IsWritten text (place + 1) (number * 10 + (slice_index_or text place 0 - 48))
written-more text place number is within digit =
    let range : IsInRange 48 57 (slice_index_or text place 0) = grind (arith, digit) in
    let value = digit_value_digit (slice_index_or text place 0) range in
    record {
      digits = digits_more 10 text place within is.digits (omega (arith, value, range));
      value = omega (arith, digits_value_more 10 text place within, is.value, value, range);
    }

-- digits alone, 18 at most, write a number that an i64 holds
pub number-short : (text : List ℕ) (place number : ℕ) → IsWritten text place number → length text ≤ place
    → 0 < length text → length text ≤ 18 → number_of text ≡ Some (pos number)
number-short [] place number is all some short = absurd (omega (arith, some))
number-short (c ∷ cs) place number is all some short =
    let whole : take place (c ∷ cs) ≡ c ∷ cs = take_all place (c ∷ cs) all in
    let digits : AllDigits 10 (c ∷ cs) = rw whole at is.digits in
    let value : number ≡ digits_value 10 (c ∷ cs) = rw whole at is.value in
    let r = digit_from_value c digits.0 in
    let minus : (c == 45) ≡ false = grind (arith, r) in
    let plus : (c == 43) ≡ false = grind (arith, r) in
    let below = digits_value-lt 10 (c ∷ cs) digits in
    let ten : 0 < 10 = omega arith in
    let most : 10 ^ length (c ∷ cs) ≤ 10 ^ 18 = pow-le-pow_right ten short in
    number_of-written (c ∷ cs) (pos number) (record {
      before = [];
      numeral = c ∷ cs;
      after = [];
      joined = sym (append-nil (c ∷ cs));
      spaces_before = tt;
      spaces_after = tt;
      digits = rw (minus, plus) (some, digits);
      value = rw (minus, plus, value) refl;
      fits = record { sfits = omega (arith, value, below, most) };
    })
