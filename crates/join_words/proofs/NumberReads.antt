-- What `parse` reads, as a number of the contracts.
use Rattle.std.proofs.Common.{◌≡◌, ◌≤◌, ℕ, Bool, true, false, List, Option, Some, None, refl, arith, ap}
use Rattle.std.specs.Prelude.{Ok, Err, IfSome, Result, option_and_then, unwrap_or}
use Rattle.std.specs.Str.Parse.{ParsesUnsigned, digits_value, without_leading_plus}
use Rattle.std.specs.Result.{result_ok}
use Rattle.clap.specs.ValueTests.{is_unsigned_in}
use Rattle.clap.specs.Values.{IsUnsignedIn}
use Rattle.clap.specs.declared.builder.value_parser.ValueParser.TheVariants as vp
use Rattle.clap.proofs.ValueTestLemmas.{accepts-Accepts, Accepts-accepts}
use Rattle.join_words.specs.Found.{number_of}

-- what `parse` reads of a text, with its error left out, is the text's number of 64 bits, where it has one
pub number_parsed : {E : Type 0} (text : List ℕ) (parsed : Result ℕ E) → ParsesUnsigned 64 10 text parsed
    → result_ok parsed ≡ number_of text
number_parsed text (Ok v) parses =
    let low : 0 ≤ digits_value 10 (without_leading_plus text) = omega arith in
    let high : digits_value 10 (without_leading_plus text) ≤ 18446744073709551615 = omega (arith, parses.0.1) in
    let passes : IsUnsignedIn 0 18446744073709551615 text = (parses.0.0, parses.0.1, low, high) in
    let fits : is_unsigned_in 0 18446744073709551615 text ≡ true =
    Accepts-accepts false (vp.Unsigned 0 18446744073709551615) text passes in
    rw fits (ap (λ (n : ℕ). Some n) parses.1)
number_parsed text (Err e) parses = go (is_unsigned_in 0 18446744073709551615 text) refl
  where
    go : (b : Bool) → is_unsigned_in 0 18446744073709551615 text ≡ b → None ≡ number_of text
    go true e =
        let passes : IsUnsignedIn 0 18446744073709551615 text =
        accepts-Accepts false (vp.Unsigned 0 18446744073709551615) text e in
        absurd (parses (passes.0, passes.1))
    go false e = rw e refl

-- the number of a text that lies in bounds
number_in_bounds : (low high : ℕ) (text : List ℕ) → IsUnsignedIn low high text
    → (number_of text ≡ Some (digits_value 10 (without_leading_plus text)))
    × (low ≤ digits_value 10 (without_leading_plus text)) × (digits_value 10 (without_leading_plus text) ≤ high)
number_in_bounds low high text in_bounds =
    let low0 : 0 ≤ digits_value 10 (without_leading_plus text) = omega arith in
    let high0 : digits_value 10 (without_leading_plus text) ≤ 18446744073709551615 = omega (arith, in_bounds.1) in
    let passes : IsUnsignedIn 0 18446744073709551615 text = (in_bounds.0, in_bounds.1, low0, high0) in
    let fits : is_unsigned_in 0 18446744073709551615 text ≡ true =
    Accepts-accepts false (vp.Unsigned 0 18446744073709551615) text passes in
    (rw fits refl, in_bounds.2, in_bounds.3)

-- a number that is there or not, from a text that lies in bounds
pub number_between : (low high other : ℕ) (first : Option (List ℕ))
    → ((text : List ℕ) → first ≡ Some text → IsUnsignedIn low high text)
    → (low ≤ other) × (other ≤ high)
    → (low ≤ unwrap_or (option_and_then number_of first) other)
    × (unwrap_or (option_and_then number_of first) other ≤ high)
number_between low high other None each within = within
number_between low high other (Some text) each within =
    let number = number_in_bounds low high text (each text refl) in
    rw number.0 (number.1, number.2)

-- the same, where it is there
pub number_within : (low high : ℕ) (first : Option (List ℕ))
    → ((text : List ℕ) → first ≡ Some text → IsUnsignedIn low high text)
    → IfSome (option_and_then number_of first) (λ number. (low ≤ number) × (number ≤ high))
number_within low high None each = tt
number_within low high (Some text) each =
    let number = number_in_bounds low high text (each text refl) in
    rw number.0 (number.1, number.2)
