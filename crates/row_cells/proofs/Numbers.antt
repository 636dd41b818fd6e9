-- Which texts write a number.
use Rattle.std.proofs.Common.{◌≡◌, ◌≢◌, ◌<◌, ◌+◌, ◌-◌, ◌^◌, ◌∙◌, ◌&&◌, ◌==◌, ℕ, ℤ, zero, suc, pos, negsuc, Bool, true}
use Rattle.std.proofs.Common.{false, List, [], ◌∷◌, ◌++◌, length, take, drop, refl, sym, ap, arith, Option, None, Some}
use Rattle.std.proofs.Common.{Result, Ok, Err, nat_lt, subst}
use Rattle.std.specs.Char.{digit_value}
use Rattle.std.specs.Int.{w64}
use Rattle.std.specs.List.{AllByRecursion, list_all}
use Rattle.std.specs.Prelude.{FitsSigned, if◌then◌else◌}
use Rattle.std.specs.Result.{result_ok}
use Rattle.std.specs.Str.{IsAscii, IsUtf8}
use Rattle.std.specs.Str.Parse.{AllDigits, IsNumeral, ParsesSigned, signed_digits_value, without_leading_sign}
use Rattle.std.proofs.Math.Seq.{drop-append_seam, take-append_seam}
use Rattle.std.proofs.lemmas.List.{append-nil, append_assoc, take-append-drop, take_all, length-drop}
use Rattle.std.proofs.lemmas.Str.{IsUtf8-from_ascii}
use Rattle.std.proofs.lemmas.Str.Parse.{digit_from_value}
use Rattle.row_cells.specs.Numbers.{IsNumber, IsSpaces, fits_i64, is_numeral, is_space, number_of, others_at, spaces_at}

-- the bytes of a numeral are ASCII and no spaces
abbrev Plain : ℕ → Type 0
Plain byte = (byte < 128) × (is_space byte ≡ false)

plain_digit : (c : ℕ) → digit_value c < 10 → Plain c
plain_digit c h = let r = digit_from_value c h in (omega (arith, r), grind (arith, r))

plain_digits : (ds : List ℕ) → AllDigits 10 ds → AllByRecursion Plain ds
plain_digits [] h = tt
plain_digits (c ∷ ds) h = (plain_digit c h.0, plain_digits ds h.1)

-- a numeral with or without a sign isn't empty, and its bytes are ASCII and no spaces
pub plain_numeral : (numeral : List ℕ) → IsNumeral 10 (without_leading_sign numeral) → (0 < length numeral)
    × AllByRecursion Plain numeral
plain_numeral [] h = absurd (omega (arith, h.0))
plain_numeral (c ∷ cs) h = (omega arith, by (c == 45) (c == 43) refl refl h)
  where
    by : (minus plus : Bool) → (c == 45) ≡ minus → (c == 43) ≡ plus → IsNumeral 10 (without_leading_sign (c ∷ cs))
        → AllByRecursion Plain (c ∷ cs)
    by true plus m p h = let d = rw m at h in ((grind (arith, m), grind (arith, m)), plain_digits cs d.1)
    by false true m p h = let d = rw (m, p) at h in ((grind (arith, p), grind (arith, p)), plain_digits cs d.1)
    by false false m p h = let d = rw (m, p) at h in plain_digits (c ∷ cs) d.1

plain_ascii : (bs : List ℕ) → AllByRecursion Plain bs → IsAscii bs
plain_ascii [] h i = omega arith
plain_ascii (b ∷ bs) h zero = h.0.0
plain_ascii (b ∷ bs) h (suc i) = plain_ascii bs h.1 i

-- a text that isn't UTF-8 writes no number
pub numeral-utf8 : (numeral : List ℕ) → IsNumeral 10 (without_leading_sign numeral) → IsUtf8 numeral
numeral-utf8 numeral h = IsUtf8-from_ascii numeral (plain_ascii numeral (plain_numeral numeral h).1)

-- digits, as they are tested
digits_test : (ds : List ℕ) → list_all (λ byte. nat_lt (digit_value byte) 10) ds ≡ true → AllDigits 10 ds
digits_test [] h = tt
digits_test (c ∷ ds) h = (grind (arith, h), digits_test ds (grind (arith, h)))

digits_tested : (ds : List ℕ) → AllDigits 10 ds → list_all (λ byte. nat_lt (digit_value byte) 10) ds ≡ true
digits_tested [] h = refl
digits_tested (c ∷ ds) h = let t : nat_lt (digit_value c) 10 ≡ true = grind (arith, h.0) in rw t (digits_tested ds h.1)

numeral_test : (ds : List ℕ) → is_numeral ds ≡ true → IsNumeral 10 ds
numeral_test ds h = (grind (arith, h), digits_test ds (grind (arith, h)))

numeral_tested : (ds : List ℕ) → IsNumeral 10 ds → is_numeral ds ≡ true
numeral_tested ds h = let t : nat_lt 0 (length ds) ≡ true = grind (arith, h.0) in rw t (digits_tested ds h.1)

fits_test : (z : ℤ) → fits_i64 z ≡ true → FitsSigned w64 z
fits_test (pos n) h = record { sfits = let few : n < 2 ^ 63 = grind (arith, h) in few }
fits_test (negsuc n) h = record { sfits = let few : n < 2 ^ 63 = grind (arith, h) in few }

fits_tested : (z : ℤ) → FitsSigned w64 z → fits_i64 z ≡ true
fits_tested (pos n) h = let few : n < 2 ^ 63 = h.sfits in grind (arith, few)
fits_tested (negsuc n) h = let few : n < 2 ^ 63 = h.sfits in grind (arith, few)

-- spaces, as they are counted
spaces_front : (xs : List ℕ) → IsSpaces (take (spaces_at xs) xs)
spaces_front [] = tt
spaces_front (x ∷ xs) = by (is_space x) refl (spaces_front xs)
  where
    by : (b : Bool) → is_space x ≡ b → IsSpaces (take (spaces_at xs) xs) → IsSpaces (take (spaces_at (x ∷ xs)) (x ∷ xs))
    by true e more =
        let here : x ≡ 32 = grind (arith, e) in
        let size : 1 + spaces_at xs ≡ suc (spaces_at xs) = omega arith in
        rw (e, size) (here, more)
    by false e more = rw e tt

spaces_whole : (xs : List ℕ) → spaces_at xs ≡ length xs → IsSpaces xs
spaces_whole xs h = subst IsSpaces (ap (λ n. take n xs) h ∙ take_all (length xs) xs (omega arith)) (spaces_front xs)

spaces_counted : (xs ys : List ℕ) → IsSpaces xs → spaces_at (xs ++ ys) ≡ length xs + spaces_at ys
spaces_counted [] ys h = omega arith
spaces_counted (x ∷ xs) ys h = let t : is_space x ≡ true = grind (arith, h.0) in
    rw t (omega (arith, spaces_counted xs ys h.1))

spaces_none : (xs ys : List ℕ) → 0 < length xs → AllByRecursion Plain xs → spaces_at (xs ++ ys) ≡ 0
spaces_none [] ys n h = absurd (omega (arith, n))
spaces_none (x ∷ xs) ys n h = rw h.0.1 refl

others_counted : (xs ys : List ℕ) → AllByRecursion Plain xs → others_at (xs ++ ys) ≡ length xs + others_at ys
others_counted [] ys h = omega arith
others_counted (x ∷ xs) ys h = rw h.0.1 (omega (arith, others_counted xs ys h.1))

others_none : (xs : List ℕ) → IsSpaces xs → others_at xs ≡ 0
others_none [] h = refl
others_none (x ∷ xs) h = let t : is_space x ≡ true = grind (arith, h.0) in rw t refl

-- whether the three parts are a number
abbrev reads : List ℕ → List ℕ → Bool
reads numeral after = (spaces_at after == length after) && is_numeral (without_leading_sign numeral)
    && fits_i64 (signed_digits_value 10 numeral)

abbrev number_if : Bool → List ℕ → Option ℤ
number_if b numeral = if b then Some (signed_digits_value 10 numeral) else None

number_of-parts : (text : List ℕ) → number_of text ≡ (let rest = drop (spaces_at text) text in
    number_if (reads (take (others_at rest) rest) (drop (others_at rest) rest)) (take (others_at rest) rest))
unfolding number_of
number_of-parts text = refl

parts_are : (text rest numeral after : List ℕ) → rest ≡ drop (spaces_at text) text
    → numeral ≡ take (others_at rest) rest → after ≡ drop (others_at rest) rest
    → number_of text ≡ number_if (reads numeral after) numeral
parts_are text rest numeral after er en ea = rw (en, ea, er) (number_of-parts text)

reads_test : (numeral after : List ℕ) → reads numeral after ≡ true
    → (spaces_at after ≡ length after) × IsNumeral 10 (without_leading_sign numeral)
    × FitsSigned w64 (signed_digits_value 10 numeral)
reads_test numeral after h =
    let spaces : Bool = spaces_at after == length after in
    let digits : Bool = is_numeral (without_leading_sign numeral) in
    let front : (spaces && digits) ≡ true =
    cut_left (spaces && digits) (fits_i64 (signed_digits_value 10 numeral)) h in (
      grind (arith, cut_left spaces digits front),
      numeral_test (without_leading_sign numeral) (cut_right spaces digits front),
      fits_test (signed_digits_value 10 numeral) (cut_right (spaces && digits)
          (fits_i64 (signed_digits_value 10 numeral)) h),
    )
  where
    cut_left : (a b : Bool) → (a && b) ≡ true → a ≡ true
    cut_left true b h = refl
    cut_left false b h = cc h

    cut_right : (a b : Bool) → (a && b) ≡ true → b ≡ true
    cut_right true b h = h
    cut_right false b h = cc h

reads_tested : (numeral after : List ℕ) → spaces_at after ≡ length after → IsNumeral 10 (without_leading_sign numeral)
    → FitsSigned w64 (signed_digits_value 10 numeral)
    → reads numeral after ≡ true
reads_tested numeral after s d f =
    let spaces : (spaces_at after == length after) ≡ true = grind (arith, s) in
    rw (spaces, numeral_tested (without_leading_sign numeral) d, fits_tested (signed_digits_value 10 numeral) f) refl

not_read : (numeral after : List ℕ) → (reads numeral after ≡ true → ⊥) → reads numeral after ≡ false
not_read numeral after never = by (reads numeral after) refl
  where
    by : (b : Bool) → reads numeral after ≡ b → reads numeral after ≡ false
    by true e = absurd (never e)
    by false e = e

-- the three ways in which a text is refused or read

-- refused: behind the bytes up to the next space stand other bytes than spaces
pub number-unspaced : (text rest numeral after : List ℕ) → rest ≡ drop (spaces_at text) text
    → numeral ≡ take (others_at rest) rest → after ≡ drop (others_at rest) rest
    → spaces_at after ≢ length after → None ≡ number_of text
number-unspaced text rest numeral after er en ea other =
    let no = not_read numeral after (λ yes. other (reads_test numeral after yes).0) in
    sym (parts_are text rest numeral after er en ea ∙ ap (λ (b : Bool). number_if b numeral) no)

-- refused: the bytes up to the next space aren't UTF-8
pub number-strange : (text rest numeral after : List ℕ) → rest ≡ drop (spaces_at text) text
    → numeral ≡ take (others_at rest) rest → after ≡ drop (others_at rest) rest
    → ¬ (IsUtf8 numeral) → None ≡ number_of text
number-strange text rest numeral after er en ea strange =
    let no = not_read numeral after (λ yes. strange (numeral-utf8 numeral (reads_test numeral after yes).1)) in
    sym (parts_are text rest numeral after er en ea ∙ ap (λ (b : Bool). number_if b numeral) no)

-- read or refused: with spaces alone behind them, it is what a parser of i64 makes of those bytes
pub number-parsed : {E : Type 0} (text rest numeral after : List ℕ) (r : Result ℤ E) → rest ≡ drop (spaces_at text) text
    → numeral ≡ take (others_at rest) rest → after ≡ drop (others_at rest) rest
    → spaces_at after ≡ length after → ParsesSigned w64 10 numeral r → result_ok r ≡ number_of text
number-parsed text rest numeral after (Ok x) er en ea spaces h =
    let yes = reads_tested numeral after spaces h.0.0 h.0.1 in
    let value : Some x ≡ number_if true numeral = ap (λ (z : ℤ). Some z) h.1 in
    value ∙ sym (parts_are text rest numeral after er en ea ∙ ap (λ (b : Bool). number_if b numeral) yes)
number-parsed text rest numeral after (Err e) er en ea spaces h =
    let no = not_read numeral after (λ yes. let t = reads_test numeral after yes in h (t.1, t.2)) in
    sym (parts_are text rest numeral after er en ea ∙ ap (λ (b : Bool). number_if b numeral) no)

-- the number of a text is the one that it writes
number_if-some : (b : Bool) (numeral : List ℕ) (number : ℤ) → number_if b numeral ≡ Some number → (b ≡ true)
    × (number ≡ signed_digits_value 10 numeral)
number_if-some true numeral number h = (refl, cc h)
number_if-some false numeral number h = cc h

-- a number that is read off a text is one that the text writes
pub number_of-writes : (text : List ℕ) (number : ℤ) → number_of text ≡ Some number → IsNumber text number
number_of-writes text number h =
    let rest : List ℕ = drop (spaces_at text) text in
    let numeral : List ℕ = take (others_at rest) rest in
    let after : List ℕ = drop (others_at rest) rest in
    let some = number_if-some (reads numeral after) numeral number (sym (number_of-parts text) ∙ h) in
    let t = reads_test numeral after some.0 in
    record {
      before = take (spaces_at text) text;
      numeral = numeral;
      after = after;
      joined = sym (append_assoc (take (spaces_at text) text) numeral after
          ∙ ap (λ (xs : List ℕ). take (spaces_at text) text ++ xs) (take-append-drop (others_at rest) rest)
          ∙ take-append-drop (spaces_at text) text);
      spaces_before = spaces_front text;
      spaces_after = spaces_whole after t.0;
      digits = t.1;
      value = some.1;
      fits = rw some.1 t.2;
    }

-- and a number that a text writes is read off it
pub number_of-written : (text : List ℕ) (number : ℤ) → IsNumber text number → number_of text ≡ Some number
number_of-written text number is =
    let plain = plain_numeral is.numeral is.digits in
    let joined = is.joined ∙ append_assoc is.before is.numeral is.after in
    let spaces : spaces_at text ≡ length is.before = ap spaces_at joined
    ∙ spaces_counted is.before (is.numeral ++ is.after) is.spaces_before ∙ omega (
      arith,
      spaces_none is.numeral is.after plain.0 plain.1,
    ) in
    let rest : is.numeral ++ is.after ≡ drop (spaces_at text) text =
    sym (ap (λ (n : ℕ). drop n text) spaces ∙ ap (drop (length is.before)) joined
    ∙ drop-append_seam is.before (is.numeral ++ is.after)) in
    let others : others_at (is.numeral ++ is.after) ≡ length is.numeral =
    others_counted is.numeral is.after plain.1 ∙ omega (arith, others_none is.after is.spaces_after) in
    let numeral : is.numeral ≡ take (others_at (is.numeral ++ is.after)) (is.numeral ++ is.after) =
    rw others (sym (take-append_seam is.numeral is.after)) in
    let after : is.after ≡ drop (others_at (is.numeral ++ is.after)) (is.numeral ++ is.after) =
    rw others (sym (drop-append_seam is.numeral is.after)) in
    let counted : spaces_at is.after ≡ length is.after = sym (ap spaces_at (append-nil is.after))
    ∙ spaces_counted is.after [] is.spaces_after ∙ omega arith in
    let yes = reads_tested is.numeral is.after counted is.digits (rw is.value at is.fits) in
    parts_are text (is.numeral ++ is.after) is.numeral is.after rest numeral after
    ∙ ap (λ (b : Bool). number_if b is.numeral) yes ∙ ap (λ (z : ℤ). Some z) (sym is.value)

-- the parts of a text, as they are cut out
pub cut-drop : (n : ℕ) (xs : List ℕ) → take (length xs - n) (drop n xs) ≡ drop n xs
cut-drop n xs = take_all (length xs - n) (drop n xs) (omega (arith, length-drop n xs))

-- the bytes from a place on, as a slice has them
abbrev pub cut_from : ℕ → List ℕ → List ℕ
cut_from n xs = take (length xs - n) (drop n xs)

rest_is : (text : List ℕ) (p : ℕ) → p ≡ spaces_at text → cut_from p text ≡ drop (spaces_at text) text
rest_is text p e = rw e (cut-drop (spaces_at text) text)

after_is : (rest : List ℕ) (size : ℕ) → size ≡ others_at rest → cut_from size rest ≡ drop (others_at rest) rest
after_is rest size e = rw e (cut-drop (others_at rest) rest)

-- the same three ways, of slices: other bytes than spaces stand behind the numeral
pub unspaced-cut : (text : List ℕ) (p size : ℕ) → p ≡ spaces_at text → size ≡ others_at (cut_from p text)
    → spaces_at (cut_from size (cut_from p text)) ≢ length (cut_from size (cut_from p text)) → None ≡ number_of text
unspaced-cut text p size ep es other =
    number-unspaced text (cut_from p text) (take size (cut_from p text)) (cut_from size (cut_from p text))
    (rest_is text p ep) (ap (λ (n : ℕ). take n (cut_from p text)) es) (after_is (cut_from p text) size es) other

-- or the numeral isn't UTF-8
pub strange-cut : (text : List ℕ) (p size : ℕ) → p ≡ spaces_at text → size ≡ others_at (cut_from p text)
    → ¬ (IsUtf8 (take size (cut_from p text))) → None ≡ number_of text
strange-cut text p size ep es strange =
    number-strange text (cut_from p text) (take size (cut_from p text)) (cut_from size (cut_from p text))
    (rest_is text p ep) (ap (λ (n : ℕ). take n (cut_from p text)) es) (after_is (cut_from p text) size es) strange

-- or it is parsed, with spaces alone behind it
pub parsed-cut : {E : Type 0} (text : List ℕ) (p size : ℕ) (r : Result ℤ E) → p ≡ spaces_at text
    → size ≡ others_at (cut_from p text)
    → spaces_at (cut_from size (cut_from p text)) ≡ length (cut_from size (cut_from p text))
    → ParsesSigned w64 10 (take size (cut_from p text)) r → result_ok r ≡ number_of text
parsed-cut text p size r ep es spaces parses =
    number-parsed text (cut_from p text) (take size (cut_from p text)) (cut_from size (cut_from p text)) r
    (rest_is text p ep) (ap (λ (n : ℕ). take n (cut_from p text)) es) (after_is (cut_from p text) size es)
    spaces parses
