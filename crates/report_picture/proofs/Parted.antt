-- Lines parted into their words, and a text into its lines.
use Rattle.std.proofs.Common.{◌≡◌, ◌≤◌, ◌<◌, ◌+◌, ◌^◌, ◌%◌, ◌++◌, ℕ, List, [], ◌∷◌, All, refl, ◌∙◌, ap, arith}
use Rattle.std.proofs.Common.{true, false, eqb, leb, ne_eqb, leb-true, append_assoc, map, codes}
use Rattle.std.specs.List.{slice_split, join_with_byte, list_all}
use Rattle.std.specs.Fmt.{decimal}
use Rattle.std.proofs.lemmas.Bool.{and_parts}
use Rattle.std.proofs.lemmas.Fmt.{decimal_by_steps}
use Rattle.std.proofs.lemmas.List.Elements.{All-nil, All-cons, All-push, All-append, All-weaker, All-head, All-tail}
use Rattle.std.proofs.lemmas.List.Splits.{slice_split_none, slice_split_at}
use Rattle.report_lines.specs.Grids.{IsSide}
use Rattle.report_picture.specs.Texts.{words_in}
use Rattle.report_picture.specs.Reading.{Entry, Input, Grid, Grow, Final, Held, Blank}
use Rattle.report_picture.specs.Reading.{words_of, line_of, text_of, IsReadable}

-- a byte that is a digit, or stands behind the digits as letters do, so no space and no line feed
abbrev pub IsHigh : ℕ → Type 0
IsHigh byte = 48 ≤ byte

-- such bytes alone in each word
abbrev pub AreHigh : List (List ℕ) → Type 0
AreHigh [] = Unit {0}
AreHigh (word ∷ words) = All IsHigh word × AreHigh words

-- and one word or more
abbrev pub AreWords : List (List ℕ) → Type 0
AreWords [] = ⊥
AreWords (word ∷ words) = All IsHigh word × AreHigh words

-- no line feed
abbrev pub IsPlain : ℕ → Type 0
IsPlain byte = eqb byte 10 ≡ false

-- no byte of a number is a space
number_high : (n : ℕ) → n < 2 ^ 64 → All IsHigh (decimal n)
number_high n small =
    decimal_by_steps (λ m digits. All IsHigh digits)
    (λ m low. All-cons IsHigh (48 + m) [] (omega arith) (All-nil IsHigh))
    (λ m digits high front. All-push IsHigh digits (48 + m % 10) front (omega arith))
    n small

side_high : (n : ℕ) → IsSide n → All IsHigh (decimal n)
side_high n side = number_high n (omega (arith, side.1))

word_high : (word : List ℕ) → list_all (λ byte. leb 48 byte) word ≡ true → All IsHigh word
word_high [] test = All-nil IsHigh
word_high (byte ∷ word) test =
    let both = and_parts (leb 48 byte) (list_all (λ b. leb 48 b) word) test in
    All-cons IsHigh byte word (leb-true 48 byte both.0) (word_high word both.1)

none_below : (low : ℕ) → low < 48 → (word : List ℕ) → All IsHigh word → All (λ byte. eqb byte low ≡ false) word
none_below low small word high =
    All-weaker IsHigh (λ byte. eqb byte low ≡ false)
    (λ byte above. ne_eqb byte low (λ same. omega (arith, above, same, small))) word high

words_joined : (word : List ℕ) (words : List (List ℕ)) → All IsHigh word → AreHigh words
    → slice_split (λ byte. eqb byte 32) (join_with_byte 32 (word ∷ words)) ≡ word ∷ words
words_joined word [] high all = slice_split_none (λ byte. eqb byte 32) word (none_below 32 (omega arith) word high)
words_joined word (next ∷ words) high all =
    slice_split_at (λ byte. eqb byte 32) word 32 (join_with_byte 32 (next ∷ words))
    (none_below 32 (omega arith) word high) refl
    ∙ ap (λ rest. word ∷ rest) (words_joined next words all.0 all.1)

words_parted : (words : List (List ℕ)) → AreWords words
    → slice_split (λ byte. eqb byte 32) (join_with_byte 32 words) ≡ words
words_parted [] high = absurd high
words_parted (word ∷ words) high = words_joined word words high.0 high.1

plain_joined : (word : List ℕ) (words : List (List ℕ)) → All IsHigh word → AreHigh words
    → All IsPlain (join_with_byte 32 (word ∷ words))
plain_joined word [] high all = none_below 10 (omega arith) word high
plain_joined word (next ∷ words) high all =
    All-append IsPlain word (32 ∷ join_with_byte 32 (next ∷ words)) (none_below 10 (omega arith) word high)
    (All-cons IsPlain 32 (join_with_byte 32 (next ∷ words)) refl (plain_joined next words all.0 all.1))

plain_words : (words : List (List ℕ)) → AreWords words → All IsPlain (join_with_byte 32 words)
plain_words [] high = absurd high
plain_words (word ∷ words) high = plain_joined word words high.0 high.1

entry_high : (entry : Entry) → IsReadable entry → AreWords (words_of entry)
entry_high (Input x y) fits = (word_high (codes "input") refl, (number_high x fits.0, (number_high y fits.1, tt)))
entry_high (Grid epoch step) fits = (
  word_high (codes "grid") refl,
  (
    number_high epoch fits.0,
    (
      side_high step.n fits.1.0,
      (
        side_high step.m fits.1.1,
        (word_high (codes "moved") refl, (number_high step.moved fits.2, tt)),
      ),
    ),
  ),
)
entry_high (Grow growth) fits = (
  word_high (codes "grow") refl,
  (
    side_high growth.n fits.0.0,
    (
      side_high growth.m fits.0.1,
      (word_high (codes "placed") refl, (number_high growth.placed fits.1, tt)),
    ),
  ),
)
entry_high (Final n m copies best) fits = (
  word_high (codes "final") refl,
  (
    side_high n fits.0,
    (
      side_high m fits.1,
      (
        word_high (codes "copies") refl,
        (
          number_high copies fits.2,
          (word_high (codes "best") refl, (number_high best fits.3, tt)),
        ),
      ),
    ),
  ),
)
entry_high (Held id joiner) fits = (
  word_high (codes "joiner") refl,
  (
    number_high id fits.0,
    (
      word_high (codes "held") refl,
      (
        number_high joiner.rows_r fits.1.0,
        (
          number_high joiner.rows_s fits.1.1,
          (word_high (codes "made") refl, (number_high joiner.made fits.1.2, tt)),
        ),
      ),
    ),
  ),
)
entry_high Blank fits = (All-nil IsHigh, tt)

-- the words of a line are those of the entry that it writes
pub entry_words : (entry : Entry) (line : List ℕ) → IsReadable entry → line ≡ line_of entry
    → words_in line ≡ words_of entry
entry_words entry line fits is = ap words_in is ∙ words_parted (words_of entry) (entry_high entry fits)

-- no line feed stands within the line of an entry
pub entry_plain : (entry : Entry) → IsReadable entry → All IsPlain (line_of entry)
entry_plain entry fits = plain_words (words_of entry) (entry_high entry fits)

-- a text parted at its line feeds has the lines of its entries, and nothing behind the last feed
pub lines_parted : (entries : List Entry) → All IsReadable entries
    → slice_split (λ byte. eqb byte 10) (text_of entries) ≡ map line_of (entries ++ Blank ∷ [])
lines_parted [] fit = refl
lines_parted (entry ∷ entries) fit =
    ap (slice_split (λ byte. eqb byte 10)) (append_assoc (line_of entry) (10 ∷ []) (text_of entries))
    ∙ slice_split_at (λ byte. eqb byte 10) (line_of entry) 10 (text_of entries)
    (entry_plain entry (All-head IsReadable entry entries fit)) refl
    ∙ ap (λ lines. line_of entry ∷ lines) (lines_parted entries (All-tail IsReadable entry entries fit))
