-- Where a line begins and ends a character does.
use Rattle.std.proofs.Common.{◌≡◌, ℕ, ◌+◌, ◌-◌, ◌<◌, ◌≤◌, List, length, get_or, reverse, false, sym, subst, inl, inr}
use Rattle.std.proofs.Common.{arith}
use Rattle.std.proofs.lemmas.Bool.Decides.{nat_tests}
use Rattle.std.proofs.Math.Nat.{eq-or-lt_of_le}
use Rattle.std.specs.List.{prefix_len, suffix_len}
use Rattle.std.specs.Str.{IsCharBoundary, IsUtf8}
use Rattle.std.proofs.lemmas.List.{get_or-reverse, length-reverse}
use Rattle.std.proofs.lemmas.List.Sums.{prefix_len_stops}
use Rattle.std.proofs.lemmas.Str.{IsCharBoundary-end, IsCharBoundary-before_ascii, IsCharBoundary-after_ascii}
use Rattle.std.proofs.lemmas.Str.{IsCharBoundary-start}
use Rattle.predicate_hints.specs.Pointing.{is_within_line}

-- LF and CR are ASCII
pub line_end_ascii : (b : ℕ) → is_within_line b ≡ false → b < 128
line_end_ascii b e = grind (arith, nat_tests)

-- the first line ends at a character's beginning, or where the text does
pub first_line_ends : (text : List ℕ) (n : ℕ) → n ≡ prefix_len is_within_line text → n ≤ length text
    → IsCharBoundary text n
first_line_ends text n e le = elim (eq-or-lt_of_le le) [
  | inl all ↦ subst (IsCharBoundary text) (sym all) (IsCharBoundary-end text)
  | inr lt ↦
      let within : prefix_len is_within_line text < length text = omega arith in
      let stops = prefix_len_stops is_within_line text 0 within in
      let here : is_within_line (get_or text n 0) ≡ false =
      subst (λ k. is_within_line (get_or text k 0) ≡ false) (sym e) stops in
      IsCharBoundary-before_ascii text n lt (line_end_ascii (get_or text n 0) here)
]

-- and the last line begins so
pub last_line_begins : (text : List ℕ) (n : ℕ) → IsUtf8 text → n ≡ suffix_len is_within_line text → n ≤ length text
    → IsCharBoundary text (length text - n)
last_line_begins text n utf8 e le = elim (eq-or-lt_of_le le) [
  | inl all ↦
      let none : 0 ≡ length text - n = omega arith in
      subst (IsCharBoundary text) none (IsCharBoundary-start text utf8)
  | inr lt ↦
      let same : length (reverse text) ≡ length text = length-reverse text in
      let within : prefix_len is_within_line (reverse text) < length (reverse text) = omega arith in
      let stops = prefix_len_stops is_within_line (reverse text) 0 within in
      let there : is_within_line (get_or (reverse text) n 0) ≡ false =
      subst (λ k. is_within_line (get_or (reverse text) k 0) ≡ false) (sym e) stops in
      let here : is_within_line (get_or text (length text - 1 - n) 0) ≡ false =
      subst (λ b. is_within_line b ≡ false) (get_or-reverse text n 0 lt) there in
      let next : length text - 1 - n + 1 ≡ length text - n = omega arith in
      let before : length text - 1 - n < length text = omega arith in
      subst (IsCharBoundary text) next
      (IsCharBoundary-after_ascii text (length text - 1 - n) utf8 before (line_end_ascii _ here))
]
