-- Where the lines of a report begin: no line behind the first begins as that one does.
use Rattle.std.proofs.Common.{◌≡◌, ◌≤◌, ◌<◌, ◌+◌, ◌-◌, ◌++◌, inl, inr, ℕ, zero, suc, List, [], ◌∷◌, All, refl, sym}
use Rattle.std.proofs.Common.{◌∙◌, ap}
use Rattle.std.proofs.Common.{subst, arith, true, eqb, eq-eqb, eqb-true, codes, get_or, drop, length, append_assoc}
use Rattle.std.proofs.Common.{get_or-drop, length-append}
use Rattle.std.proofs.Math.Seq.{drop-append_seam}
use Rattle.std.specs.List.{starts_with}
use Rattle.std.proofs.lemmas.Bool.{false≢true, and_parts, cases_lt}
use Rattle.std.proofs.lemmas.List.{get_or_at, get_or-append_right}
use Rattle.std.proofs.lemmas.List.Elements.{All-head, All-tail}
use Rattle.report_lines.specs.declared.report_numbers.Report.{Report}
use Rattle.report_lines.specs.Grids.{IsWhole}
use Rattle.report_lines.specs.Lines.{report_lines}
use Rattle.report_picture.specs.Texts.{AreLines, BeginsLine, MayBegin, EndsWithReport}
use Rattle.report_picture.specs.Reading.{Entry, Input, Grid, Grow, Final, Held, Blank, NumbersFit}
use Rattle.report_picture.specs.Reading.{line_of, text_of, IsReadable}
use Rattle.report_picture.proofs.Parted.{IsPlain, entry_plain}
use Rattle.report_picture.proofs.Folded.{entries_of, entries_behind}
use Rattle.report_picture.proofs.Entries.{IsBehind, behind_readable, report_text, report_behind}

-- no `i` stands behind a line feed
abbrev IsQuiet : List ℕ → Type 0
IsQuiet text = (k : ℕ) → get_or text k 0 ≡ 10 → get_or text (suc k) 0 ≡ 105 → ⊥

quiet_line : (line rest : List ℕ) → All IsPlain line → (get_or rest 0 0 ≡ 105 → ⊥) → IsQuiet rest
    → (k : ℕ) → get_or (line ++ 10 ∷ rest) k 0 ≡ 10 → get_or (line ++ 10 ∷ rest) (suc k) 0 ≡ 105 → ⊥
quiet_line [] rest plain first quiet zero feed letter = first letter
quiet_line [] rest plain first quiet (suc k) feed letter = quiet k feed letter
quiet_line (byte ∷ line) rest plain first quiet zero feed letter =
    false≢true (sym (All-head IsPlain byte line plain) ∙ eq-eqb byte 10 feed)
quiet_line (byte ∷ line) rest plain first quiet (suc k) feed letter =
    quiet_line line rest (All-tail IsPlain byte line plain) first quiet k feed letter

first_letter : (entry : Entry) (rest : List ℕ) → IsBehind entry → get_or (line_of entry ++ 10 ∷ rest) 0 0 ≡ 105 → ⊥
first_letter (Input x y) rest behind letter = behind
first_letter (Grid epoch step) rest behind letter = let g : ◌≡◌ {A = ℕ} 103 105 = letter in omega (arith, g)
first_letter (Grow growth) rest behind letter = let g : ◌≡◌ {A = ℕ} 103 105 = letter in omega (arith, g)
first_letter (Final n m copies best) rest behind letter = let f : ◌≡◌ {A = ℕ} 102 105 = letter in omega (arith, f)
first_letter (Held id joiner) rest behind letter = let j : ◌≡◌ {A = ℕ} 106 105 = letter in omega (arith, j)
first_letter Blank rest behind letter = let feed : ◌≡◌ {A = ℕ} 10 105 = letter in omega (arith, feed)

quiet_text : (entries : List Entry) → All IsBehind entries
    → IsQuiet (text_of entries) × (get_or (text_of entries) 0 0 ≡ 105 → ⊥)
quiet_text [] behind = (
  λ k feed letter. let none : ◌≡◌ {A = ℕ} 0 10 = feed in omega (arith, none),
  λ letter. let none : ◌≡◌ {A = ℕ} 0 105 = letter in omega (arith, none),
)
quiet_text (entry ∷ entries) behind =
    let rest = quiet_text entries (All-tail IsBehind entry entries behind) in
    let here = All-head IsBehind entry entries behind in
    let plain = entry_plain entry (behind_readable entry here) in
    subst (λ text. IsQuiet text × (get_or text 0 0 ≡ 105 → ⊥))
    (sym (append_assoc (line_of entry) (10 ∷ []) (text_of entries)))
    (quiet_line (line_of entry) (text_of entries) plain rest.1 rest.0, first_letter entry (text_of entries) here)

quiet_report : (x y : ℕ) (entries : List Entry) → IsReadable (Input x y) → All IsBehind entries
    → IsQuiet (text_of (Input x y ∷ entries))
quiet_report x y entries fits behind =
    let rest = quiet_text entries behind in
    subst IsQuiet (sym (append_assoc (line_of (Input x y)) (10 ∷ []) (text_of entries)))
    (quiet_line (line_of (Input x y)) (text_of entries) (entry_plain (Input x y) fits) rest.1 rest.0)

first_i : (text : List ℕ) → starts_with eqb text (codes "input ") ≡ true → get_or text 0 0 ≡ 105
first_i [] begins = absurd (false≢true begins)
first_i (byte ∷ text) begins = sym (eqb-true 105 byte (and_parts (eqb 105 byte) _ begins).0)

none_later : (before report : List ℕ) → IsQuiet report → (place : ℕ) → MayBegin (before ++ report) place
    → place ≤ length before
none_later before report quiet place may =
    elim (cases_lt (length before) place) [
      | inl past ↦
          let line : get_or (before ++ report) (place - 1) 0 ≡ 10 = may.line (omega (arith, past)) in
          let feed : get_or report (place - 1 - length before) 0 ≡ 10 =
          sym (get_or-append_right before report (length before) (place - 1) 0 refl (omega (arith, past))) ∙ line in
          let start : get_or (before ++ report) (place + 0) 0 ≡ 105 =
          sym (get_or-drop place (before ++ report) 0 0) ∙ first_i (drop place (before ++ report)) may.input in
          let there : suc (place - 1 - length before) ≡ place + 0 - length before = omega (arith, past) in
          let letter : get_or report (suc (place - 1 - length before)) 0 ≡ 105 =
          ap (λ i. get_or report i 0) there
          ∙ sym (get_or-append_right before report (length before) (place + 0) 0 refl (omega (arith, past))) ∙ start in
          absurd (quiet (place - 1 - length before) feed letter)
      | inr low ↦ low
    ]

behind_lines : (before report : List ℕ) → AreLines before → BeginsLine (before ++ report) (length before)
behind_lines before report lines = elim lines [
  | inl none ↦ λ some. absurd (omega (arith, ap length none, some))
  | inr front ↦ λ some.
      let long : length front.0 ≡ length before - 1 =
      omega (arith, ap length front.1, length-append front.0 (10 ∷ [])) in
      ap (λ text. get_or text (length before - 1) 0)
      (ap (λ text. text ++ report) front.1 ∙ append_assoc front.0 (10 ∷ []) report)
      ∙ get_or_at front.0 10 report 0 (length before - 1) long
]

may_begin : (before : List ℕ) (x y : ℕ) (entries : List Entry) → AreLines before
    → MayBegin (before ++ text_of (Input x y ∷ entries)) (length before)
may_begin before x y entries lines = record {
  line = behind_lines before (text_of (Input x y ∷ entries)) lines;
  input = ap (λ text. starts_with eqb text (codes "input "))
      (drop-append_seam before (text_of (Input x y ∷ entries)));
}

-- where the reader begins: there stands just the report, and a line begins
pub record BeginsThere (text : List ℕ) (start : ℕ) (report : Report) : Type 0 where
  pub rest : drop start text ≡ report_lines report
  pub line : BeginsLine text start

-- the last place at which a report may begin is that of a whole report behind some lines
pub begins_there : (text : List ℕ) (start : ℕ) (report : Report) → IsWhole report → NumbersFit report
    → EndsWithReport text report → ((place : ℕ) → MayBegin text place → place ≤ start)
    → ((place : ℕ) → MayBegin text place → start < length text) → (start < length text → MayBegin text start)
    → BeginsThere text start report
begins_there text start report whole fit ends last found there =
    let before = ends.before in
    let entries =
    entries_behind report.steps report.growth report.later report.n report.m report.copies report.best
    report.joiners in
    let whole_text : text ≡ before ++ text_of (entries_of report) =
    ends.joined ∙ ap (λ lines. before ++ lines) (report_text report) in
    let first : MayBegin text (length before) =
    subst (λ t. MayBegin t (length before)) (sym whole_text) (may_begin before report.x report.y entries ends.lines) in
    let starts : MayBegin text start = there (found (length before) first) in
    let low : start ≤ length before =
    none_later before (text_of (entries_of report))
    (quiet_report report.x report.y entries (fit.x, fit.y) (report_behind report whole fit)) start
    (subst (λ t. MayBegin t start) whole_text starts) in
    let same : start ≡ length before = omega (arith, low, last (length before) first) in
    record {
      rest = ap (λ place. drop place text) same ∙ ap (λ t. drop (length before) t) ends.joined
          ∙ drop-append_seam before (report_lines report);
      line = starts.line;
    }
