-- Where a report stands in a text.
use Rattle.std.specs.Prelude.{◌≡◌, ◌<◌, ◌-◌, ◌==◌, ◌++◌, ◌⊎◌, ℕ, IsTrue, List, [], ◌∷◌, eqb, get_or, drop, count_by}
use Rattle.std.specs.Prelude.{codes}
use Rattle.std.specs.List.{slice_split, starts_with}
use Rattle.report_lines.specs.declared.report_numbers.Report.{Report}
use Rattle.report_lines.specs.Lines.{report_lines}

-- lines that end with line feeds, or nothing
abbrev pub AreLines : List ℕ → Type 0
AreLines text = (text ≡ []) ⊎ ((front : List ℕ) × (text ≡ front ++ 10 ∷ []))

-- how many line feeds a text has
abbrev pub feeds_in : List ℕ → ℕ
feeds_in text = count_by (λ byte. byte == 10) text

-- some lines, and then just this text
pub record EndsWith (text end : List ℕ) : Type 0 where
  pub before : List ℕ
  pub lines : AreLines before
  pub joined : text ≡ before ++ end

-- some lines, and then just the lines of this report
abbrev pub EndsWithReport : List ℕ → Report → Type 0
EndsWithReport text report = EndsWith text (report_lines report)

-- a line begins at this place of a text
abbrev pub BeginsLine : List ℕ → ℕ → Type 0
BeginsLine text place = 0 < place → get_or text (place - 1) 0 ≡ 10

-- a line begins at this place with `input `, so a report may begin there
pub record MayBegin (text : List ℕ) (place : ℕ) : Type 0 where
  pub line : BeginsLine text place
  pub input : IsTrue (starts_with eqb (drop place text) (codes "input "))

-- the words of a line, parted by spaces
abbrev pub words_in : List ℕ → List (List ℕ)
words_in line = slice_split (λ byte. byte == 32) line
