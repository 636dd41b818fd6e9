-- What every predicate keeps: its columns lie in the headers, and its sums are short.
use Rattle.std.specs.Prelude.{ℕ, ◌<◌, ◌≤◌, List, [], ◌∷◌, length, ⊤}
use Rattle.theta_pred.specs.Formula.{Formula, any, every, negation, num, band, txt, Formulas, no_formula, formula}
use Rattle.theta_pred.specs.Sums.{of_side}
use Rattle.theta_pred.specs.declared.tree.Column.{Column}
use Rattle.theta_pred.specs.declared.tree.SignedTerm.{SignedTerm}
use Rattle.theta_pred.specs.declared.tree.Number.{Number}
use Rattle.theta_pred.specs.declared.tree.Number.TheVariants as numbers
use Rattle.theta_pred.specs.declared.tree.Text.{Text}
use Rattle.theta_pred.specs.declared.tree.Text.TheVariants as texts

-- the column's place is below its header's width
abbrev pub IsWithin : ℕ → ℕ → Column → Type 0
IsWithin width_r width_s column = column.place < of_side width_r width_s column.side

-- the same of a term, where it is a column
abbrev pub IsNumberWithin : ℕ → ℕ → Number → Type 0
IsNumberWithin width_r width_s (numbers.Given value) = ⊤
IsNumberWithin width_r width_s (numbers.Cell column) = IsWithin width_r width_s column

-- the same of a side of a test on texts, where it is a column
abbrev pub IsTextWithin : ℕ → ℕ → Text → Type 0
IsTextWithin width_r width_s (texts.Given bytes) = ⊤
IsTextWithin width_r width_s (texts.Cell column) = IsWithin width_r width_s column

-- the same of each term of a sum
abbrev pub AreWithin : ℕ → ℕ → List SignedTerm → Type 0
AreWithin width_r width_s [] = ⊤
AreWithin width_r width_s (term ∷ terms) = IsNumberWithin width_r width_s term.number × AreWithin width_r width_s terms

-- a sum that i128 holds, of columns that are there
pub record IsSum (width_r width_s : ℕ) (terms : List SignedTerm) : Type 0 where
  pub short : length terms ≤ 16
  pub within : AreWithin width_r width_s terms

abbrev mutual
  -- each sum of the formula is one that i128 holds, and each column is there
  pub IsSound : ℕ → ℕ → Formula → Type 0
  IsSound width_r width_s (any fs) = AreSound width_r width_s fs
  IsSound width_r width_s (every fs) = AreSound width_r width_s fs
  IsSound width_r width_s (negation f) = IsSound width_r width_s f
  IsSound width_r width_s (num left op right) = IsSum width_r width_s left × IsSum width_r width_s right
  IsSound width_r width_s (band sum op bound) = IsSum width_r width_s sum
  IsSound width_r width_s (txt left op right) = IsTextWithin width_r width_s left × IsTextWithin width_r width_s right

  -- the same of each member
  pub AreSound : ℕ → ℕ → Formulas → Type 0
  AreSound width_r width_s no_formula = ⊤
  AreSound width_r width_s (formula f fs) = IsSound width_r width_s f × AreSound width_r width_s fs
