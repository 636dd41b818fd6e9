-- The columns whose cells are read as numbers: those that stand in a sum.
use Rattle.std.specs.Prelude.{ℕ, ◌<◌, ◌↔◌, List, [], ◌∷◌, ◌++◌, All, Contains}
use Rattle.std.specs.List.Sorted.{IsStrictlyIncreasing}
use Rattle.row_cells.specs.declared.table.Side.{Side}
use Rattle.row_cells.specs.declared.table.Side.TheVariants.{R, S}
use Rattle.theta_pred.specs.declared.tree.SignedTerm.{SignedTerm}
use Rattle.theta_pred.specs.declared.tree.Number.{Number}
use Rattle.theta_pred.specs.declared.tree.Number.TheVariants.{Given, Cell}
use Rattle.theta_pred.specs.Sound.{IsSound}
use Rattle.theta_pred.specs.Formula.{Formula, any, every, negation, num, band, txt, Formulas, no_formula, formula}

-- the place, where the two sides are one
abbrev pub place_if_on : Side → Side → ℕ → List ℕ
place_if_on R R place = place ∷ []
place_if_on S S place = place ∷ []
place_if_on _ _ place = []

-- the place of a term's column, where it is one of this side
abbrev pub number_places : Side → Number → List ℕ
number_places side (Given value) = []
number_places side (Cell column) = place_if_on side column.side column.place

-- the places of a side's columns in a sum, in the order of writing
abbrev pub term_places : Side → List SignedTerm → List ℕ
term_places side [] = []
term_places side (term ∷ terms) = number_places side term.number ++ term_places side terms

-- the places of a side's columns in all sums, in the order of writing
abbrev mutual
  pub sum_places : Side → Formula → List ℕ
  sum_places side (any fs) = all_sum_places side fs
  sum_places side (every fs) = all_sum_places side fs
  sum_places side (negation f) = sum_places side f
  sum_places side (num left op right) = term_places side left ++ term_places side right
  sum_places side (band sum op bound) = term_places side sum
  sum_places side (txt left op right) = []

  -- and in those of all members
  pub all_sum_places : Side → Formulas → List ℕ
  all_sum_places side no_formula = []
  all_sum_places side (formula f fs) = sum_places side f ++ all_sum_places side fs

-- these are the places of the side's columns that stand in a sum, rising, each once, and below the width
pub record AreNumeric (formula : Formula) (side : Side) (width : ℕ) (places : List ℕ) : Type 0 where
  pub rising : IsStrictlyIncreasing places
  pub standing : (place : ℕ) → Contains places place ↔ Contains (sum_places side formula) place
  pub within : All (λ place. place < width) places

-- What a predicate keeps: sums of columns that are there, and beside them the numeric columns.
pub record IsWhole (formula : Formula) (width_r width_s : ℕ) (numeric_r numeric_s : List ℕ) : Type 0 where
  pub sound : IsSound width_r width_s formula
  pub in_r : AreNumeric formula R width_r numeric_r
  pub in_s : AreNumeric formula S width_s numeric_s
