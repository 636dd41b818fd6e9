-- Which columns a predicate names, and its truth of a row where it names those of one side alone.
use Rattle.std.specs.Prelude.{Bool, false, ◌||◌, List, []}
use Rattle.row_cells.specs.declared.table.Cell.{Cell}
use Rattle.row_cells.specs.declared.table.Side.{Side}
use Rattle.theta_pred.specs.declared.tree.Text.{Text}
use Rattle.theta_pred.specs.declared.tree.Text.TheVariants as texts'
use Rattle.theta_pred.specs.Formula.{Formula, any, every, negation, num, band, txt, Formulas, no_formula, formula}
use Rattle.theta_pred.specs.Keys.{is_some_place, names_side}
use Rattle.theta_pred.specs.Numeric.{place_if_on}
use Rattle.theta_pred.specs.Sums.{of_side}
use Rattle.theta_pred.specs.Truth.{is_true}

-- whether a side of a test on texts is a column of this side
abbrev pub text_names : Side → Text → Bool
text_names side (texts'.Given bytes) = false
text_names side (texts'.Cell column) = is_some_place (place_if_on side column.side column.place)

abbrev mutual
  -- whether a predicate names a column of this side
  pub names : Side → Formula → Bool
  names side (any fs) = some_names side fs
  names side (every fs) = some_names side fs
  names side (negation f) = names side f
  names side (num left op right) = names_side side left || names_side side right
  names side (band sum op bound) = names_side side sum
  names side (txt left op right) = text_names side left || text_names side right

  -- whether some member does
  pub some_names : Side → Formulas → Bool
  some_names side no_formula = false
  some_names side (formula f fs) = names side f || some_names side fs

-- whether a predicate is true of a row of this side, with no row of the other beside it
abbrev pub is_true_alone : Side → List Cell → Formula → Bool
is_true_alone side row f = is_true (of_side row [] side) (of_side [] row side) f
