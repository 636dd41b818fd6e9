-- When a predicate is true of a row of R and a row of S.
use Rattle.std.specs.Prelude.{◌≡◌, ℕ, Bool, true, false, not, ◌&&◌, ◌||◌, List, length, ℤ, pos, Option, Some}
use Rattle.std.specs.Prelude.{option_map, unsigned_abs}
use Rattle.std.specs.Ordering.{is_eq, is_lt, is_gt, is_le, is_ge, int_cmp, nat_cmp}
use Rattle.std.specs.declared.cmp.Ordering.{Ordering}
use Rattle.std.specs.Cmp.Lexicographic.{slice_cmp}
use Rattle.row_cells.specs.declared.table.Cell.{Cell}
use Rattle.row_cells.specs.declared.table.Side.{Side}
use Rattle.theta_tree.specs.declared.tree.Op.{Op}
use Rattle.theta_tree.specs.declared.tree.Op.TheVariants.{Eq, Ne, Lt, Le, Gt, Ge}
use Rattle.theta_pred.specs.Formula.{Formula, any, every, negation, num, band, txt, Formulas, no_formula, formula}
use Rattle.theta_pred.specs.Formula.{Meaning}
use Rattle.theta_pred.specs.Sums.{of_side, sum_of, text_of}

-- whether a comparison lets its two sides stand in this order
abbrev pub allows : Op → Ordering → Bool
allows Eq order = is_eq order
allows Ne order = not (is_eq order)
allows Lt order = is_lt order
allows Le order = is_le order
allows Gt order = is_gt order
allows Ge order = is_ge order

-- whether two numbers compare so; false where one isn't there
abbrev pub compares : Op → Option ℤ → Option ℤ → Bool
compares op (Some x) (Some y) = allows op (int_cmp x y)
compares op _ _ = false

-- a number without its sign
abbrev pub size_of : ℤ → ℤ
size_of value = pos (unsigned_abs value)

abbrev mutual
  -- whether the formula is true of a row of R and a row of S
  pub is_true : List Cell → List Cell → Formula → Bool
  is_true r s (any fs) = some_is_true r s fs
  is_true r s (every fs) = each_is_true r s fs
  is_true r s (negation f) = not (is_true r s f)
  is_true r s (num left op right) = compares op (sum_of r s left) (sum_of r s right)
  is_true r s (band sum op bound) = compares op (option_map size_of (sum_of r s sum)) (Some bound)
  is_true r s (txt left op right) = allows op (slice_cmp nat_cmp (text_of r s left) (text_of r s right))

  -- whether some member is
  pub some_is_true : List Cell → List Cell → Formulas → Bool
  some_is_true r s no_formula = false
  some_is_true r s (formula f fs) = is_true r s f || some_is_true r s fs

  -- whether each member is
  pub each_is_true : List Cell → List Cell → Formulas → Bool
  each_is_true r s no_formula = true
  each_is_true r s (formula f fs) = is_true r s f && each_is_true r s fs

-- how many columns the rows of a side have
abbrev pub width_of : Meaning → Side → ℕ
width_of theta side = of_side theta.width_r theta.width_s side

-- the row has a cell for each column of its side
abbrev pub IsRowOf : Meaning → Side → List Cell → Type 0
IsRowOf theta side row = length row ≡ width_of theta side

-- whether the predicate is true of the two rows
abbrev pub holds : Meaning → List Cell → List Cell → Bool
holds theta r s = is_true r s theta.formula
