-- Whether a predicate says no more than the agreements of its access.
use Rattle.std.specs.Prelude.{Bool, true, false, not, ◌&&◌, ◌||◌, is_some}
use Rattle.theta_tree.specs.declared.tree.Op.TheVariants.{Eq}
use Rattle.row_cells.specs.declared.table.Side.TheVariants.{R, S}
use Rattle.theta_pred.specs.declared.tree.Text.TheVariants as texts'
use Rattle.theta_pred.specs.Formula.{Formula, every, num, txt, Formulas, no_formula, formula}
use Rattle.theta_pred.specs.Keys.{splits}
use Rattle.theta_pred.specs.OneSided.{names}
use Rattle.theta_pred.specs.TextAtoms.{of_columns}

-- whether a member is an equality of both sides
abbrev pub is_equality : Formula → Bool
is_equality (num left Eq right) = splits left right
is_equality (txt (texts'.Cell left) Eq (texts'.Cell right)) = is_some (of_columns left right)
is_equality _ = false

-- whether a member gives an agreement by itself: an equality of both sides, or one that names columns of one at most
abbrev pub gives_agreement : Formula → Bool
gives_agreement f = is_equality f || not (names S f) || not (names R f)

abbrev mutual
  -- whether a predicate says no more than its agreements: each member of its conjunctions gives one
  pub agreements_suffice : Formula → Bool
  agreements_suffice (every fs) = each_suffices fs
  agreements_suffice f = gives_agreement f

  -- whether each of a conjunction's members says no more than its agreements
  pub each_suffices : Formulas → Bool
  each_suffices no_formula = true
  each_suffices (formula f fs) = agreements_suffice f && each_suffices fs
