-- What a predicate says, without where it lies in memory.
use Rattle.std.specs.Prelude.{ℕ, ℤ, List, [], ◌∷◌}
use Rattle.theta_tree.specs.declared.tree.Op.{Op}
use Rattle.theta_pred.specs.declared.tree.SignedTerm.{SignedTerm}
use Rattle.theta_pred.specs.declared.tree.Text.{Text}
use Rattle.theta_pred.specs.declared.tree.Tree.{Tree, fold-Tree}
use Rattle.theta_pred.specs.declared.tree.Tree.TheOpen.{Tree-F}

mutual
  -- a predicate over the places of columns
  pub data Formula : Type 0 where
    any : Formulas → Formula
    every : Formulas → Formula
    negation : Formula → Formula
    num : List SignedTerm → Op → List SignedTerm → Formula
    band : List SignedTerm → Op → ℤ → Formula
    txt : Text → Op → Text → Formula

  -- the members of a formula
  pub data Formulas : Type 0 where
    no_formula : Formulas
    formula : Formula → Formulas → Formulas

-- the members of a list
abbrev pub formulas : List Formula → Formulas
formulas [] = no_formula
formulas (f ∷ fs) = formula f (formulas fs)

-- a tree with formulas in the places of its members
abbrev pub formula_step : Tree-F Formula → Formula
formula_step (Tree-F.Or members) = any (formulas members.items)
formula_step (Tree-F.And members) = every (formulas members.items)
formula_step (Tree-F.Not member) = negation member.value
formula_step (Tree-F.Num left op right) = num left op right
formula_step (Tree-F.Abs sum op bound) = band sum op bound
formula_step (Tree-F.Txt left op right) = txt left op right

-- what a tree says
abbrev pub formula_of : Tree → Formula
formula_of = fold-Tree Formula formula_step

-- what a predicate says, and the widths of the two headers
pub record Meaning : Type 0 where
  pub formula : Formula
  pub width_r : ℕ
  pub width_s : ℕ
