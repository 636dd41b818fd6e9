-- What a predicate's names and its formula are, by its tree.
use Rattle.std.proofs.Common.{◌≡◌, List, [], ◌∷◌, map, refl, sym, ◌∙◌, ap, subst, ℕ}
use Rattle.theta_tree.specs.Grammar.{Tree, trees}
use Rattle.theta_tree.specs.Texts.{tree_of, tree_step}
use Rattle.theta_tree.specs.declared.tree.Name.{Name}
use Rattle.theta_tree.specs.declared.tree.Pred.{Pred}
use Rattle.theta_tree.specs.declared.tree.Pred.TheOpen.{Pred-F}
use Rattle.theta_tree.specs.declared.tree.Pred.TheFolds.{fold-roll-Pred, ind-Pred, map-Pred}
use Rattle.theta_pred.specs.Formula.{Formula, formulas}
use Rattle.theta_pred.specs.Names.{joined, names_in, names_step}
use Rattle.theta_pred.specs.Resolved.{resolved, resolved_step}
use Rattle.join_plan.specs.Columns.{tree_names, trees_names, formula_over, formulas_over}

abbrev HasNames : Pred → Type 0
HasNames p = names_in p ≡ tree_names (tree_of p)

all_names : (ps : List ((p : Pred) × HasNames p)) → joined (map names_in (map (λ e. e.0) ps))
    ≡ trees_names (trees (map tree_of (map (λ e. e.0) ps)))
all_names [] = refl
all_names (p ∷ ps) = rw (p.1, all_names ps) refl

layer_names : (y : Pred-F ((p : Pred) × HasNames p)) →
    names_step (map-Pred _ _ names_in (map-Pred _ _ (λ e. e.0) y))
    ≡ tree_names (tree_step (map-Pred _ _ tree_of (map-Pred _ _ (λ e. e.0) y)))
layer_names (Pred-F.Or members) = all_names members.items
layer_names (Pred-F.And members) = all_names members.items
layer_names (Pred-F.Not member) = member.value.1
layer_names (Pred-F.Num left op right) = refl
layer_names (Pred-F.Abs sum op bound) = refl
layer_names (Pred-F.Txt left op right) = refl

-- the names in a predicate, in the order of writing, are those in its tree
pub names_in-tree : (pred : Pred) → names_in pred ≡ tree_names (tree_of pred)
names_in-tree = ind-Pred HasNames (λ x y is.
    let layer = subst (λ z. names_step (map-Pred _ _ names_in z) ≡ tree_names (tree_step (map-Pred _ _ tree_of z))) is
    (layer_names y) in
    fold-roll-Pred (List Name) names_step x ∙ layer ∙ sym (ap tree_names (fold-roll-Pred Tree tree_step x)))

module _ (names_r names_s : List (List ℕ)) where
  abbrev HasFormula : Pred → Type 0
  HasFormula p = resolved names_r names_s p ≡ formula_over names_r names_s (tree_of p)

  all_formulas : (ps : List ((p : Pred) × HasFormula p)) →
      formulas (map (resolved names_r names_s) (map (λ e. e.0) ps))
      ≡ formulas_over names_r names_s (trees (map tree_of (map (λ e. e.0) ps)))
  all_formulas [] = refl
  all_formulas (p ∷ ps) = rw (p.1, all_formulas ps) refl

  layer_formula : (y : Pred-F ((p : Pred) × HasFormula p)) →
      resolved_step names_r names_s (map-Pred _ _ (resolved names_r names_s) (map-Pred _ _ (λ e. e.0) y))
      ≡ formula_over names_r names_s (tree_step (map-Pred _ _ tree_of (map-Pred _ _ (λ e. e.0) y)))
  layer_formula (Pred-F.Or members) = rw (all_formulas members.items) refl
  layer_formula (Pred-F.And members) = rw (all_formulas members.items) refl
  layer_formula (Pred-F.Not member) = rw member.value.1 refl
  layer_formula (Pred-F.Num left op right) = refl
  layer_formula (Pred-F.Abs sum op bound) = refl
  layer_formula (Pred-F.Txt left op right) = refl

  -- a predicate's formula over two headers is that of its tree
  pub resolved-tree : (pred : Pred) → resolved names_r names_s pred ≡ formula_over names_r names_s (tree_of pred)
  resolved-tree = ind-Pred HasFormula (λ x y is.
      let layer = subst (λ z. resolved_step names_r names_s (map-Pred _ _ (resolved names_r names_s) z)
      ≡ formula_over names_r names_s (tree_step (map-Pred _ _ tree_of z))) is (layer_formula y) in
      fold-roll-Pred Formula (resolved_step names_r names_s) x ∙ layer
      ∙ sym (ap (formula_over names_r names_s) (fold-roll-Pred Tree tree_step x)))
