-- A predicate's tree over two headers.
use Rattle.std.specs.Prelude.{ℕ, List, [], ◌∷◌, ◌++◌, length, Option, None, Some, Result, Ok, Err}
use Rattle.std.specs.Option.{option_or}
use Rattle.theta_tree.specs.Grammar.{Tree, any, every, negation, num, band, txt, Trees, no_trees, tree}
use Rattle.theta_tree.specs.declared.tree.Name.{Name}
use Rattle.theta_pred.specs.Formula.{Formula, Formulas, no_formula, formula, Meaning}
use Rattle.theta_pred.specs.Formula as says
use Rattle.theta_pred.specs.Names.{sum_names, side_names, places_of}
use Rattle.theta_pred.specs.Resolved.{resolved_sum, resolved_side}
use Rattle.join_plan.specs.declared.fault.TextFault.{TextFault}
use Rattle.join_plan.specs.declared.fault.TextFault.TheVariants.{NoColumn, TwoColumns}
use Rattle.join_plan.specs.declared.fault.Refusal.{Refusal}
use Rattle.join_plan.specs.declared.refusal_of_fault.Which.{Which}
use Rattle.join_plan.specs.Refusals.{told_by}

abbrev mutual
  -- the names in a tree, in the order of writing
  pub tree_names : Tree → List Name
  tree_names (any members) = trees_names members
  tree_names (every members) = trees_names members
  tree_names (negation member) = tree_names member
  tree_names (num left op right) = sum_names left ++ sum_names right
  tree_names (band sum op bound) = sum_names sum
  tree_names (txt left op right) = side_names left ++ side_names right

  pub trees_names : Trees → List Name
  trees_names no_trees = []
  trees_names (tree first others) = tree_names first ++ trees_names others

abbrev mutual
  -- the tree with each name replaced by its column
  pub formula_over : List (List ℕ) → List (List ℕ) → Tree → Formula
  formula_over names_r names_s (any members) = says.any (formulas_over names_r names_s members)
  formula_over names_r names_s (every members) = says.every (formulas_over names_r names_s members)
  formula_over names_r names_s (negation member) = says.negation (formula_over names_r names_s member)
  formula_over names_r names_s (num left op right) = says.num (resolved_sum names_r names_s left) op
      (resolved_sum names_r names_s right)
  formula_over names_r names_s (band sum op bound) = says.band (resolved_sum names_r names_s sum) op bound
  formula_over names_r names_s (txt left op right) = says.txt (resolved_side names_r names_s left) op
      (resolved_side names_r names_s right)

  pub formulas_over : List (List ℕ) → List (List ℕ) → Trees → Formulas
  formulas_over names_r names_s no_trees = no_formula
  formulas_over names_r names_s (tree first others) = formula (formula_over names_r names_s first)
      (formulas_over names_r names_s others)

-- what is wrong with a name that stands at these places in its header, if anything
abbrev pub wrong_at : Name → List ℕ → Option TextFault
wrong_at name [] = Some (NoColumn name.side name.word)
wrong_at name (place ∷ []) = None
wrong_at name (place ∷ other ∷ places) = Some (TwoColumns name.side name.word)

-- what is wrong with the first of these names that doesn't stand in its header just once
abbrev pub first_wrong : List (List ℕ) → List (List ℕ) → List Name → Option TextFault
first_wrong names_r names_s [] = None
first_wrong names_r names_s (name ∷ names) = option_or (wrong_at name (places_of names_r names_s name))
    (first_wrong names_r names_s names)

-- the predicate, unless a name is wrong
abbrev pub unless_wrong : Which → Option TextFault → Meaning → Result Meaning Refusal
unless_wrong which None theta = Ok theta
unless_wrong which (Some fault) theta = Err (told_by which fault)

-- the predicate of a tree over two headers, or the first wrong name
abbrev pub theta_over : Which → List (List ℕ) → List (List ℕ) → Tree → Result Meaning Refusal
theta_over which names_r names_s t = unless_wrong which (first_wrong names_r names_s (tree_names t))
    (record { formula = formula_over names_r names_s t; width_r = length names_r; width_s = length names_s })
