-- One more item of a list that is gone over: what is left of it.
use Rattle.std.proofs.Common.{◌≡◌, ℕ, suc, ◌+◌, ◌<◌, List, [], ◌∷◌, ◌++◌, map, length, drop, get_or, refl, sym, ◌∙◌, ap}
use Rattle.std.proofs.Common.{append_assoc, add-one}
use Rattle.std.proofs.Math.Seq.{drop-cons}
use Rattle.theta_tree.specs.declared.tree.Signed.{Signed}
use Rattle.theta_tree.specs.declared.tree.Pred.{Pred}
use Rattle.theta_pred.specs.declared.tree.SignedTerm.{SignedTerm}
use Rattle.theta_pred.specs.declared.tree.Number.{Number}
use Rattle.theta_pred.specs.declared.tree.Tree.{Tree}
use Rattle.theta_pred.specs.Formula.{Formula, formula_of}
use Rattle.theta_pred.specs.Resolved.{resolved_term, resolved_sum, resolved}

-- what is left of a list is its next item, and then what is left behind that
pub drop-next : {X : Type 0} (items : List X) (i : ℕ) (x : X) → i < length items → x ≡ get_or items i x
    → drop i items ≡ x ∷ drop (i + 1) items
drop-next items i x below is = rw add-one (drop-cons items i x below ∙ ap (λ y. y ∷ drop (suc i) items) (sym is))

module _ (names_r names_s : List (List ℕ)) (before after : List SignedTerm) where
  -- the next term of a sum, resolved, moves from what is left to what is done: both together are still the whole
  pub resolved_sum-next : (signed : Signed) (number : Number) (left rest : List Signed) (whole : List SignedTerm)
      → left ≡ signed ∷ rest
      → number ≡ resolved_term names_r names_s signed.term
      → after ≡ before ++ record { minus = signed.minus; number = number } ∷ []
      → before ++ resolved_sum names_r names_s left ≡ whole → after ++ resolved_sum names_r names_s rest ≡ whole
  resolved_sum-next signed number left rest whole left_is number_is after_is done =
      let signed_term : Number → SignedTerm = λ n. record { minus = signed.minus; number = n } in
      rw after_is (append_assoc before (signed_term number ∷ []) (resolved_sum names_r names_s rest)
      ∙ ap (λ n. before ++ (signed_term n ∷ resolved_sum names_r names_s rest)) number_is
      ∙ ap (λ l. before ++ resolved_sum names_r names_s l) (sym left_is) ∙ done)

map-push : {X Y : Type 0} (f : X → Y) (xs : List X) (x : X) → map f (xs ++ x ∷ []) ≡ map f xs ++ f x ∷ []
map-push f [] x = refl
map-push f (y ∷ ys) x = ap (λ zs. f y ∷ zs) (map-push f ys x)

module _ (names_r names_s : List (List ℕ)) (before after : List Tree) where
  -- so does the next member of a predicate, made into a tree
  pub resolved-next : (pred : Pred) (tree : Tree) (left rest : List Pred) (whole : List Formula)
      → left ≡ pred ∷ rest
      → formula_of tree ≡ resolved names_r names_s pred
      → after ≡ before ++ tree ∷ [] → map formula_of before ++ map (resolved names_r names_s) left ≡ whole
      → map formula_of after ++ map (resolved names_r names_s) rest ≡ whole
  resolved-next pred tree left rest whole left_is tree_is after_is done =
      let others = map (resolved names_r names_s) rest in
      rw (after_is, map-push formula_of before tree) (append_assoc (map formula_of before) (formula_of tree ∷ []) others
      ∙ ap (λ f. map formula_of before ++ (f ∷ others)) tree_is
      ∙ ap (λ l. map formula_of before ++ map (resolved names_r names_s) l) (sym left_is) ∙ done)
