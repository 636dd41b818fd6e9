-- The first wrong name, by what resolving tells.
use Rattle.std.proofs.Common.{◌≡◌, ◌⊎◌, inl, inr, ◌<◌, ◌++◌, ℕ, suc, List, [], ◌∷◌, All, length, refl, sym, ap, subst}
use Rattle.std.proofs.Common.{Result, Some, None, Ok, Err, arith}
use Rattle.theta_tree.specs.Texts.{tree_of}
use Rattle.theta_tree.specs.declared.tree.Name.{Name}
use Rattle.theta_tree.specs.declared.tree.Pred.{Pred}
use Rattle.theta_pred.specs.Formula.{Meaning}
use Rattle.theta_pred.specs.Names.{names_in, places_of, StandsOnce, IsFirstWrong}
use Rattle.theta_pred.specs.Resolved.{resolved, Tells}
use Rattle.theta_pred.specs.declared.fault.ResolveFault.{ResolveFault}
use Rattle.theta_pred.specs.declared.fault.ResolveFault.TheVariants as faults
use Rattle.join_plan.specs.declared.fault.TextFault.{TextFault}
use Rattle.join_plan.specs.declared.fault.TextFault.TheVariants.{NoColumn, TwoColumns}
use Rattle.join_plan.specs.declared.fault.Refusal.{Refusal}
use Rattle.join_plan.specs.declared.fault.Refusal.TheVariants.{Memory}
use Rattle.join_plan.specs.declared.refusal_of_fault.Which.{Which}
use Rattle.join_plan.specs.Refusals.{column_refusal, told_by}
use Rattle.join_plan.specs.Columns.{wrong_at, first_wrong, theta_over, tree_names}
use Rattle.join_plan.proofs.Trees.{names_in-tree, resolved-tree}

right_at : (name : Name) (places : List ℕ) → length places ≡ 1 → wrong_at name places ≡ None
right_at name [] once = absurd (omega (arith, once))
right_at name (place ∷ []) once = refl
right_at name (place ∷ other ∷ places) once = absurd (omega (arith, once))

doubled_at : (name : Name) (places : List ℕ) → 1 < length places
    → wrong_at name places ≡ Some (TwoColumns name.side name.word)
doubled_at name [] many = absurd (omega (arith, many))
doubled_at name (place ∷ []) many = absurd (omega (arith, many))
doubled_at name (place ∷ other ∷ places) many = refl

abbrev refused_with : Refusal → Result Meaning Refusal
refused_with refusal = Err refusal

module _ (which : Which) (names_r names_s : List (List ℕ)) where
  -- where each name stands in its header just once, none is wrong
  pub first_wrong-none : (names : List Name) → All (StandsOnce names_r names_s) names
      → first_wrong names_r names_s names ≡ None
  first_wrong-none [] once = refl
  first_wrong-none (name ∷ names) once =
      rw (
        right_at name (places_of names_r names_s name) (once 0 name (omega arith)),
        first_wrong-none names (λ k d within. once (suc k) d (omega (arith, within))),
      ) refl

  first_wrong-behind : (before after : List Name) (name : Name) (fault : TextFault)
      → All (StandsOnce names_r names_s) before
      → wrong_at name (places_of names_r names_s name) ≡ Some fault
      → first_wrong names_r names_s (before ++ name ∷ after) ≡ Some fault
  first_wrong-behind [] after name fault once wrong = rw wrong refl
  first_wrong-behind (first ∷ before) after name fault once wrong =
      rw (
        right_at first (places_of names_r names_s first) (once 0 first (omega arith)),
        first_wrong-behind before after name fault (λ k d within. once (suc k) d (omega (arith, within))) wrong,
      ) refl

  first_wrong-first : (names : List Name) (name : Name) (fault : TextFault) → IsFirstWrong names_r names_s names name
      → wrong_at name (places_of names_r names_s name) ≡ Some fault → first_wrong names_r names_s names ≡ Some fault
  first_wrong-first names name fault first wrong = rw first.splits
      (first_wrong-behind first.before first.after name fault first.once wrong)

  -- a fault that resolving tells is that of the first wrong name
  told : (names : List Name) (fault : ResolveFault) → Tells names_r names_s names fault
      → (column_refusal which fault ≡ Memory) ⊎ ((wrong : TextFault) × (first_wrong names_r names_s names ≡ Some wrong)
      × (column_refusal which fault ≡ told_by which wrong))
  told names (faults.NoColumn side word) tells =
      let name : Name = record { side = side; word = word } in
      inr (
        NoColumn side word,
        first_wrong-first names name (NoColumn side word) tells.0 (ap (wrong_at name) tells.1),
        refl,
      )
  told names (faults.TwoColumns side word) tells =
      let name : Name = record { side = side; word = word } in
      inr (
        TwoColumns side word,
        first_wrong-first names name (TwoColumns side word) tells.0
            (doubled_at name (places_of names_r names_s name) tells.1),
        refl,
      )
  told names faults.Memory tells = inl refl

  -- so a predicate of such names is what its tree comes to over the headers
  pub theta_found : (pred : Pred) → All (StandsOnce names_r names_s) (names_in pred)
      → theta_over which names_r names_s (tree_of pred) ≡ Ok (record {
        formula = resolved names_r names_s pred;
        width_r = length names_r;
        width_s = length names_s;
      })
  theta_found pred once =
      let none : first_wrong names_r names_s (tree_names (tree_of pred)) ≡ None =
      subst (λ names. first_wrong names_r names_s names ≡ None) (names_in-tree pred)
      (first_wrong-none (names_in pred) once) in
      rw (none, sym (resolved-tree names_r names_s pred)) refl

  -- where resolving tells a fault instead, the tree is refused by that fault, unless memory ran out
  pub theta_refused : (pred : Pred) (fault : ResolveFault) → Tells names_r names_s (names_in pred) fault
      → (column_refusal which fault ≡ Memory) ⊎ (theta_over which names_r names_s (tree_of pred)
      ≡ Err (column_refusal which fault))
  theta_refused pred fault tells = by (told (names_in pred) fault tells)
    where
      by : (column_refusal which fault ≡ Memory) ⊎ ((wrong : TextFault)
          × (first_wrong names_r names_s (names_in pred) ≡ Some wrong)
          × (column_refusal which fault ≡ told_by which wrong))
          → (column_refusal which fault ≡ Memory) ⊎ (theta_over which names_r names_s (tree_of pred)
          ≡ Err (column_refusal which fault))
      by (inl memory) = inl memory
      by (inr found) =
          let there : first_wrong names_r names_s (tree_names (tree_of pred)) ≡ Some found.0 =
          subst (λ names. first_wrong names_r names_s names ≡ Some found.0) (names_in-tree pred) found.1 in
          inr (rw (there, found.2) refl)

  -- and so that refusal is the answer for the tree, or want of memory
  pub refused_over : (pred : Pred) (fault : ResolveFault) → Tells names_r names_s (names_in pred) fault
      → (refused_with (column_refusal which fault) ≡ refused_with Memory)
      ⊎ (refused_with (column_refusal which fault) ≡ theta_over which names_r names_s (tree_of pred))
  refused_over pred fault tells = elim (theta_refused pred fault tells) [
    | inl memory ↦ inl (ap refused_with memory)
    | inr is ↦ inr (sym is)
  ]
