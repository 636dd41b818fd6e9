-- One store with the tuples of all, by the numbers of their rows.
use Rattle.std.proofs.Common.{◌≡◌, ℕ, refl, sym, ◌∙◌, ap, ap₂, subst, Bool, true, false, cond, List, [], ◌∷◌, ◌++◌}
use Rattle.std.proofs.Common.{append-nil, append_assoc}
use Rattle.std.specs.Prelude.{filter, IsPermutation}
use Rattle.std.specs.List.Sorted.{IsNonDecreasingBy}
use Rattle.std.proofs.lemmas.List.Elements.{filter-append}
use Rattle.std.proofs.lemmas.List.Kept.{IsNonDecreasingBy-filter}
use Rattle.row_cells.specs.declared.table.Side.{Side}
use Rattle.row_cells.specs.declared.table.Side.TheVariants.{R, S}
use Rattle.row_cells.specs.Lists.{SameBag}
use Rattle.row_cells.proofs.Bags.{SameBag-refl, SameBag-sym, SameBag-trans, SameBag-permutation}
use Rattle.epoch_tags.specs.declared.tuple.Tuple.{Tuple}
use Rattle.migration_plan.specs.Steps.{is_of, same_side}
use Rattle.theta_pred.specs.Formula.{Meaning}
use Rattle.store_parts.specs.Stored.{Stored, with_tuple, with_tuple_at}
use Rattle.joiner_core.specs.State.{tuples_of, IsKeyOf}
use Rattle.joiner_core.proofs.StoreLists.{by_side-bag}
use Rattle.elastic_grow.specs.Stores.{all_of, with_all, IsWhole}

next_of : (side : Side) (ts : List Tuple) (t : Tuple) (b : Bool) → is_of side t ≡ b
    → filter (is_of side) (ts ++ t ∷ []) ≡ filter (is_of side) ts ++ cond b (t ∷ []) []
next_of side ts t b is =
    filter-append (is_of side) ts (t ∷ [])
    ∙ ap (λ c. filter (is_of side) ts ++ cond c (t ∷ []) []) is

-- the store with these tuples
abbrev having : Stored → List Tuple → List Tuple → Stored
having store rs ss = record { key = store.key; access = store.access; r = rs; s = ss }

both : (store : Stored) (rs ss us vs : List Tuple) → rs ≡ us → ss ≡ vs → having store rs ss ≡ having store us vs
both store rs ss us vs same_r same_s = ap₂ (having store) same_r same_s

next_at : (side : Side) (store : Stored) (ts : List Tuple) (t : Tuple) → t.side ≡ side
    → with_tuple_at side (with_all store ts) t ≡ with_all store (ts ++ t ∷ [])
next_at R store ts t own =
    let r = next_of R ts t true (ap (same_side R) own) in
    let s = next_of S ts t false (ap (same_side S) own) ∙ append-nil (filter (is_of S) ts) in
    both store ((store.r ++ filter (is_of R) ts) ++ t ∷ []) (store.s ++ filter (is_of S) ts)
    (store.r ++ filter (is_of R) (ts ++ t ∷ [])) (store.s ++ filter (is_of S) (ts ++ t ∷ []))
    (append_assoc store.r (filter (is_of R) ts) (t ∷ []) ∙ ap (λ l. store.r ++ l) (sym r))
    (ap (λ l. store.s ++ l) (sym s))
next_at S store ts t own =
    let r = next_of R ts t false (ap (same_side R) own) ∙ append-nil (filter (is_of R) ts) in
    let s = next_of S ts t true (ap (same_side S) own) in
    both store (store.r ++ filter (is_of R) ts) ((store.s ++ filter (is_of S) ts) ++ t ∷ [])
    (store.r ++ filter (is_of R) (ts ++ t ∷ [])) (store.s ++ filter (is_of S) (ts ++ t ∷ []))
    (ap (λ l. store.r ++ l) (sym r))
    (append_assoc store.s (filter (is_of S) ts) (t ∷ []) ∙ ap (λ l. store.s ++ l) (sym s))

-- a store with some tuples more, and then one
pub with_next : (store now : Stored) (ts : List Tuple) (t : Tuple) → now ≡ with_all store ts
    → with_tuple now t ≡ with_all store (ts ++ t ∷ [])
with_next store now ts t is = ap (λ s. with_tuple s t) is ∙ next_at t.side store ts t refl

front_nil : (xs ys : List Tuple) → xs ++ ys ≡ [] → xs ≡ []
front_nil [] ys none = refl
front_nil (x ∷ xs) ys none = cc

back_nil : (xs ys : List Tuple) → xs ++ ys ≡ [] → ys ≡ []
back_nil [] ys none = none
back_nil (x ∷ xs) ys none = cc

module _ (theta : Meaning) (k b : ℕ) (stores : List Stored) (first whole : Stored) (all sorted : List Tuple) where
  -- an empty store with the predicate's key, to which all tuples are added by their numbers
  pub whole_is : tuples_of first ≡ [] → IsKeyOf theta first.key → all ≡ all_of k b stores → IsPermutation all sorted
      → IsNonDecreasingBy (λ (t : Tuple). t.index) sorted → whole ≡ with_all first sorted
      → IsWhole theta k b stores whole
  whole_is empty key all_is moves order is =
      let none_r = front_nil first.r first.s empty in
      let none_s = back_nil first.r first.s empty in
      let bag : SameBag sorted (all_of k b stores) =
      SameBag-trans (SameBag-sym (SameBag-permutation all sorted moves))
      (subst (SameBag all) all_is (SameBag-refl all)) in
      subst (IsWhole theta k b stores) (sym is) (record {
        tuples =
            subst (λ ts. SameBag ts (all_of k b stores))
            (sym (ap₂ (λ (us vs : List Tuple). (us ++ filter (is_of R) sorted) ++ (vs ++ filter (is_of S) sorted))
            none_r none_s))
            (SameBag-trans (by_side-bag sorted) bag);
        order = record {
          r = subst (λ (us : List Tuple). IsNonDecreasingBy (λ (t : Tuple). t.index) (us ++ filter (is_of R) sorted))
              (sym none_r)
              (IsNonDecreasingBy-filter (λ (t : Tuple). t.index) (is_of R) sorted order);
          s = subst (λ (us : List Tuple). IsNonDecreasingBy (λ (t : Tuple). t.index) (us ++ filter (is_of S) sorted))
              (sym none_s)
              (IsNonDecreasingBy-filter (λ (t : Tuple). t.index) (is_of S) sorted order);
        };
        key = key;
      })
