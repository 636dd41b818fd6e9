-- The stores of a grown grid, one after another.
use Rattle.std.proofs.Common.{◌≡◌, ℕ, ◌+◌, ◌^◌, ◌<◌, ◌≤◌, inl, inr, sym, ◌∙◌, ap, subst, Option, Some}
use Rattle.std.proofs.Common.{List, [], ◌∷◌, ◌++◌, length}
use Rattle.std.specs.Prelude.{slice_get, All}
use Rattle.std.proofs.lemmas.List.{length-append}
use Rattle.std.proofs.lemmas.List.Kept.{IsNonDecreasingBy-filter}
use Rattle.std.proofs.lemmas.Option.{slice_get_within, get_or_from_slice_get}
use Rattle.epoch_tags.specs.declared.tuple.Tuple.{Tuple}
use Rattle.grid_map.specs.declared.shape.Shape.{Shape}
use Rattle.migration_plan.specs.Steps.{holds}
use Rattle.store_parts.specs.Stored.{Stored, kept_of}
use Rattle.actor_core.proofs.Beginnings.{there}
use Rattle.actor_core.proofs.WaveBeginnings.{last_is}
use Rattle.elastic_grow.specs.Children.{child}
use Rattle.elastic_grow.specs.Stores.{AreKept, AreKeptCopies, IsByIndex}
use Rattle.elastic_grow.specs.Growth.{AreOfParents}
use Rattle.elastic_grow.proofs.Parents.{parent_is, children_hold}

-- what is there is one thing
pub some_same : {X : Type 0} (x y : X) → Some x ≡ Some y → x ≡ y
some_same x y same = cc

-- with the next joiner's store there is one more
pub one_kept : (shape : Shape) (from : ℕ → Option Stored) (n : ℕ) (stores : List Stored) (own store : Stored)
    → AreKept shape from n stores → from n ≡ Some own → store ≡ kept_of shape n own
    → AreKept shape from (n + 1) (stores ++ store ∷ [])
one_kept shape from n stores own store made named kept = record {
  all = length-append stores (store ∷ []) ∙ ap (λ z. z + 1) made.all;
  each = λ j other is. elim (last_is stores store other j is) [
    | inl there ↦ made.each j other there
    | inr last ↦ (
      own,
      ap from (last.0 ∙ made.all) ∙ named,
      sym last.1 ∙ kept ∙ ap (λ z. kept_of shape z own) (sym (last.0 ∙ made.all)),
    )
  ];
}

module _ (k b : ℕ) (old new : List Stored) (within : b ≤ k) (few : k ≤ 6) where
  -- parts of the parents' stores are kept copies, child by child
  pub are_copies : length old ≡ 2 ^ k → AreOfParents k b (b + 1) old new → AreKeptCopies k b old new
  are_copies many kept id a d store is low_a low_d =
      let low : id < 2 ^ k = subst (λ n. id < n) many (slice_get_within old id store is) in
      let c = child b id a d in
      let below = (children_hold k b id a d 0 within few low_a low_d).below low in
      let given = there new c (subst (λ n. c < n) (sym kept.all) below) in
      let own = kept.each c given.0 given.1 in
      let same = some_same own.0 store (sym own.1 ∙ ap (slice_get old) (parent_is b id a d low_a low_d) ∙ is) in
      given.1 ∙ ap Some (own.2 ∙ ap (kept_of (record { k = k + 2; shift = b + 1 }) c) same)

-- parts of one store keep its order
pub keep_order : (shape : Shape) (count : ℕ) (whole : Stored) (stores : List Stored) → IsByIndex whole
    → AreKept shape (λ j. Some whole) count stores → All IsByIndex stores
keep_order shape count whole stores order kept i d low =
    let given = there stores i low in
    let own = kept.each i given.0 given.1 in
    let same : own.0 ≡ whole = sym (some_same whole own.0 own.1) in
    let is = get_or_from_slice_get stores i given.0 d given.1 in
    subst IsByIndex (sym (is ∙ own.2 ∙ ap (kept_of shape i) same)) (record {
      r = IsNonDecreasingBy-filter (λ (t : Tuple). t.index) (holds shape.k shape.shift i) whole.r order.r;
      s = IsNonDecreasingBy-filter (λ (t : Tuple). t.index) (holds shape.k shape.shift i) whole.s order.s;
    })
