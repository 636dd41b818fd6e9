-- Rows that have the predicate's widths stay so.
use Rattle.std.proofs.Common.{◌≡◌, ℕ, ◌<◌, inl, inr, sym, ◌∙◌, ap, subst, Bool, true, false, Option, Some, None, List}
use Rattle.std.proofs.Common.{[], ◌∷◌, ◌++◌, length, filter, All, get_or-set_same, get_or-set_other}
use Rattle.std.specs.Prelude.{slice_set}
use Rattle.std.proofs.lemmas.Bool.{cases_eq}
use Rattle.std.proofs.lemmas.List.Elements.{All-nil, All-append, All-filter, All-push, All-head, All-tail}
use Rattle.row_cells.specs.declared.table.Side.TheVariants.{R, S}
use Rattle.epoch_tags.specs.declared.tuple.Tuple.{Tuple}
use Rattle.epoch_tags.specs.declared.message.ToJoiner.{ToJoiner}
use Rattle.epoch_tags.specs.Held.{held_at}
use Rattle.migration_plan.specs.Steps.{holds, is_of}
use Rattle.theta_pred.specs.Formula.{Meaning}
use Rattle.joiner_core.specs.State.{Stocked, placed, with_placed, kept_stock, IsRow, AreRows, IsStock, HasRow}
use Rattle.joiner_core.specs.State.{HoldsRows, OpenStep, EpochState}
use Rattle.joiner_core.specs.Changes.{kept_at_end, open_old, step_new, part_by, HasBegun, HasTurned}
use Rattle.joiner_core.specs.Taking.{IsStepStock}

-- ---- stores

rows-placed : (theta : Meaning) (xs : List Tuple) (x : Tuple) → AreRows theta xs → IsRow theta x
    → AreRows theta (placed x xs)
rows-placed theta xs x rows row =
    let all = All-push (IsRow theta) xs x rows row in
    All-append (IsRow theta) (filter (is_of R) (xs ++ x ∷ [])) (filter (is_of S) (xs ++ x ∷ []))
    (All-filter (is_of R) (IsRow theta) (xs ++ x ∷ []) all) (All-filter (is_of S) (IsRow theta) (xs ++ x ∷ []) all)

rows-kept : (theta : Meaning) (kept : Bool) (x : Tuple) (b : List Tuple) → AreRows theta b → IsRow theta x
    → AreRows theta (kept_at_end kept x b)
rows-kept theta true x b rows row = rows-placed theta b x rows row
rows-kept theta false x b rows row = rows

-- a store of rows of the widths, with the predicate's key and access, is one still with one such row more
pub stock-placed : (theta : Meaning) (x : Tuple) (stock : Stocked) → IsStock theta stock → IsRow theta x
    → IsStock theta (with_placed x stock)
stock-placed theta x stock is row = record {
  rows = rows-placed theta stock.tuples x is.rows row;
  key = is.key;
  access = is.access;
}

-- so is the open step's store, after a row of the settled epoch that the joiner may keep there
pub stock-old : (theta : Meaning) (m : EpochState) (x : Tuple) (step : Option OpenStep) → IsStepStock theta step
    → IsRow theta x → IsStepStock theta (open_old m x step)
stock-old theta m x None is row = tt
stock-old theta m x (Some o) is row = record {
  rows = rows-kept theta (holds m.k o.shift m.id x)
      x o.store.tuples is.rows row;
  key = is.key;
  access = is.access;
}

-- so is the open step's store, after a row of its own epoch
pub stock-new : (theta : Meaning) (x : Tuple) (step : Option OpenStep) → IsStepStock theta step → IsRow theta x
    → IsStepStock theta (step_new x step)
stock-new theta x None is row = tt
stock-new theta x (Some o) is row = stock-placed theta x o.store is row

-- so is the open step's store, after the partner's part is over
pub stock-part : (theta : Meaning) (step : Option OpenStep) → IsStepStock theta step → IsStepStock theta (part_by step)
stock-part theta None is = tt
stock-part theta (Some o) is = is

stock-kept : (theta : Meaning) (k shift id : ℕ) (stock : Stocked) → IsStock theta stock
    → IsStock theta (kept_stock k shift id stock)
stock-kept theta k shift id stock is = record {
  rows = All-filter (holds k shift id) (IsRow theta) stock.tuples is.rows;
  key = is.key;
  access = is.access;
}

-- so is the store of a step that was opened or was open
pub stock-begun : (theta : Meaning) (m : EpochState) (epoch shift : ℕ) (step step' : Option OpenStep)
    → IsStock theta m.store → IsStepStock theta step → HasBegun m epoch shift step step' → IsStepStock theta step'
stock-begun theta m epoch shift None None stock is has = tt
stock-begun theta m epoch shift None (Some o) stock is has =
    subst (IsStock theta) (sym has.store) (stock-kept theta m.k shift m.id m.store stock)
stock-begun theta m epoch shift (Some o) step' stock is has = subst (IsStepStock theta) (sym has) is

-- so is the open step's store, after a feeder turned
pub stock-turned : (theta : Meaning) (p : ℕ) (step step' : Option OpenStep) → HasTurned p step step'
    → IsStepStock theta step → IsStepStock theta step'
stock-turned theta p None step' has is = subst (IsStepStock theta) (sym has) tt
stock-turned theta p (Some o) None has is = absurd has
stock-turned theta p (Some o) (Some o') has is = subst (IsStock theta) (sym (ap (λ (z : OpenStep). z.store) has.0)) is

-- ---- held messages

-- rows of held messages have the widths still where neither the predicate nor what is held changed
pub same-rows : (theta theta' : Meaning) (qs qs' : List (List ToJoiner)) → theta' ≡ theta → qs' ≡ qs
    → HoldsRows theta qs → HoldsRows theta' qs'
same-rows theta theta' qs qs' one two rows = subst (λ (th : Meaning). HoldsRows th qs') (sym one)
    (subst (HoldsRows theta) (sym two) rows)

put-rows : (theta : Meaning) (qs queues : List (List ToJoiner)) (i : ℕ) (queue : List ToJoiner) → i < length qs
    → queues ≡ slice_set qs i queue → All (HasRow theta) queue → HoldsRows theta qs → HoldsRows theta queues
put-rows theta qs queues i queue low put new rows = λ j. elim (cases_eq j i) [
  | inl here ↦
      let now : held_at queues i ≡ queue = ap (λ zs. held_at zs i) put ∙ get_or-set_same qs i queue [] low in
      rw here (subst (All (HasRow theta)) (sym now) new)
  | inr differ ↦
      let keeps : held_at queues j ≡ held_at qs j = ap (λ zs. held_at zs j) put
      ∙ get_or-set_other qs i j queue [] differ in
      subst (All (HasRow theta)) (sym keeps) (rows j)
]

-- and where a message with such a row, or with none, is put behind those held of its sender
pub rows-held : (theta : Meaning) (qs queues : List (List ToJoiner)) (i : ℕ) (m : ToJoiner) → i < length qs
    → queues ≡ slice_set qs i (held_at qs i ++ m ∷ []) → HasRow theta m → HoldsRows theta qs → HoldsRows theta queues
rows-held theta qs queues i m low put row rows = put-rows theta qs queues i (held_at qs i ++ m ∷ []) low put
    (All-push (HasRow theta) (held_at qs i) m (rows i) row) rows

-- and where the first message held of a sender is gone
pub rows-taken : (theta : Meaning) (qs queues : List (List ToJoiner)) (i : ℕ) (m : ToJoiner) → i < length qs
    → held_at qs i ≡ m ∷ held_at queues i → queues ≡ slice_set qs i (held_at queues i) → HoldsRows theta qs
    → HoldsRows theta queues
rows-taken theta qs queues i m low first put rows = put-rows theta qs queues i (held_at queues i) low put
    (All-tail (HasRow theta) m (held_at queues i) (subst (All (HasRow theta)) first (rows i))) rows

-- the first message held of a sender carries a row of the widths, if it carries one
pub row-first : (theta : Meaning) (qs : List (List ToJoiner)) (i : ℕ) (m : ToJoiner) (rest : List ToJoiner)
    → held_at qs i ≡ m ∷ rest → HoldsRows theta qs → HasRow theta m
row-first theta qs i m rest first rows = All-head (HasRow theta) m rest (subst (All (HasRow theta)) first (rows i))

-- where nothing is held of any sender, the rows of held messages have the widths
pub rows-none : (theta : Meaning) (qs : List (List ToJoiner)) → ((i : ℕ) → held_at qs i ≡ []) → HoldsRows theta qs
rows-none theta qs none = λ i. subst (All (HasRow theta)) (sym (none i)) (All-nil (HasRow theta))
