-- One more term of a sum of constants, and one more part of a sum of columns.
use Rattle.std.proofs.Common.{◌≡◌, ℕ, suc, ◌+◌, ◌<◌, List, length, drop, get_or, ℤ, ◌+ℤ◌, Some, Option, sym, ◌∙◌, ap}
use Rattle.std.proofs.Common.{subst, arith, add-one}
use Rattle.std.proofs.Math.Seq.{drop-cons}
use Rattle.std.proofs.lemmas.Int.{ints}
use Rattle.std.proofs.lemmas.List.Elements.{All-tail}
use Rattle.row_cells.specs.declared.table.Cell.{Cell}
use Rattle.theta_pred.specs.declared.atom.Part.{Part}
use Rattle.theta_pred.specs.declared.tree.SignedTerm.{SignedTerm}
use Rattle.theta_pred.specs.Keys.{constant_in, constant_of}
use Rattle.theta_pred.specs.Linear.{part_of, value_of, AreBelow}
use Rattle.theta_pred.specs.Sums.{plus, with_sign}
use Rattle.theta_pred.proofs.SumSteps.{plus_assoc}

-- the next term's constant moves from what is left of a sum to the running total: both are still the whole
pub constant_step : (items : List SignedTerm) (i : ℕ) (d : SignedTerm) (v x whole : ℤ) → i < length items
    → x ≡ with_sign (get_or items i d).minus (constant_in (get_or items i d).number)
    → v +ℤ constant_of (drop i items) ≡ whole → (v +ℤ x) +ℤ constant_of (drop (i + 1) items) ≡ whole
constant_step items i d v x whole below is before =
    let here : constant_of (drop i items) ≡ x +ℤ constant_of (drop (suc i) items) =
    ap constant_of (drop-cons items i d below) ∙ ap (λ y. y +ℤ constant_of (drop (suc i) items)) (sym is) in
    let rest = constant_of (drop (suc i) items) in
    let sums : (v +ℤ x) +ℤ rest ≡ v +ℤ (x +ℤ rest) = omega (arith, ints) in
    rw add-one (sums ∙ ap (λ y. v +ℤ y) (sym here) ∙ before)

-- so does the number of the next part of a sum of columns, where its cell has one
pub value_step : (row : List Cell) (items : List Part) (i : ℕ) (d : Part) (v x : ℤ) (whole : Option ℤ)
    → i < length items
    → Some x ≡ part_of (get_or items i d) row → plus (Some v) (value_of (drop i items) row) ≡ whole
    → plus (Some (v +ℤ x)) (value_of (drop (i + 1) items) row) ≡ whole
value_step row items i d v x whole below is before =
    rw add-one (plus_assoc v x (value_of (drop (suc i) items) row)
    ∙ ap (λ o. plus (Some v) (plus o (value_of (drop (suc i) items) row))) is
    ∙ ap (λ xs. plus (Some v) (value_of xs row)) (sym (drop-cons items i d below)) ∙ before)

-- the parts that are left lie in the row
pub below_step : (width : ℕ) (items : List Part) (i : ℕ) (d : Part) → i < length items → AreBelow width (drop i items)
    → AreBelow width (drop (i + 1) items)
below_step width items i d below all =
    rw add-one (All-tail (λ (part : Part). part.column < width) (get_or items i d) (drop (suc i) items)
    (subst (AreBelow width) (drop-cons items i d below) all))
