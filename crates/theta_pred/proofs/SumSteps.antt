-- One more term of a sum.
use Rattle.std.proofs.Common.{◌≡◌, ℕ, suc, ◌+◌, ◌<◌, ◌*◌, List, length, drop, get_or, ℤ, ◌+ℤ◌, Option, Some, None, refl}
use Rattle.std.proofs.Common.{sym, ◌∙◌, ap, arith, add-one}
use Rattle.std.proofs.Math.Seq.{drop-cons}
use Rattle.std.proofs.lemmas.Int.{ints}
use Rattle.row_cells.specs.declared.table.Cell.{Cell}
use Rattle.theta_pred.specs.declared.tree.SignedTerm.{SignedTerm}
use Rattle.theta_pred.specs.Sizes.{IsAtMost}
use Rattle.theta_pred.specs.Sums.{plus, signed_of, sum_of}

-- two numbers and a rest that may be absent come to the same, whichever two are added first
pub plus_assoc : (v x : ℤ) (rest : Option ℤ) → plus (Some (v +ℤ x)) rest ≡ plus (Some v) (plus (Some x) rest)
plus_assoc v x None = refl
plus_assoc v x (Some y) = let e : (v +ℤ x) +ℤ y ≡ v +ℤ (x +ℤ y) = omega (arith, ints) in ap Some e

module _ (r s : List Cell) (items : List SignedTerm) where
  -- the next term's number, where it has one, moves from what is left of a sum to the total: both are still the whole
  pub sum_step : (i : ℕ) (d : SignedTerm) (v x : ℤ) (whole : Option ℤ) → i < length items
      → Some x ≡ signed_of r s (get_or items i d) → plus (Some v) (sum_of r s (drop i items)) ≡ whole
      → plus (Some (v +ℤ x)) (sum_of r s (drop (i + 1) items)) ≡ whole
  sum_step i d v x whole below is before =
      rw add-one (plus_assoc v x (sum_of r s (drop (suc i) items))
      ∙ ap (λ o. plus (Some v) (plus o (sum_of r s (drop (suc i) items)))) is
      ∙ ap (λ xs. plus (Some v) (sum_of r s xs)) (sym (drop-cons items i d below)) ∙ before)

-- a sum within one limit for each of its numbers stays so with one more number that is within the limit
pub IsAtMost-next : (limit i : ℕ) (v x : ℤ) → IsAtMost (limit * i) v → IsAtMost limit x
    → IsAtMost (limit * (i + 1)) (v +ℤ x)
IsAtMost-next limit i v x v_small x_small = record { above = omega (arith, ints); below = omega (arith, ints) }
