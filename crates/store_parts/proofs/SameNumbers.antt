-- Rows that agree in all but the range have one number.
use Rattle.std.proofs.Common.{◌≡◌, ℤ, pos, ◌-ℤ◌, true, Option, Some, None, List, [], ◌∷◌, refl, ap, ◌∙◌}
use Rattle.std.proofs.Common.{arith, cond, not}
use Rattle.std.specs.Prelude.{map, int_le, option_map, option_and_then}
use Rattle.std.proofs.lemmas.Bool.{false≢true}
use Rattle.std.proofs.lemmas.Int.{ints}
use Rattle.std.proofs.lemmas.Slice.Eq.{bytes_eq-Decides}
use Rattle.row_cells.specs.declared.table.Cell.{Cell}
use Rattle.row_cells.specs.declared.table.Side.{Side}
use Rattle.row_cells.specs.declared.table.Side.TheVariants.{R, S}
use Rattle.theta_pred.specs.declared.agree.Same.{Same}
use Rattle.theta_pred.specs.declared.agree.Same.TheVariants.{Texts, Sums, Alone}
use Rattle.theta_pred.specs.Formula.{Formula}
use Rattle.theta_pred.specs.OneSided.{is_true_alone}
use Rattle.theta_pred.specs.Sums.{of_side}
use Rattle.theta_pred.specs.Accesses.{agreement_of, agrees, agree_in_all}
use Rattle.theta_pred.specs.Keys.{is_between}
use Rattle.theta_pred.specs.Linear.{value_of}
use Rattle.theta_pred.specs.TextAtoms.{text_at}
use Rattle.theta_pred.proofs.KeyMembers.{and_left, and_right}
use Rattle.store_parts.specs.Accessed.{value_on, mixed, numbered, number_of, number_of_row, own_value}
use Rattle.store_parts.specs.Places.{lies}

-- ---- rows that agree have one number

le_self : (z : ℤ) → int_le z z ≡ true
le_self z = grind (arith, ints)

-- a number lies between two bounds that are both this number
pub lies_self : (z : ℤ) → lies (Some z) (Some z) (Some z) ≡ true
lies_self z = let le = le_self z in cc

-- two numbers that are there and are one
abbrev pub AreOne : Option ℤ → Option ℤ → Type 0
AreOne a b = (v : ℤ) × (a ≡ Some v) × (b ≡ Some v)

squeezed : (gap x y : ℤ) → int_le gap (x -ℤ y) ≡ true → int_le (x -ℤ y) gap ≡ true → x -ℤ gap ≡ y
squeezed gap x y low high = grind (arith, ints, low, high)

apart_one : (gap : ℤ) (x y : Option ℤ) → is_between (Some gap) (Some gap) x y ≡ true
    → AreOne (option_map (λ v. v -ℤ gap) x) y
apart_one gap None y is = absurd (false≢true is)
apart_one gap (Some x) None is = absurd (false≢true is)
apart_one gap (Some x) (Some y) is = (
  y,
  ap Some (squeezed gap x y (and_left (int_le gap (x -ℤ y)) (int_le (x -ℤ y) gap) is)
      (and_right (int_le gap (x -ℤ y)) (int_le (x -ℤ y) gap) is)),
  refl,
)

-- a row that passes a test of its side, and any row of the other, have one value
passed_one : (r s : List Cell) (own : Side) (f : Formula) → is_true_alone own (of_side r s own) f ≡ true
    → AreOne (own_value R own f r) (own_value S own f s)
passed_one r s R f is = (pos 0, ap (λ b. cond (not b) None (Some (pos 0))) is, refl)
passed_one r s S f is = (pos 0, refl, ap (λ b. cond (not b) None (Some (pos 0))) is)

same_value : (r s : List Cell) (same : Same) → agrees r s (agreement_of same) ≡ true
    → AreOne (value_on R same r) (value_on S same s)
same_value r s (Texts atom) is =
    let equal = (bytes_eq-Decides (text_at atom.r r) (text_at atom.s s)).0 is in
    (pos (number_of (text_at atom.s s)), ap (λ text. Some (pos (number_of text))) equal, refl)
same_value r s (Sums pair) is = apart_one pair.gap (value_of pair.r_sum.parts r) (value_of pair.s_sum.parts s) is
same_value r s (Alone it) is = passed_one r s it.side it.test.formula is

-- so they have where more values follow
same_numbers : (r s : List Cell) (number : ℤ) (sames : List Same) → agree_in_all (map agreement_of sames) r s ≡ true
    → AreOne (numbered R number sames r) (numbered S number sames s)
same_numbers r s number [] is = (number, refl, refl)
same_numbers r s number (same ∷ sames) is =
    let first = and_left (agrees r s (agreement_of same)) (agree_in_all (map agreement_of sames) r s) is in
    let later = and_right (agrees r s (agreement_of same)) (agree_in_all (map agreement_of sames) r s) is in
    let one = same_value r s same first in
    let rest = same_numbers r s (mixed number one.0) sames later in (
      rest.0,
      ap (option_and_then (λ v. numbered R (mixed number v) sames r)) one.1 ∙ rest.1,
      ap (option_and_then (λ v. numbered S (mixed number v) sames s)) one.2 ∙ rest.2,
    )

-- rows that agree have one number
pub same_rows : (r s : List Cell) (sames : List Same) → agree_in_all (map agreement_of sames) r s ≡ true
    → AreOne (number_of_row R sames r) (number_of_row S sames s)
same_rows r s [] is = (pos 0, refl, refl)
same_rows r s (same ∷ []) is = same_value r s same (and_left (agrees r s (agreement_of same)) true is)
same_rows r s (same ∷ other ∷ sames) is = same_numbers r s (pos 0) (same ∷ other ∷ sames) is
