-- Where a predicate is true its key atom is true, and the atom's columns lie in the rows.
use Rattle.std.proofs.Common.{◌≡◌, ℕ, Bool, true, false, not, ◌&&◌, List, [], ◌∷◌, ◌++◌, ℤ, pos, ◌+ℤ◌, ◌-ℤ◌, neg_ℤ}
use Rattle.std.proofs.Common.{Option, Some, None, refl, sym, ap, ◌∙◌, arith}
use Rattle.std.specs.Prelude.{option_map, unwrap_or}
use Rattle.std.proofs.lemmas.Int.{ints}
use Rattle.std.proofs.lemmas.Option.{none-some}
use Rattle.row_cells.specs.declared.table.Cell.{Cell}
use Rattle.row_cells.specs.declared.table.Side.{Side}
use Rattle.row_cells.specs.declared.table.Side.TheVariants.{R, S}
use Rattle.theta_pred.specs.declared.atom.Part.{Part}
use Rattle.theta_pred.specs.declared.tree.SignedTerm.{SignedTerm}
use Rattle.theta_pred.specs.declared.tree.Number.{Number}
use Rattle.theta_pred.specs.declared.tree.Number.TheVariants as numbers
use Rattle.theta_pred.specs.Keys.{is_from, is_up_to, is_between, is_atom_true, number_columns, columns_of, constant_in}
use Rattle.theta_pred.specs.Keys.{constant_of, difference}
use Rattle.theta_pred.specs.Linear.{part_of, value_of}
use Rattle.theta_pred.specs.Sums.{of_side, plus, with_sign, number_of, signed_of, sum_of}

-- what is there in two equal options is equal
pub some-injective : {X : Type 0} (x y : X) → Some x ≡ Some y → x ≡ y
some-injective x y is = ap (λ o. unwrap_or o x) is

-- ---- sums of columns

-- 0 added to a number that may be absent leaves it as it is
pub plus_nil : (o : Option ℤ) → plus (Some (pos 0)) o ≡ o
plus_nil None = refl
plus_nil (Some x) = ap Some (omega (arith, ints))

-- three numbers of which any may be absent come to the same, whichever two are added first
pub plus_more : (o p q : Option ℤ) → plus (plus o p) q ≡ plus o (plus p q)
plus_more None p q = refl
plus_more (Some x) None q = refl
plus_more (Some x) (Some y) None = refl
plus_more (Some x) (Some y) (Some z) = ap Some (omega (arith, ints))

-- the value of two sums end to end is that of both together
pub value_of-append : (xs ys : List Part) (row : List Cell) → value_of (xs ++ ys) row
    ≡ plus (value_of xs row) (value_of ys row)
value_of-append [] ys row = sym (plus_nil (value_of ys row))
value_of-append (x ∷ xs) ys row =
    ap (plus (part_of x row)) (value_of-append xs ys row) ∙ sym
    (plus_more (part_of x row) (value_of xs row) (value_of ys row))

value_of-both : (xs ys : List Part) (row : List Cell) (x y z : ℤ) → value_of xs row ≡ Some x → value_of ys row ≡ Some y
    → x +ℤ y ≡ z
    → value_of (xs ++ ys) row ≡ Some z
value_of-both xs ys row x y z is_x is_y sums =
    value_of-append xs ys row ∙ ap (λ o. plus o (value_of ys row)) is_x ∙ ap (plus (Some x)) is_y ∙ ap Some sums

plus_some : (o p : Option ℤ) (z : ℤ) → plus o p ≡ Some z → (x : ℤ) × (y : ℤ) × (o ≡ Some x) × (p ≡ Some y)
    × (x +ℤ y ≡ z)
plus_some None p z is = absurd (none-some z is)
plus_some (Some x) None z is = absurd (none-some z is)
plus_some (Some x) (Some y) z is = (x, y, refl, refl, some-injective (x +ℤ y) z is)

-- ---- a sum, by its columns of each side and its constants

record IsParted (r s : List Cell) (xs : List SignedTerm) (x a b : ℤ) : Type 0 where
  r_plain : value_of (columns_of R false xs) r ≡ Some a
  r_turned : value_of (columns_of R true xs) r ≡ Some (neg_ℤ a)
  s_plain : value_of (columns_of S false xs) s ≡ Some b
  s_turned : value_of (columns_of S true xs) s ≡ Some (neg_ℤ b)
  whole : x ≡ (a +ℤ b) +ℤ constant_of xs

record IsOneParted (r s : List Cell) (minus : Bool) (number : Number) (x a b : ℤ) : Type 0 where
  r_plain : value_of (number_columns R minus number) r ≡ Some a
  r_turned : value_of (number_columns R (not minus) number) r ≡ Some (neg_ℤ a)
  s_plain : value_of (number_columns S minus number) s ≡ Some b
  s_turned : value_of (number_columns S (not minus) number) s ≡ Some (neg_ℤ b)
  whole : x ≡ (a +ℤ b) +ℤ with_sign minus (constant_in number)

with_sign-zero : (minus : Bool) → with_sign minus (pos 0) ≡ pos 0
with_sign-zero true = refl
with_sign-zero false = refl

turned_sign : (minus : Bool) (o : Option ℤ) (x : ℤ) → option_map (with_sign minus) o ≡ Some x
    → option_map (with_sign (not minus)) o ≡ Some (neg_ℤ x)
turned_sign minus None x is = absurd (none-some x is)
turned_sign false (Some n) x is = ap (λ m. Some (neg_ℤ m)) (some-injective n x is)
turned_sign true (Some n) x is =
    let back : n ≡ neg_ℤ (neg_ℤ n) = omega (arith, ints) in
    ap Some (back ∙ ap neg_ℤ (some-injective (neg_ℤ n) x is))

one_part : (minus : Bool) (place : ℕ) (row : List Cell) (x : ℤ)
    → part_of (record { minus = minus; column = place }) row ≡ Some x
    → value_of (record { minus = minus; column = place } ∷ []) row ≡ Some x
one_part minus place row x is =
    let sums : x +ℤ pos 0 ≡ x = omega (arith, ints) in
    ap (λ o. plus o (Some (pos 0))) is ∙ ap Some sums

at_side : (r s : List Cell) (side : Side) (minus : Bool) (place : ℕ) (x : ℤ)
    → part_of (record { minus = minus; column = place }) (of_side r s side) ≡ Some x
    → (a : ℤ) × (b : ℤ) × IsOneParted r s minus (numbers.Cell (record { side = side; place = place })) x a b
at_side r s R minus place x is =
    let zero = with_sign-zero minus in (
      x,
      pos 0,
      record {
        r_plain = one_part minus place r x is;
        r_turned = one_part (not minus) place r (neg_ℤ x) (turned_sign minus _ x is);
        s_plain = refl;
        s_turned = refl;
        whole = omega (arith, ints, zero);
      },
    )
at_side r s S minus place x is =
    let zero = with_sign-zero minus in (
      pos 0,
      x,
      record {
        r_plain = refl;
        r_turned = refl;
        s_plain = one_part minus place s x is;
        s_turned = one_part (not minus) place s (neg_ℤ x) (turned_sign minus _ x is);
        whole = omega (arith, ints, zero);
      },
    )

one_parted : (r s : List Cell) (minus : Bool) (number : Number) (x : ℤ)
    → option_map (with_sign minus) (number_of r s number) ≡ Some x
    → (a : ℤ) × (b : ℤ) × IsOneParted r s minus number x a b
one_parted r s minus (numbers.Given v) x is =
    let same = some-injective (with_sign minus v) x is in (
      pos 0,
      pos 0,
      record {
        r_plain = refl;
        r_turned = refl;
        s_plain = refl;
        s_turned = refl;
        whole = omega (arith, ints, same);
      },
    )
one_parted r s minus (numbers.Cell column) x is = at_side r s column.side minus column.place x is

module _ (r s : List Cell) (minus : Bool) (number : Number) (rest : List SignedTerm) where
  more_parted : (x y z a b c d : ℤ) → IsOneParted r s minus number y a b
      → IsParted r s rest z c d → y +ℤ z ≡ x
      → (a : ℤ) × (b : ℤ) × IsParted r s (record { minus = minus; number = number } ∷ rest) x a b
  more_parted x y z a b c d first others sums =
      let one = first.whole in
      let many = others.whole in (
        a +ℤ c,
        b +ℤ d,
        record {
          r_plain = value_of-both _ _ r a c _ first.r_plain others.r_plain refl;
          r_turned = value_of-both _ _ r (neg_ℤ a) (neg_ℤ c) _ first.r_turned others.r_turned (omega (arith, ints));
          s_plain = value_of-both _ _ s b d _ first.s_plain others.s_plain refl;
          s_turned = value_of-both _ _ s (neg_ℤ b) (neg_ℤ d) _ first.s_turned others.s_turned (omega (arith, ints));
          whole = omega (arith, ints, one, many, sums);
        },
      )

parted : (r s : List Cell) (xs : List SignedTerm) (x : ℤ) → sum_of r s xs ≡ Some x → (a : ℤ) × (b : ℤ)
    × IsParted r s xs x a b
parted r s [] x is =
    let same = some-injective (pos 0) x is in (
      pos 0,
      pos 0,
      record {
        r_plain = refl;
        r_turned = refl;
        s_plain = refl;
        s_turned = refl;
        whole = omega (arith, ints, same);
      },
    )
parted r s (term ∷ rest) x is =
    let parts = plus_some (signed_of r s term) (sum_of r s rest) x is in
    let y = parts.0 in
    let z = parts.1 in
    let first = one_parted r s term.minus term.number y parts.2 in
    let others = parted r s rest z parts.3 in
    more_parted r s term.minus term.number rest x y z first.0 first.1 others.0 others.1 first.2 others.2 parts.4

-- ---- the atom of a difference

between_is : (low high o p : Option ℤ) (x y : ℤ) → o ≡ Some x → p ≡ Some y
    → is_between low high o p ≡ (is_from low (x -ℤ y) && is_up_to high (x -ℤ y))
between_is low high o p x y is_x is_y = ap (λ q. is_between low high q p) is_x ∙ ap (is_between low high (Some x)) is_y

module _ (r s : List Cell) (left right : List SignedTerm) where
  -- where two sums have numbers, the atom of their difference is true if what the columns come to is in its bounds
  pub difference_true : (low high : Option ℤ) (x y : ℤ) → sum_of r s left ≡ Some x → sum_of r s right ≡ Some y
      → ((gap : ℤ) → x -ℤ y ≡ gap +ℤ (constant_of left -ℤ constant_of right)
      → (is_from low gap && is_up_to high gap) ≡ true)
      → is_atom_true (difference left right low high) r s ≡ true
  difference_true low high x y is_x is_y bounds =
      let l = parted r s left x is_x in
      let m = parted r s right y is_y in
      by_parts l.0 l.1 m.0 m.1 l.2 m.2
    where
      by_parts : (a b c d : ℤ) → IsParted r s left x a b → IsParted r s right y c d
          → is_atom_true (difference left right low high) r s ≡ true
      by_parts a b c d l m =
          let whole_l = l.whole in
          let whole_m = m.whole in
          let of_r = value_of-both (columns_of R false left) (columns_of R true right) r a (neg_ℤ c)
          _ l.r_plain m.r_turned refl in
          let of_s = value_of-both (columns_of S true left) (columns_of S false right) s (neg_ℤ b)
          d _ l.s_turned m.s_plain refl in
          between_is low high _ _ (a +ℤ neg_ℤ c) (neg_ℤ b +ℤ d) of_r of_s
          ∙ bounds ((a +ℤ neg_ℤ c) -ℤ (neg_ℤ b +ℤ d)) (omega (arith, ints, whole_l, whole_m))
