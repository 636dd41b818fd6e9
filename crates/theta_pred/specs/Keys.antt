-- The key atom of a predicate: the first test of its top conjunction that an index can serve.
use Rattle.std.specs.Prelude.{ℕ, Bool, true, false, not, ◌&&◌, ◌||◌, List, [], ◌∷◌, ◌++◌, map, ℤ, pos, ◌+ℤ◌, ◌-ℤ◌}
use Rattle.std.specs.Prelude.{neg_ℤ, int_le, Option, Some, None, option_and_then, if◌then◌else◌, IsTrue}
use Rattle.theta_tree.specs.declared.tree.Op.{Op}
use Rattle.theta_tree.specs.declared.tree.Op.TheVariants.{Eq, Lt, Le, Gt, Ge}
use Rattle.row_cells.specs.declared.table.Cell.{Cell}
use Rattle.row_cells.specs.declared.table.Side.{Side}
use Rattle.row_cells.specs.declared.table.Side.TheVariants.{R, S}
use Rattle.theta_pred.specs.declared.atom.Part.{Part}
use Rattle.theta_pred.specs.declared.atom.KeyAtom.{KeyAtom}
use Rattle.theta_pred.specs.declared.kind.Kind.{Kind}
use Rattle.theta_pred.specs.declared.kind.Kind.TheVariants.{Equality, Band, Inequality}
use Rattle.theta_pred.specs.declared.tree.SignedTerm.{SignedTerm}
use Rattle.theta_pred.specs.declared.tree.Number.{Number}
use Rattle.theta_pred.specs.declared.tree.Number.TheVariants as numbers
use Rattle.theta_pred.specs.Formula.{Formula, every, num, band, Formulas, no_formula, formula, Meaning}
use Rattle.theta_pred.specs.Linear.{value_of, AreBelow}
use Rattle.theta_pred.specs.Numeric.{number_places}
use Rattle.theta_pred.specs.Sums.{with_sign}
use Rattle.theta_pred.specs.Truth.{holds}

-- ---- an atom and its truth

-- the columns of the two sums of a test, and the bounds of R's sum less S's
pub record Atom : Type 0 where
  pub r_sum : List Part
  pub s_sum : List Part
  pub low : Option ℤ
  pub high : Option ℤ

-- the atom of a key that was made
abbrev pub atom_of : KeyAtom → Atom
atom_of key = record { r_sum = key.r_sum.parts; s_sum = key.s_sum.parts; low = key.low; high = key.high }

-- the parts of an atom's sum of this side
abbrev pub parts_on : Side → Atom → List Part
parts_on R atom = atom.r_sum
parts_on S atom = atom.s_sum

-- a number lies at a lower bound or above; a bound that is absent is no bound
abbrev pub is_from : Option ℤ → ℤ → Bool
is_from None gap = true
is_from (Some low) gap = int_le low gap

-- a number lies at an upper bound or below
abbrev pub is_up_to : Option ℤ → ℤ → Bool
is_up_to None gap = true
is_up_to (Some high) gap = int_le gap high

-- whether both numbers are there, and the first less the second lies between the bounds
abbrev pub is_between : Option ℤ → Option ℤ → Option ℤ → Option ℤ → Bool
is_between low high (Some x) (Some y) = is_from low (x -ℤ y) && is_up_to high (x -ℤ y)
is_between low high _ _ = false

-- whether the atom is true of a row of R and a row of S
abbrev pub is_atom_true : Atom → List Cell → List Cell → Bool
is_atom_true atom r s = is_between atom.low atom.high (value_of atom.r_sum r) (value_of atom.s_sum s)

-- ---- the parts of a sum

-- the sign of a term, or the other one where turned
abbrev pub flipped : Bool → Bool → Bool
flipped false minus = minus
flipped true minus = not minus

-- the column of a term, where it is one of this side, with this sign
abbrev pub number_columns : Side → Bool → Number → List Part
number_columns side minus number =
    map (λ place. record { minus = minus; column = place }) (number_places side number)

-- the columns of a side in a sum, each with its sign, or with the other one where turned
abbrev pub columns_of : Side → Bool → List SignedTerm → List Part
columns_of side turned [] = []
columns_of side turned (term ∷ terms) =
    number_columns side (flipped turned term.minus) term.number ++ columns_of side turned terms

-- the constant that a term is, and 0 for a column
abbrev pub constant_in : Number → ℤ
constant_in (numbers.Given value) = value
constant_in (numbers.Cell column) = pos 0

-- the sum of a sum's constants
abbrev pub constant_of : List SignedTerm → ℤ
constant_of [] = pos 0
constant_of (term ∷ terms) = with_sign term.minus (constant_in term.number) +ℤ constant_of terms

-- ---- the members that split

-- whether there is a place
abbrev pub is_some_place : List ℕ → Bool
is_some_place [] = false
is_some_place (place ∷ places) = true

-- whether a sum names a column of this side
abbrev pub names_side : Side → List SignedTerm → Bool
names_side side [] = false
names_side side (term ∷ terms) = is_some_place (number_places side term.number) || names_side side terms

-- whether two sums name a column of each side
abbrev pub splits : List SignedTerm → List SignedTerm → Bool
splits left right = (names_side R left || names_side R right) && (names_side S left || names_side S right)

-- whether a comparison of two sums is of this kind
abbrev pub is_num_kind : Kind → Op → Bool
is_num_kind Equality Eq = true
is_num_kind Inequality Lt = true
is_num_kind Inequality Le = true
is_num_kind Inequality Gt = true
is_num_kind Inequality Ge = true
is_num_kind _ _ = false

-- whether a bound on a sum's size is of this kind
abbrev pub is_band_kind : Kind → Op → Bool
is_band_kind Band Lt = true
is_band_kind Band Le = true
is_band_kind _ _ = false

-- whether a member splits, and is of this kind
abbrev pub is_of_kind : Kind → Formula → Bool
is_of_kind kind (num left op right) = is_num_kind kind op && splits left right
is_of_kind kind (band sum op bound) = is_band_kind kind op && splits sum []
is_of_kind kind _ = false

-- ---- the bounds

-- the lower bound of R's columns less S's, where the whole difference has this constant beside them
abbrev pub num_low : Op → ℤ → Option ℤ
num_low Eq constant = Some (neg_ℤ constant)
num_low Ge constant = Some (neg_ℤ constant)
num_low Gt constant = Some (pos 1 -ℤ constant)
num_low _ constant = None

-- their upper bound
abbrev pub num_high : Op → ℤ → Option ℤ
num_high Eq constant = Some (neg_ℤ constant)
num_high Le constant = Some (neg_ℤ constant)
num_high Lt constant = Some (neg_ℤ (pos 1) -ℤ constant)
num_high _ constant = None

-- the greatest size that a band allows
abbrev pub reach : Op → ℤ → ℤ
reach Lt bound = bound -ℤ pos 1
reach _ bound = bound

-- the lower bound of the columns in a band whose sum has this constant beside them
abbrev pub band_low : Op → ℤ → ℤ → Option ℤ
band_low op bound constant = Some (neg_ℤ (reach op bound) -ℤ constant)

-- their upper bound
abbrev pub band_high : Op → ℤ → ℤ → Option ℤ
band_high op bound constant = Some (reach op bound -ℤ constant)

-- the atom of a member that splits: the difference of the two sums, its columns of S turned
abbrev pub difference : List SignedTerm → List SignedTerm → Option ℤ → Option ℤ → Atom
difference left right low high = record {
  r_sum = columns_of R false left ++ columns_of R true right;
  s_sum = columns_of S true left ++ columns_of S false right;
  low = low;
  high = high;
}

-- the atom of a member, if it can have one
abbrev pub atom_in : Formula → Option Atom
atom_in (num left op right) =
    let constant = constant_of left -ℤ constant_of right in
    Some (difference left right (num_low op constant) (num_high op constant))
atom_in (band sum op bound) =
    let constant = constant_of sum in
    Some (difference sum [] (band_low op bound constant) (band_high op bound constant))
atom_in _ = None

-- ---- the key

-- the members of the top conjunction
abbrev pub conjuncts : Formula → Formulas
conjuncts (every fs) = fs
conjuncts f = formula f no_formula

-- the first member of this kind that splits
abbrev pub first_of : Kind → Formulas → Option Formula
first_of kind no_formula = None
first_of kind (formula f fs) = if is_of_kind kind f then Some f else first_of kind fs

-- the first of the two that is there
abbrev pub first_there : Option Formula → Option Formula → Option Formula
first_there (Some f) other = Some f
first_there None other = other

-- the first equality; where there is none, the first band; where there is none, the first inequality
abbrev pub key_member : Formulas → Option Formula
key_member fs = first_there (first_of Equality fs) (first_there (first_of Band fs) (first_of Inequality fs))

-- the key atom of a predicate, where it has one
abbrev pub key_of : Formula → Option Atom
key_of f = option_and_then atom_in (key_member (conjuncts f))

-- ---- what a key atom says of its predicate

-- the columns of the atom's sums lie in rows of these widths
pub record LiesIn (width_r width_s : ℕ) (atom : Atom) : Type 0 where
  pub r : AreBelow width_r atom.r_sum
  pub s : AreBelow width_s atom.s_sum

-- a key atom's columns lie in the rows, and it is true where the predicate is
pub record IsKeyOf (theta : Meaning) (atom : Atom) : Type 0 where
  pub lies : LiesIn theta.width_r theta.width_s atom
  pub follows : (r s : List Cell) → IsTrue (holds theta r s) → IsTrue (is_atom_true atom r s)
