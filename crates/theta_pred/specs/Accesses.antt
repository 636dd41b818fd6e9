-- The access of a predicate: the equalities of its conjunctions by which rows of the two sides agree, the tests that
-- read rows of one side alone, and the range of a sum beside them.
use Rattle.std.specs.Prelude.{◌≡◌, ℕ, ⊤, Bool, true, false, List, [], ◌∷◌, ◌++◌, map, ℤ, ◌-ℤ◌, neg_ℤ, Option, Some}
use Rattle.std.specs.Prelude.{None}
use Rattle.std.specs.Prelude.{option_map, option_to_list, not, ◌&&◌, ◌||◌, IsTrue, if◌then◌else◌}
use Rattle.std.specs.List.{list_all, AllByRecursion}
use Rattle.std.specs.Str.{bytes_eq}
use Rattle.theta_tree.specs.declared.tree.Op.TheVariants.{Eq}
use Rattle.row_cells.specs.declared.table.Cell.{Cell}
use Rattle.row_cells.specs.declared.table.Side.{Side}
use Rattle.row_cells.specs.declared.table.Side.TheVariants.{R, S}
use Rattle.theta_pred.specs.declared.agree.Access.{Access}
use Rattle.theta_pred.specs.declared.agree.Range.{Range}
use Rattle.theta_pred.specs.declared.agree.Range.TheVariants.{Span, Interval}
use Rattle.theta_pred.specs.declared.agree.Same.{Same}
use Rattle.theta_pred.specs.declared.agree.Same.TheVariants.{Texts, Sums, Alone}
use Rattle.theta_pred.specs.declared.atom.Part.{Part}
use Rattle.theta_pred.specs.declared.kind.Kind.{Kind}
use Rattle.theta_pred.specs.declared.kind.Kind.TheVariants.{Band, Inequality}
use Rattle.theta_pred.specs.declared.text_atom.TextAtom.{TextAtom}
use Rattle.theta_pred.specs.declared.tree.SignedTerm.{SignedTerm}
use Rattle.theta_pred.specs.declared.tree.Text.TheVariants as texts'
use Rattle.theta_pred.specs.Formula.{Formula, every, num, txt, Formulas, no_formula, formula, Meaning}
use Rattle.theta_pred.specs.Keys.{Atom, atom_in, atom_of, columns_of, constant_of, is_atom_true, is_between, is_of_kind}
use Rattle.theta_pred.specs.Keys.{key_of, splits}
use Rattle.theta_pred.specs.Linear.{value_of}
use Rattle.theta_pred.specs.OneSided.{is_true_alone, names}
use Rattle.theta_pred.specs.Sums.{of_side}
use Rattle.theta_pred.specs.Spans.{do_enclose, first_met, is_one_sided, met_with, same_test, upright}
use Rattle.theta_pred.specs.TextAtoms.{of_columns, text_at}
use Rattle.theta_pred.specs.Truth.{holds}

-- what two rows agree in: the texts of two columns, or two sums, R's the other and so much more, or a test of the row
-- of one side, whatever stands beside it
pub data Agreement : Type 0 where
  texts : TextAtom → Agreement
  sums : List Part → List Part → ℤ → Agreement
  alone : Side → Formula → Agreement

-- what an agreement that was made says
abbrev pub agreement_of : Same → Agreement
agreement_of (Texts atom) = texts atom
agreement_of (Sums pair) = sums pair.r_sum.parts pair.s_sum.parts pair.gap
agreement_of (Alone it) = alone it.side it.test.formula

-- what all the agreements of an access say
abbrev pub agreements : Access → List Agreement
agreements access = map agreement_of access.sames

-- whether a row of R and one of S agree in it
abbrev pub agrees : List Cell → List Cell → Agreement → Bool
agrees r s (texts atom) = bytes_eq (text_at atom.r r) (text_at atom.s s)
agrees r s (sums a b gap) = is_between (Some gap) (Some gap) (value_of a r) (value_of b s)
agrees r s (alone side f) = is_true_alone side (of_side r s side) f

-- ---- a range, and the terms of an access

-- where sums lie: so far from a sum of the other side, or a sum of this side between two sums of the other
pub data Reach : Type 0 where
  span : Atom → Reach
  interval : Side → Atom → Atom → Reach

-- what a range that was made says
abbrev pub reach_of : Range → Reach
reach_of (Span atom) = span (atom_of atom)
reach_of (Interval it) = interval it.points (atom_of it.lower) (atom_of it.upper)

-- whether the sums of a row of R and one of S lie so
abbrev pub is_reached : Reach → List Cell → List Cell → Bool
is_reached (span atom) r s = is_atom_true atom r s
is_reached (interval points lower upper) r s = is_atom_true lower r s && is_atom_true upper r s

-- the same, where there is a range; a range that is absent is no bound
abbrev pub is_in_range : Option Reach → List Cell → List Cell → Bool
is_in_range None r s = true
is_in_range (Some reach) r s = is_reached reach r s

-- what an access says: the agreements, and the range beside them
pub record Terms : Type 0 where
  pub sames : List Agreement
  pub range : Option Reach

-- the terms of an access that was made
abbrev pub terms_of : Access → Terms
terms_of access = record { sames = agreements access; range = option_map reach_of access.range }

-- whether a row of R and one of S agree in each of these
abbrev pub agree_in_all : List Agreement → List Cell → List Cell → Bool
agree_in_all all r s = list_all (agrees r s) all

-- whether they agree in all of an access
abbrev pub do_agree : Terms → List Cell → List Cell → Bool
do_agree terms r s = agree_in_all terms.sames r s && is_in_range terms.range r s

-- ---- the agreements of a predicate

-- what an equality of two sums says: of each side the parts that name its columns, and the gap between the constants
abbrev pub of_sums : List SignedTerm → List SignedTerm → Agreement
of_sums left right = sums (columns_of R false left ++ columns_of R true right)
    (columns_of S true left ++ columns_of S false right) (neg_ℤ (constant_of left -ℤ constant_of right))

-- what a member says, where it is an equality of both sides
abbrev pub agreement_in : Formula → Option Agreement
agreement_in (num left Eq right) = if splits left right then Some (of_sums left right) else None
agreement_in (txt (texts'.Cell left) Eq (texts'.Cell right)) = option_map texts (of_columns left right)
agreement_in _ = None

-- what a member says of rows of this side, where it names no column of the other
abbrev pub own_in : Side → Formula → Option Agreement
own_in side f = if names (of_side S R side) f then None else Some (alone side f)

-- what a member says by itself; one that names no column says it of both sides
abbrev pub agreements_at : Formula → List Agreement
agreements_at f = option_to_list (agreement_in f) ++ option_to_list (own_in R f) ++ option_to_list (own_in S f)

abbrev mutual
  -- the agreements of a predicate's conjunctions, in the order of writing
  pub agreements_of : Formula → List Agreement
  agreements_of (every fs) = agreements_in fs
  agreements_of f = agreements_at f

  -- the agreements of a conjunction's members, one member after another
  pub agreements_in : Formulas → List Agreement
  agreements_in no_formula = []
  agreements_in (formula f fs) = agreements_of f ++ agreements_in fs

-- ---- the range of a predicate

-- what a member says of two sums, where it is a test of this kind; written so that R's sum doesn't begin with a minus
abbrev pub span_in : Kind → Formula → Option Atom
span_in kind f = if is_of_kind kind f then option_map (upright R) (atom_in f) else None

abbrev mutual
  -- the tests of this kind in a predicate's conjunctions, in the order of writing
  pub spans_of : Kind → Formula → List Atom
  spans_of kind (every fs) = spans_in kind fs
  spans_of kind f = option_to_list (span_in kind f)

  -- those of a conjunction's members, one member after another
  pub spans_in : Kind → Formulas → List Atom
  spans_in kind no_formula = []
  spans_in kind (formula f fs) = spans_of kind f ++ spans_in kind fs

-- all that can give a range: the bands, and then the inequalities
abbrev pub spans : Formula → List Atom
spans f = spans_of Band f ++ spans_of Inequality f

-- the first of two ranges that is there
abbrev pub first_reach : Option Reach → Option Reach → Option Reach
first_reach (Some reach) other = Some reach
first_reach None other = other

-- the interval of this side's sum that two tests make, in either order
abbrev pub interval_of_two : Side → Atom → Atom → Option Reach
interval_of_two points a b =
    if do_enclose points a b then Some (interval points a b)
    else (if do_enclose points b a then Some (interval points b a) else None)

-- the first interval of this side's sum that a test makes with one of these
abbrev pub first_interval : Side → Atom → List Atom → Option Reach
first_interval points atom [] = None
first_interval points atom (other ∷ others) =
    first_reach (interval_of_two points atom (upright points other)) (first_interval points atom others)

-- the first interval of R's sum that a test makes with one of these; where there is none, the first of S's
abbrev pub interval_among : Atom → List Atom → Option Reach
interval_among atom others =
    first_reach (first_interval R (upright R atom) others) (first_interval S (upright S atom) others)

-- what a test says that has two bounds, or makes an interval with one of these
abbrev pub narrow_of : Atom → List Atom → Option Reach
narrow_of atom others = if is_one_sided atom then interval_among atom others else Some (span atom)

-- the first of some tests that does, each met with all these that are of the same sums
abbrev pub first_narrow : List Atom → List Atom → Option Reach
first_narrow all [] = None
first_narrow all (atom ∷ rest) = first_reach (narrow_of (met_with atom all) all) (first_narrow all rest)

-- the range of some tests: the first that is bounded on both sides; where there is none, the span of the first test
abbrev pub range_of : List Atom → Option Reach
range_of atoms = first_reach (first_narrow atoms atoms) (option_map span (first_met atoms))

-- ---- the access

-- the agreements and the range of a predicate
abbrev pub all_terms : Formula → Terms
all_terms f = record { sames = agreements_of f; range = range_of (spans f) }

-- whether there is an agreement
abbrev pub has_same : List Agreement → Bool
has_same [] = false
has_same (a ∷ rest) = true

-- whether a range says more than this key atom
abbrev pub tells_more : Option Atom → Option Reach → Bool
tells_more key None = false
tells_more (Some key) (Some (span atom)) = not (same_test (upright R key) atom)
tells_more key (Some reach) = true

-- the access of a predicate, where it has one: all its agreements and its range. None where it has no agreement, and
-- the range is none or only the key atom: the index of the key atom serves then.
abbrev pub access_of : Formula → Option Terms
access_of f = if has_same (agreements_of f) || tells_more (key_of f) (range_of (spans f)) then Some (all_terms f)
    else None

-- ---- the rows that its tests read

-- a test of one side that was made reads rows of these widths
abbrev pub IsOver : ℕ → ℕ → Same → Type 0
IsOver width_r width_s (Texts atom) = ⊤
IsOver width_r width_s (Sums pair) = ⊤
IsOver width_r width_s (Alone it) = (it.test.width_r ≡ width_r) × (it.test.width_s ≡ width_s)

-- and so does each of these that is such a test
abbrev pub AreOver : ℕ → ℕ → List Same → Type 0
AreOver width_r width_s sames = AllByRecursion (IsOver width_r width_s) sames

-- the tests of one side in an access read rows of the predicate's own widths
abbrev pub IsOverRows : Meaning → Option Access → Type 0
IsOverRows theta None = ⊤
IsOverRows theta (Some access) = AreOver theta.width_r theta.width_s access.sames

-- rows agree in all of an access where the predicate is true of them
abbrev pub IsAccessOf : Meaning → Terms → Type 0
IsAccessOf theta terms = (r s : List Cell) → IsTrue (holds theta r s) → IsTrue (do_agree terms r s)

-- a predicate is true of rows that agree in all of an access
abbrev pub Suffices : Meaning → Terms → Type 0
Suffices theta terms = (r s : List Cell) → IsTrue (do_agree terms r s) → IsTrue (holds theta r s)
