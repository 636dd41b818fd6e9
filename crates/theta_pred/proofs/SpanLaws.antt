-- Where a predicate is true of two rows, so are the tests of its conjunctions, and their sums lie in its range.
use Rattle.std.proofs.Common.{◌≡◌, Bool, true, false, cond, List, [], ◌∷◌, ◌++◌, Option, Some, None, refl, ◌∙◌}
use Rattle.std.specs.Prelude.{option_map, option_to_list}
use Rattle.std.proofs.lemmas.List.Folds.{list_all-append}
use Rattle.row_cells.specs.declared.table.Cell.{Cell}
use Rattle.row_cells.specs.declared.table.Side.{Side}
use Rattle.row_cells.specs.declared.table.Side.TheVariants.{R, S}
use Rattle.theta_pred.specs.declared.kind.Kind.{Kind}
use Rattle.theta_pred.specs.declared.kind.Kind.TheVariants.{Band, Inequality}
use Rattle.theta_pred.specs.Accesses.{first_interval, first_narrow, first_reach, interval, interval_among}
use Rattle.theta_pred.specs.Accesses.{interval_of_two, is_in_range, narrow_of, range_of, span, span_in, spans}
use Rattle.theta_pred.specs.Accesses.{spans_in, spans_of, Reach}
use Rattle.theta_pred.specs.Formula.{Formula, any, every, negation, num, band, txt, Formulas, no_formula, formula}
use Rattle.theta_pred.specs.Keys.{Atom, atom_in, is_atom_true, is_of_kind}
use Rattle.theta_pred.specs.Spans.{do_enclose, first_met, is_one_sided, met_with, upright}
use Rattle.theta_pred.specs.Truth.{is_true, each_is_true}
use Rattle.theta_pred.proofs.KeyMembers.{and_left, and_right, atom-true}
use Rattle.theta_pred.proofs.SumTests.{are_true, both, met_with-true, upright-true}

-- of two lists of tests that are both true, all are
are_both_true : (r s : List Cell) (xs ys : List Atom) → are_true r s xs ≡ true → are_true r s ys ≡ true
    → are_true r s (xs ++ ys) ≡ true
are_both_true r s xs ys first second =
    list_all-append (λ atom. is_atom_true atom r s) xs ys ∙ both (are_true r s xs) (are_true r s ys) first second

-- the test that there may be is true as well, with its sum the right way up
one_true : (r s : List Cell) (o : Option Atom) → ((atom : Atom) → o ≡ Some atom → is_atom_true atom r s ≡ true)
    → are_true r s (option_to_list (option_map (upright R) o)) ≡ true
one_true r s None each = refl
one_true r s (Some atom) each = both (is_atom_true (upright R atom) r s) true (upright-true R atom r s (each atom refl))
    refl

span_in-law : (kind : Kind) (r s : List Cell) (f : Formula) → is_true r s f ≡ true
    → are_true r s (option_to_list (span_in kind f)) ≡ true
span_in-law kind r s f is = by_test (is_of_kind kind f) refl
  where
    by_test : (b : Bool) → is_of_kind kind f ≡ b
        → are_true r s (option_to_list (cond b (option_map (upright R) (atom_in f)) None)) ≡ true
    by_test true test = one_true r s (atom_in f) (λ atom here. atom-true kind f atom r s test is here)
    by_test false test = refl

mutual
  -- the tests of one kind are true where the predicate is
  pub spans_of-law : (kind : Kind) (r s : List Cell) (f : Formula) → is_true r s f ≡ true
      → are_true r s (spans_of kind f) ≡ true
  spans_of-law kind r s (any fs) is = span_in-law kind r s (any fs) is
  spans_of-law kind r s (every fs) is = spans_in-law kind r s fs is
  spans_of-law kind r s (negation f) is = span_in-law kind r s (negation f) is
  spans_of-law kind r s (num left op right) is = span_in-law kind r s (num left op right) is
  spans_of-law kind r s (band sum op bound) is = span_in-law kind r s (band sum op bound) is
  spans_of-law kind r s (txt left op right) is = span_in-law kind r s (txt left op right) is

  pub spans_in-law : (kind : Kind) (r s : List Cell) (fs : Formulas) → each_is_true r s fs ≡ true
      → are_true r s (spans_in kind fs) ≡ true
  spans_in-law kind r s no_formula is = refl
  spans_in-law kind r s (formula f fs) is =
      are_both_true r s (spans_of kind f) (spans_in kind fs)
      (spans_of-law kind r s f (and_left (is_true r s f) (each_is_true r s fs) is))
      (spans_in-law kind r s fs (and_right (is_true r s f) (each_is_true r s fs) is))

-- all tests that can give the range are true where the predicate is
pub spans-law : (r s : List Cell) (f : Formula) → is_true r s f ≡ true → are_true r s (spans f) ≡ true
spans-law r s f is =
    are_both_true r s (spans_of Band f) (spans_of Inequality f)
    (spans_of-law Band r s f is)
    (spans_of-law Inequality r s f is)

-- ---- the range

first_in : (r s : List Cell) (o p : Option Reach) → is_in_range o r s ≡ true → is_in_range p r s ≡ true
    → is_in_range (first_reach o p) r s ≡ true
first_in r s None p one two = two
first_in r s (Some reach) p one two = one

two_in : (r s : List Cell) (points : Side) (a b : Atom) → is_atom_true a r s ≡ true → is_atom_true b r s ≡ true
    → is_in_range (interval_of_two points a b) r s ≡ true
two_in r s points a b one two = by_tests (do_enclose points a b) (do_enclose points b a)
  where
    by_tests : (t u : Bool)
        → is_in_range (cond t (Some (interval points a b)) (cond u (Some (interval points b a)) None)) r s ≡ true
    by_tests true u = both (is_atom_true a r s) (is_atom_true b r s) one two
    by_tests false true = both (is_atom_true b r s) (is_atom_true a r s) two one
    by_tests false false = refl

interval_in : (r s : List Cell) (points : Side) (atom : Atom) (others : List Atom) → is_atom_true atom r s ≡ true
    → are_true r s others ≡ true → is_in_range (first_interval points atom others) r s ≡ true
interval_in r s points atom [] one all = refl
interval_in r s points atom (other ∷ others) one all =
    first_in r s (interval_of_two points atom (upright points other)) (first_interval points atom others)
    (two_in r s points atom (upright points other) one
    (upright-true points other r s (and_left (is_atom_true other r s) (are_true r s others) all)))
    (interval_in r s points atom others one (and_right (is_atom_true other r s) (are_true r s others) all))

among_in : (r s : List Cell) (atom : Atom) (others : List Atom) → is_atom_true atom r s ≡ true
    → are_true r s others ≡ true → is_in_range (interval_among atom others) r s ≡ true
among_in r s atom others one all =
    first_in r s (first_interval R (upright R atom) others) (first_interval S (upright S atom) others)
    (interval_in r s R (upright R atom) others (upright-true R atom r s one) all)
    (interval_in r s S (upright S atom) others (upright-true S atom r s one) all)

narrow_in : (r s : List Cell) (atom : Atom) (others : List Atom) → is_atom_true atom r s ≡ true
    → are_true r s others ≡ true → is_in_range (narrow_of atom others) r s ≡ true
narrow_in r s atom others one all = by_test (is_one_sided atom)
  where
    by_test : (t : Bool) → is_in_range (cond t (interval_among atom others) (Some (span atom))) r s ≡ true
    by_test true = among_in r s atom others one all
    by_test false = one

first_narrow_in : (r s : List Cell) (all atoms : List Atom) → are_true r s all ≡ true → are_true r s atoms ≡ true
    → is_in_range (first_narrow all atoms) r s ≡ true
first_narrow_in r s all [] each some = refl
first_narrow_in r s all (atom ∷ rest) each some =
    first_in r s (narrow_of (met_with atom all) all) (first_narrow all rest)
    (narrow_in r s (met_with atom all) all
    (met_with-true r s atom all (and_left (is_atom_true atom r s) (are_true r s rest) some) each) each)
    (first_narrow_in r s all rest each (and_right (is_atom_true atom r s) (are_true r s rest) some))

first_met_in : (r s : List Cell) (atoms : List Atom) → are_true r s atoms ≡ true
    → is_in_range (option_map span (first_met atoms)) r s ≡ true
first_met_in r s [] all = refl
first_met_in r s (atom ∷ rest) all =
    met_with-true r s atom (atom ∷ rest) (and_left (is_atom_true atom r s) (are_true r s rest) all) all

-- rows of which all tests are true lie in their range
pub range_of-law : (r s : List Cell) (atoms : List Atom) → are_true r s atoms ≡ true
    → is_in_range (range_of atoms) r s ≡ true
range_of-law r s atoms all =
    first_in r s (first_narrow atoms atoms) (option_map span (first_met atoms))
    (first_narrow_in r s atoms atoms all all)
    (first_met_in r s atoms all)
