-- The places of the columns in sums, once they are sorted and each is kept once.
use Rattle.std.proofs.Common.{◌≡◌, ℕ, ◌<◌, List, [], ◌∷◌, sym, subst}
use Rattle.std.specs.Prelude.{All, Contains, IsPermutation, IsSorted}
use Rattle.std.specs.Ordering.{nat_cmp}
use Rattle.std.specs.List.Retain.{IsFiltered, DiffersFromLast}
use Rattle.std.proofs.Common.{eqb}
use Rattle.std.proofs.lemmas.List.Elements.{All-append, All-cons, All-nil, All-contains, Contains-get_or}
use Rattle.std.proofs.lemmas.List.Filters.{dedup_is}
use Rattle.std.proofs.lemmas.List.Kept.{Contains-dedup_nat, Contains-from_dedup}
use Rattle.std.proofs.lemmas.List.Sorted.{Contains-permutation, IsPermutation-sym}
use Rattle.std.proofs.lemmas.Map.Keys.{IsStrictlyIncreasing-dedup}
use Rattle.row_cells.specs.declared.table.Side.{Side}
use Rattle.row_cells.specs.declared.table.Side.TheVariants.{R, S}
use Rattle.theta_pred.specs.declared.tree.SignedTerm.{SignedTerm}
use Rattle.theta_pred.specs.declared.tree.Number.{Number}
use Rattle.theta_pred.specs.declared.tree.Number.TheVariants.{Given, Cell}
use Rattle.theta_pred.specs.Formula.{Formula, any, every, negation, num, band, txt, Formulas, no_formula, formula}
use Rattle.theta_pred.specs.Numeric.{AreNumeric, place_if_on, number_places, term_places, sum_places, all_sum_places}
use Rattle.theta_pred.specs.Sound.{IsNumberWithin, AreWithin, IsSound, AreSound}
use Rattle.theta_pred.specs.Sums.{of_side}

abbrev Under : ℕ → ℕ → Side → ℕ → Type 0
Under width_r width_s side place = place < of_side width_r width_s side

place_if_on-within : (width_r width_s : ℕ) (side on : Side) (place : ℕ) → place < of_side width_r width_s on
    → All (Under width_r width_s side) (place_if_on side on place)
place_if_on-within width_r width_s R R place h = All-cons (Under width_r width_s R) place [] h
    (All-nil (Under width_r width_s R))
place_if_on-within width_r width_s S S place h = All-cons (Under width_r width_s S) place [] h
    (All-nil (Under width_r width_s S))
place_if_on-within width_r width_s R S place h = All-nil (Under width_r width_s R)
place_if_on-within width_r width_s S R place h = All-nil (Under width_r width_s S)

-- the place of a term's column of this side is below the side's width, where that column is there
pub number_places-within : (width_r width_s : ℕ) (side : Side) (number : Number) → IsNumberWithin width_r width_s number
    → All (Under width_r width_s side) (number_places side number)
number_places-within width_r width_s side (Given value) h = All-nil (Under width_r width_s side)
number_places-within width_r width_s side (Cell column) h =
    place_if_on-within width_r width_s side column.side column.place h

term_places-within : (width_r width_s : ℕ) (side : Side) (terms : List SignedTerm) → AreWithin width_r width_s terms
    → All (Under width_r width_s side) (term_places side terms)
term_places-within width_r width_s side [] h = All-nil (Under width_r width_s side)
term_places-within width_r width_s side (term ∷ terms) h =
    All-append (Under width_r width_s side) (number_places side term.number) _
    (number_places-within width_r width_s side term.number h.0)
    (term_places-within width_r width_s side terms h.1)

mutual
  sum_places-within : (width_r width_s : ℕ) (side : Side) (f : Formula) → IsSound width_r width_s f
      → All (Under width_r width_s side) (sum_places side f)
  sum_places-within width_r width_s side (any fs) h = all_sum_places-within width_r width_s side fs h
  sum_places-within width_r width_s side (every fs) h = all_sum_places-within width_r width_s side fs h
  sum_places-within width_r width_s side (negation f) h = sum_places-within width_r width_s side f h
  sum_places-within width_r width_s side (num left op right) h =
      All-append (Under width_r width_s side) (term_places side left) _
      (term_places-within width_r width_s side left h.0.within)
      (term_places-within width_r width_s side right h.1.within)
  sum_places-within width_r width_s side (band sum op bound) h = term_places-within width_r width_s side sum h.within
  sum_places-within width_r width_s side (txt left op right) h = All-nil (Under width_r width_s side)

  all_sum_places-within : (width_r width_s : ℕ) (side : Side) (fs : Formulas) → AreSound width_r width_s fs
      → All (Under width_r width_s side) (all_sum_places side fs)
  all_sum_places-within width_r width_s side no_formula h = All-nil (Under width_r width_s side)
  all_sum_places-within width_r width_s side (formula f fs) h =
      All-append (Under width_r width_s side) (sum_places side f) _ (sum_places-within width_r width_s side f h.0)
      (all_sum_places-within width_r width_s side fs h.1)

module _ (width_r width_s : ℕ) (side : Side) (f : Formula) where
  -- the places of a side in a sound predicate's sums, sorted and each kept once, are the side's numeric columns
  pub AreNumeric-sorted : (added sorted kept : List ℕ)
      → IsSound width_r width_s f → added ≡ sum_places side f → IsPermutation added sorted → IsSorted nat_cmp sorted
      → IsFiltered (DiffersFromLast eqb) [] sorted kept → AreNumeric f side (of_side width_r width_s side) kept
  AreNumeric-sorted added sorted kept sound is permuted in_order filtered =
      let kept_is = dedup_is eqb sorted kept filtered in
      let from : (place : ℕ) → Contains kept place → Contains (sum_places side f) place = λ place h.
      subst (λ places. Contains places place) is
      (Contains-permutation sorted added place (IsPermutation-sym added sorted permuted)
      (Contains-from_dedup eqb sorted place (subst (λ places. Contains places place) kept_is h))) in
      let into : (place : ℕ) → Contains (sum_places side f) place → Contains kept place = λ place h.
      subst (λ places. Contains places place) (sym kept_is)
      (Contains-dedup_nat sorted place
      (Contains-permutation added sorted place permuted (subst (λ places. Contains places place) (sym is) h))) in
      record {
        rising = rw kept_is (IsStrictlyIncreasing-dedup sorted in_order);
        standing = λ place. (from place, into place);
        within = λ k d below. All-contains (Under width_r width_s side) (sum_places side f) _
            (sum_places-within width_r width_s side f sound)
            (from _ (Contains-get_or kept k d below));
      }
