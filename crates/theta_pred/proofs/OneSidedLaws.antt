-- What names no column of one side is true of a row of the other whatever stands beside it.
use Rattle.std.proofs.Common.{◌≡◌, ℕ, Bool, true, false, not, List, [], ◌∷◌, Some, refl, sym, ap, ◌∙◌}
use Rattle.std.specs.Prelude.{option_map, option_and_then, ◌&&◌, ◌||◌}
use Rattle.std.specs.Ordering.{nat_cmp}
use Rattle.std.specs.Cmp.Lexicographic.{slice_cmp}
use Rattle.std.proofs.lemmas.Bool.{false≢true}
use Rattle.row_cells.specs.declared.table.Cell.{Cell}
use Rattle.row_cells.specs.declared.table.Side.{Side}
use Rattle.row_cells.specs.declared.table.Side.TheVariants.{R, S}
use Rattle.theta_pred.specs.declared.tree.SignedTerm.{SignedTerm}
use Rattle.theta_pred.specs.declared.tree.Number.{Number}
use Rattle.theta_pred.specs.declared.tree.Number.TheVariants as numbers
use Rattle.theta_pred.specs.declared.tree.Text.{Text}
use Rattle.theta_pred.specs.declared.tree.Text.TheVariants as texts'
use Rattle.theta_pred.specs.Formula.{Formula, any, every, negation, num, band, txt, Formulas, no_formula, formula}
use Rattle.theta_pred.specs.Keys.{is_some_place, names_side}
use Rattle.theta_pred.specs.Numeric.{number_places, place_if_on}
use Rattle.theta_pred.specs.OneSided.{is_true_alone, names, some_names, text_names}
use Rattle.row_cells.specs.Cells.{text_in}
use Rattle.theta_pred.specs.Sums.{cell_at, number_of, of_side, plus, signed_of, sum_of, text_of, with_sign}
use Rattle.theta_pred.specs.Truth.{allows, compares, each_is_true, is_true, size_of, some_is_true}

-- one of two that is not, where neither is
or_left : (a b : Bool) → (a || b) ≡ false → a ≡ false
or_left true b is = is
or_left false b is = refl

or_right : (a b : Bool) → (a || b) ≡ false → b ≡ false
or_right true b is = absurd (false≢true (sym is))
or_right false b is = is

-- two pairs of rows have the same cells in the columns of all sides but this
abbrev Keeps : Side → List Cell → List Cell → List Cell → List Cell → Type 0
Keeps side r s p q = (on : Side) (place : ℕ) → is_some_place (place_if_on side on place) ≡ false
    → cell_at r s (record { side = on; place = place }) ≡ cell_at p q (record { side = on; place = place })

number_kept : (side : Side) (r s p q : List Cell) → Keeps side r s p q → (n : Number)
    → is_some_place (number_places side n) ≡ false → number_of r s n ≡ number_of p q n
number_kept side r s p q keeps (numbers.Given value) is = refl
number_kept side r s p q keeps (numbers.Cell column) is =
    ap (option_and_then (λ (c : Cell). c.num)) (keeps column.side column.place is)

sum_kept : (side : Side) (r s p q : List Cell) → Keeps side r s p q → (terms : List SignedTerm)
    → names_side side terms ≡ false → sum_of r s terms ≡ sum_of p q terms
sum_kept side r s p q keeps [] is = refl
sum_kept side r s p q keeps (term ∷ terms) is =
    let first = or_left (is_some_place (number_places side term.number)) (names_side side terms) is in
    let later = or_right (is_some_place (number_places side term.number)) (names_side side terms) is in
    ap (λ o. plus (option_map (with_sign term.minus) o) (sum_of r s terms))
    (number_kept side r s p q keeps term.number first)
    ∙ ap (plus (signed_of p q term)) (sum_kept side r s p q keeps terms later)

text_kept : (side : Side) (r s p q : List Cell) → Keeps side r s p q → (text : Text)
    → text_names side text ≡ false → text_of r s text ≡ text_of p q text
text_kept side r s p q keeps (texts'.Given bytes) is = refl
text_kept side r s p q keeps (texts'.Cell column) is = ap text_in (keeps column.side column.place is)

mutual
  -- what names no column of this side has one truth of two pairs of rows that are the same in all other columns
  pub true_kept : (side : Side) (r s p q : List Cell) → Keeps side r s p q → (f : Formula)
      → names side f ≡ false → is_true r s f ≡ is_true p q f
  true_kept side r s p q keeps (any fs) is = some_kept side r s p q keeps fs is
  true_kept side r s p q keeps (every fs) is = each_kept side r s p q keeps fs is
  true_kept side r s p q keeps (negation f) is = ap not (true_kept side r s p q keeps f is)
  true_kept side r s p q keeps (num left op right) is =
      ap (λ o. compares op o (sum_of r s right))
      (sum_kept side r s p q keeps left (or_left (names_side side left) (names_side side right) is))
      ∙ ap (compares op (sum_of p q left))
      (sum_kept side r s p q keeps right (or_right (names_side side left) (names_side side right) is))
  true_kept side r s p q keeps (band sum op bound) is =
      ap (λ o. compares op (option_map size_of o) (Some bound)) (sum_kept side r s p q keeps sum is)
  true_kept side r s p q keeps (txt left op right) is =
      ap (λ x. allows op (slice_cmp nat_cmp x (text_of r s right)))
      (text_kept side r s p q keeps left (or_left (text_names side left) (text_names side right) is))
      ∙ ap (λ x. allows op (slice_cmp nat_cmp (text_of p q left) x))
      (text_kept side r s p q keeps right (or_right (text_names side left) (text_names side right) is))

  -- so have members of which some is true
  pub some_kept : (side : Side) (r s p q : List Cell) → Keeps side r s p q → (fs : Formulas)
      → some_names side fs ≡ false → some_is_true r s fs ≡ some_is_true p q fs
  some_kept side r s p q keeps no_formula is = refl
  some_kept side r s p q keeps (formula f fs) is =
      ap (λ b. b || some_is_true r s fs)
      (true_kept side r s p q keeps f (or_left (names side f) (some_names side fs) is))
      ∙ ap (λ b. is_true p q f || b)
      (some_kept side r s p q keeps fs (or_right (names side f) (some_names side fs) is))

  -- and members of which each is
  pub each_kept : (side : Side) (r s p q : List Cell) → Keeps side r s p q → (fs : Formulas)
      → some_names side fs ≡ false → each_is_true r s fs ≡ each_is_true p q fs
  each_kept side r s p q keeps no_formula is = refl
  each_kept side r s p q keeps (formula f fs) is =
      ap (λ b. b && each_is_true r s fs)
      (true_kept side r s p q keeps f (or_left (names side f) (some_names side fs) is))
      ∙ ap (λ b. is_true p q f && b)
      (each_kept side r s p q keeps fs (or_right (names side f) (some_names side fs) is))

-- a row of R keeps its cells whatever stands beside it
keeps_r : (r s : List Cell) → Keeps S r s r []
keeps_r r s R place is = refl
keeps_r r s S place is = absurd (false≢true (sym is))

-- and so does a row of S
keeps_s : (r s : List Cell) → Keeps R r s [] s
keeps_s r s R place is = absurd (false≢true (sym is))
keeps_s r s S place is = refl

-- a predicate that is true of two rows, and names no column of one side, is true of the other's row alone
pub true_alone : (side : Side) (r s : List Cell) (f : Formula) → names (of_side S R side) f ≡ false
    → is_true r s f ≡ true → is_true_alone side (of_side r s side) f ≡ true
true_alone R r s f names_none is = sym (true_kept S r s r [] (keeps_r r s) f names_none) ∙ is
true_alone S r s f names_none is = sym (true_kept R r s [] s (keeps_s r s) f names_none) ∙ is

-- and true of two rows, where it is of that row alone
pub alone_true : (side : Side) (r s : List Cell) (f : Formula) → names (of_side S R side) f ≡ false
    → is_true_alone side (of_side r s side) f ≡ true → is_true r s f ≡ true
alone_true R r s f names_none is = true_kept S r s r [] (keeps_r r s) f names_none ∙ is
alone_true S r s f names_none is = true_kept R r s [] s (keeps_s r s) f names_none ∙ is
