-- Where a predicate is true of two rows, they agree in each of its agreements.
use Rattle.std.proofs.Common.{◌≡◌, Bool, true, false, cond, List, [], ◌∷◌, Option, Some, None, refl, subst}
use Rattle.std.proofs.Common.{◌∙◌}
use Rattle.std.specs.Prelude.{option_map, option_to_list, ◌++◌, ◌||◌}
use Rattle.std.proofs.lemmas.List.Folds.{list_all-append}
use Rattle.std.proofs.lemmas.Option.{none-some}
use Rattle.std.proofs.lemmas.Slice.Eq.{bytes_eq-Decides}
use Rattle.theta_tree.specs.declared.tree.Op.TheVariants.{Eq, Ne, Lt, Le, Gt, Ge}
use Rattle.row_cells.specs.declared.table.Cell.{Cell}
use Rattle.row_cells.specs.declared.table.Side.{Side}
use Rattle.row_cells.specs.declared.table.Side.TheVariants.{R, S}
use Rattle.theta_pred.specs.declared.text_atom.TextAtom.{TextAtom}
use Rattle.theta_pred.specs.declared.tree.Text.TheVariants as texts'
use Rattle.theta_pred.specs.Accesses.{Agreement, alone, texts, agreement_in, agrees, agree_in_all, own_in, of_sums}
use Rattle.theta_pred.specs.Accesses.{agreements_at, agreements_of, agreements_in}
use Rattle.theta_pred.specs.Accesses.{access_of, all_terms, do_agree, has_same, is_in_range, range_of, spans}
use Rattle.theta_pred.specs.Accesses.{tells_more}
use Rattle.theta_pred.specs.Accesses.{IsAccessOf, Terms}
use Rattle.theta_pred.specs.Formula.{Formula, any, every, negation, num, band, txt, Formulas, no_formula, formula}
use Rattle.theta_pred.specs.Formula.{Meaning}
use Rattle.theta_pred.specs.Keys.{key_of, splits}
use Rattle.theta_pred.specs.OneSided.{names}
use Rattle.theta_pred.specs.Sums.{of_side}
use Rattle.theta_pred.specs.TextAtoms.{of_columns, text_at}
use Rattle.theta_pred.specs.Truth.{is_true, each_is_true}
use Rattle.theta_pred.proofs.KeyLaws.{some-injective}
use Rattle.theta_pred.proofs.KeyMembers.{and_left, and_right, num-true}
use Rattle.theta_pred.proofs.OneSidedLaws.{true_alone}
use Rattle.theta_pred.proofs.SpanLaws.{range_of-law, spans-law}
use Rattle.theta_pred.proofs.SumTests.{both}
use Rattle.theta_pred.proofs.TextEqualities.{of_columns-equal}

one_agrees : (r s : List Cell) (a : Agreement) → agrees r s a ≡ true → agree_in_all (a ∷ []) r s ≡ true
one_agrees r s a is = both (agrees r s a) true is refl

of_split : (r s : List Cell) (b : Bool) (a : Agreement) → agrees r s a ≡ true
    → agree_in_all (option_to_list (cond b (Some a) None)) r s ≡ true
of_split r s true a is = one_agrees r s a is
of_split r s false a is = refl

of_texts : (r s : List Cell) (o : Option TextAtom)
    → ((atom : TextAtom) → o ≡ Some atom → text_at atom.r r ≡ text_at atom.s s)
    → agree_in_all (option_to_list (option_map texts o)) r s ≡ true
of_texts r s None same = refl
of_texts r s (Some atom) same =
    one_agrees r s (texts atom) ((bytes_eq-Decides (text_at atom.r r) (text_at atom.s s)).1 (same atom refl))

-- where a member is true, rows agree in the equality that it is
equality-law : (r s : List Cell) (f : Formula) → is_true r s f ≡ true
    → agree_in_all (option_to_list (agreement_in f)) r s ≡ true
equality-law r s (any fs) is = refl
equality-law r s (every fs) is = refl
equality-law r s (negation f) is = refl
equality-law r s (num left Eq right) is =
    of_split r s (splits left right) (of_sums left right) (num-true r s left right Eq is)
equality-law r s (num left Ne right) is = refl
equality-law r s (num left Lt right) is = refl
equality-law r s (num left Le right) is = refl
equality-law r s (num left Gt right) is = refl
equality-law r s (num left Ge right) is = refl
equality-law r s (band sum op bound) is = refl
equality-law r s (txt (texts'.Given bytes) op right) is = refl
equality-law r s (txt (texts'.Cell left) Eq (texts'.Given bytes)) is = refl
equality-law r s (txt (texts'.Cell left) Eq (texts'.Cell right)) is =
    of_texts r s (of_columns left right)
    (λ atom here. of_columns-equal r s left right atom here is)
equality-law r s (txt (texts'.Cell left) Ne right) is = refl
equality-law r s (txt (texts'.Cell left) Lt right) is = refl
equality-law r s (txt (texts'.Cell left) Le right) is = refl
equality-law r s (txt (texts'.Cell left) Gt right) is = refl
equality-law r s (txt (texts'.Cell left) Ge right) is = refl

-- a row passes what a true member says of its side, by whether the member names columns of the other
own_passes : (side : Side) (r s : List Cell) (f : Formula) (named : Bool) → names (of_side S R side) f ≡ named
    → is_true r s f ≡ true → agree_in_all (option_to_list (cond named None (Some (alone side f)))) r s ≡ true
own_passes side r s f true names_some is = refl
own_passes side r s f false names_none is = one_agrees r s (alone side f) (true_alone side r s f names_none is)

own-law : (side : Side) (r s : List Cell) (f : Formula) → is_true r s f ≡ true
    → agree_in_all (option_to_list (own_in side f)) r s ≡ true
own-law side r s f is = own_passes side r s f (names (of_side S R side) f) refl is

-- rows agree in two lists of agreements where they agree in each
agree-append : (r s : List Cell) (these those : List Agreement) → agree_in_all these r s ≡ true
    → agree_in_all those r s ≡ true → agree_in_all (these ++ those) r s ≡ true
agree-append r s these those one other =
    list_all-append (agrees r s) these those ∙ both (agree_in_all these r s) (agree_in_all those r s) one other

-- where a member is true, rows agree in all that it says by itself
agreements_at-law : (r s : List Cell) (f : Formula) → is_true r s f ≡ true
    → agree_in_all (agreements_at f) r s ≡ true
agreements_at-law r s f is =
    agree-append r s (option_to_list (agreement_in f) ++ option_to_list (own_in R f)) (option_to_list (own_in S f))
    (agree-append r s (option_to_list (agreement_in f)) (option_to_list (own_in R f)) (equality-law r s f is)
    (own-law R r s f is))
    (own-law S r s f is)

mutual
  -- where a predicate is true, rows agree in all of its agreements
  pub agreements_of-law : (r s : List Cell) (f : Formula) → is_true r s f ≡ true
      → agree_in_all (agreements_of f) r s ≡ true
  agreements_of-law r s (any fs) is = agreements_at-law r s (any fs) is
  agreements_of-law r s (every fs) is = agreements_in-law r s fs is
  agreements_of-law r s (negation f) is = agreements_at-law r s (negation f) is
  agreements_of-law r s (num left op right) is = agreements_at-law r s (num left op right) is
  agreements_of-law r s (band sum op bound) is = agreements_at-law r s (band sum op bound) is
  agreements_of-law r s (txt left op right) is = agreements_at-law r s (txt left op right) is

  -- and in those of members of which each is true
  pub agreements_in-law : (r s : List Cell) (fs : Formulas) → each_is_true r s fs ≡ true
      → agree_in_all (agreements_in fs) r s ≡ true
  agreements_in-law r s no_formula is = refl
  agreements_in-law r s (formula f fs) is =
      agree-append r s (agreements_of f) (agreements_in fs)
      (agreements_of-law r s f (and_left (is_true r s f) (each_is_true r s fs) is))
      (agreements_in-law r s fs (and_right (is_true r s f) (each_is_true r s fs) is))

-- the access that a predicate has is all its terms
pub own_terms : (b : Bool) (own terms : Terms) → cond b (Some own) None ≡ Some terms → own ≡ terms
own_terms true own terms is = some-injective own terms is
own_terms false own terms is = absurd (none-some terms is)

-- rows of which a predicate is true agree in all of its access
pub access_of-law : (theta : Meaning) (terms : Terms) → access_of theta.formula ≡ Some terms → IsAccessOf theta terms
access_of-law theta terms is =
    let f = theta.formula in
    let more = has_same (agreements_of f) || tells_more (key_of f) (range_of (spans f)) in
    λ r s holds. subst (λ t. do_agree t r s ≡ true) (own_terms more (all_terms f) terms is)
    (both (agree_in_all (agreements_of f) r s) (is_in_range (range_of (spans f)) r s)
    (agreements_of-law r s f holds)
    (range_of-law r s (spans f) (spans-law r s f holds)))
