-- Tuples of one number that is the one value in which rows agree.
use Rattle.std.proofs.Common.{◌≡◌, ℤ, ◌-ℤ◌, Bool, true, false, ◌&&◌, Option, Some, None, List, [], ◌∷◌, arith, refl, sym}
use Rattle.std.proofs.Common.{ap}
use Rattle.std.specs.Prelude.{filter, int_le, map, option_and_then, option_map}
use Rattle.std.proofs.lemmas.Bool.{false≢true}
use Rattle.std.proofs.lemmas.Int.{ints}
use Rattle.std.proofs.lemmas.List.Elements.{filter_agree}
use Rattle.row_cells.specs.declared.table.Side.{Side}
use Rattle.row_cells.specs.declared.table.Side.TheVariants.{R, S}
use Rattle.epoch_tags.specs.declared.tuple.Tuple.{Tuple}
use Rattle.theta_pred.specs.declared.agree.Access.{Access}
use Rattle.theta_pred.specs.declared.agree.Range.{Range}
use Rattle.theta_pred.specs.declared.agree.Same.{Same}
use Rattle.theta_pred.specs.declared.agree.Same.TheVariants.{Texts, Sums, Alone}
use Rattle.theta_pred.specs.Accesses.{agreement_of, agree_in_all, is_in_range, reach_of}
use Rattle.theta_pred.specs.Keys.{is_between}
use Rattle.theta_pred.specs.Linear.{value_of}
use Rattle.store_parts.specs.Accessed.{is_admitted, is_admitted_at, is_exact, is_exact_by, number_of_row}
use Rattle.store_parts.specs.Accessed.{stand_at, windows_with}
use Rattle.store_parts.specs.Evaluated.{does_stand}
use Rattle.store_parts.specs.Matches.{other_side}
use Rattle.store_parts.specs.Places.{lies_in}
use Rattle.store_parts.proofs.AccessLaw.{admitted_stands}

-- ---- one value

-- what lies in the window of one number is that number
in_one : (n : ℤ) (found : Option ℤ) → lies_in (record { from = n; to = n } ∷ []) found ≡ true → found ≡ Some n
in_one n None is = absurd (false≢true is)
in_one n (Some v) is = let same : v ≡ n = grind (arith, ints, is) in ap Some same

-- two numbers that are so much apart
apart : (gap x y : ℤ) → y ≡ x -ℤ gap → (int_le gap (x -ℤ y) && int_le (x -ℤ y) gap) ≡ true
apart gap x y is = grind (arith, ints, is)

-- the same of numbers that may not be there, where the second was found by the first
found_s : (gap : ℤ) (x y : Option ℤ) (t other : Tuple)
    → lies_in (windows_with None R (option_map (λ v. v -ℤ gap) x) t)
    (option_and_then (λ n. stand_at None S n other) y) ≡ true
    → is_between (Some gap) (Some gap) x y ≡ true
found_s gap None y t other is = absurd (false≢true is)
found_s gap (Some x) None t other is = absurd (false≢true is)
found_s gap (Some x) (Some y) t other is =
    let e : Some y ≡ Some (x -ℤ gap) = in_one (x -ℤ gap) (Some y) is in
    apart gap x y (cc e)

-- and where the first was found by the second
found_r : (gap : ℤ) (x y : Option ℤ) (t other : Tuple)
    → lies_in (windows_with None S y t)
    (option_and_then (λ n. stand_at None R n other)
    (option_map (λ v. v -ℤ gap) x)) ≡ true
    → is_between (Some gap) (Some gap) x y ≡ true
found_r gap None None t other is = absurd (false≢true is)
found_r gap (Some x) None t other is = absurd (false≢true is)
found_r gap None (Some y) t other is = absurd (false≢true is)
found_r gap (Some x) (Some y) t other is =
    let e : Some (x -ℤ gap) ≡ Some y = in_one y (Some (x -ℤ gap)) is in
    apart gap x y (sym (cc e))

-- ---- an access

-- whether a tuple of this side and one of the other agree in these
abbrev agree_by : Side → List Same → Option Range → Tuple → Tuple → Bool
agree_by R sames range t other =
    agree_in_all (map agreement_of sames) t.cells other.cells
    && is_in_range (option_map reach_of range) t.cells other.cells
agree_by S sames range t other =
    agree_in_all (map agreement_of sames) other.cells t.cells
    && is_in_range (option_map reach_of range) other.cells t.cells

-- whether the one stands where the other asks
abbrev stands_where : Side → List Same → Option Range → Tuple → Tuple → Bool
stands_where side sames range t other =
    lies_in (windows_with range side (number_of_row side sames t.cells) t)
    (option_and_then (λ n. stand_at range (other_side side) n other)
    (number_of_row (other_side side) sames other.cells))

exact_by : (side : Side) (sames : List Same) (range : Option Range) (t other : Tuple) → is_exact_by sames range ≡ true
    → stands_where side sames range t other ≡ true → agree_by side sames range t other ≡ true
exact_by side [] range t other exact is = absurd (false≢true exact)
exact_by side (Texts atom ∷ sames) range t other exact is = absurd (false≢true exact)
exact_by side (Alone it ∷ sames) range t other exact is = absurd (false≢true exact)
exact_by side (Sums pair ∷ same ∷ sames) range t other exact is = absurd (false≢true exact)
exact_by side (Sums pair ∷ []) (Some range) t other exact is = absurd (false≢true exact)
exact_by R (Sums pair ∷ []) None t other exact is =
    ap (λ b. (b && true) && true) (found_s pair.gap (value_of pair.r_sum.parts t.cells)
    (value_of pair.s_sum.parts other.cells) t other is)
exact_by S (Sums pair ∷ []) None t other exact is =
    ap (λ b. (b && true) && true) (found_r pair.gap (value_of pair.r_sum.parts other.cells)
    (value_of pair.s_sum.parts t.cells) t other is)

exact_at : (side : Side) (access : Access) (t other : Tuple) → is_exact access ≡ true
    → stands_where side access.sames access.range t other ≡ true → is_admitted_at side access t other ≡ true
exact_at R access t other exact is = exact_by R access.sames access.range t other exact is
exact_at S access t other exact is = exact_by S access.sames access.range t other exact is

-- a stored tuple that stands where one that probes asks agrees with it, where the access is exact
pub exact_admits : (access : Access) (t other : Tuple) → is_exact access ≡ true → does_stand access t other ≡ true
    → is_admitted access t other ≡ true
exact_admits access t other exact is = exact_at t.side access t other exact is

-- two tests of which each follows from the other are one
one_test : (a b : Bool) → (a ≡ true → b ≡ true) → (b ≡ true → a ≡ true) → a ≡ b
one_test true b to from = sym (to refl)
one_test false true to from = from refl
one_test false false to from = refl

-- so all that stand where it asks agree
pub exact_kept : (access : Access) (t : Tuple) (others : List Tuple) → is_exact access ≡ true
    → filter (does_stand access t) others ≡ filter (is_admitted access t) others
exact_kept access t others exact =
    filter_agree (does_stand access t) (is_admitted access t) (λ other. one_test (does_stand access t other)
    (is_admitted access t other) (exact_admits access t other exact) (admitted_stands access t other)) others
