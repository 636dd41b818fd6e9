-- A key atom, a band of values and the places in it.
use Rattle.std.proofs.Common.{◌≡◌, ℕ, ◌+◌, ℤ, ◌+ℤ◌, ◌-ℤ◌, Bool, true, false, cond, ◌&&◌, Option, Some, None, List, []}
use Rattle.std.proofs.Common.{◌∷◌, ◌++◌, length, refl, sym, ap, ◌∙◌, arith, append_assoc, length-append, get_or}
use Rattle.std.proofs.Common.{slice_get}
use Rattle.std.specs.Prelude.{map, filter, int_le, option_map}
use Rattle.std.specs.List.{cons_option}
use Rattle.std.proofs.lemmas.List.{length_push}
use Rattle.std.proofs.lemmas.Option.{slice_get-get_or}
use Rattle.std.proofs.lemmas.Int.{ints}
use Rattle.std.proofs.lemmas.Bool.{false≢true}
use Rattle.row_cells.specs.declared.table.Side.{Side}
use Rattle.row_cells.specs.declared.table.Side.TheVariants.{R, S}
use Rattle.epoch_tags.specs.declared.tuple.Tuple.{Tuple}
use Rattle.theta_pred.specs.declared.atom.KeyAtom.{KeyAtom}
use Rattle.theta_pred.specs.Keys.{is_from, is_up_to, is_between}
use Rattle.store_parts.specs.Places.{lies, places_by}
use Rattle.store_parts.specs.Keyed.{at_places, is_key_true, is_key_true_at, value_at, least_at, greatest_at}
use Rattle.store_parts.specs.Matches.{other_side}

-- ---- the band

less_swap : (x y h : ℤ) → int_le (x -ℤ h) y ≡ int_le (x -ℤ y) h
less_swap x y h = grind (arith, ints)

less_keep : (x y l : ℤ) → int_le y (x -ℤ l) ≡ int_le l (x -ℤ y)
less_keep x y l = grind (arith, ints)

plus_low : (x y l : ℤ) → int_le (y +ℤ l) x ≡ int_le l (x -ℤ y)
plus_low x y l = grind (arith, ints)

plus_high : (x y h : ℤ) → int_le x (y +ℤ h) ≡ int_le (x -ℤ y) h
plus_high x y h = grind (arith, ints)

-- two tests together say what two others do, where each says what its counterpart does
pub both : (a b c d : Bool) → a ≡ b → c ≡ d → (a && c) ≡ (b && d)
both a b c d p q = cc

crossed : (a b c d : Bool) → a ≡ d → c ≡ b → (a && c) ≡ (b && d)
crossed true true c d p q = cc
crossed true false c d p q = ap (λ x. true && x) q
crossed false b c true p q = absurd (false≢true p)
crossed false true c false p q = refl
crossed false false c false p q = refl

low_of_r : (low : Option ℤ) (x y : ℤ) → is_up_to (option_map (λ l. x -ℤ l) low) y ≡ is_from low (x -ℤ y)
low_of_r None x y = refl
low_of_r (Some l) x y = less_keep x y l

high_of_r : (high : Option ℤ) (x y : ℤ) → is_from (option_map (λ h. x -ℤ h) high) y ≡ is_up_to high (x -ℤ y)
high_of_r None x y = refl
high_of_r (Some h) x y = less_swap x y h

low_of_s : (low : Option ℤ) (x y : ℤ) → is_from (option_map (λ l. y +ℤ l) low) x ≡ is_from low (x -ℤ y)
low_of_s None x y = refl
low_of_s (Some l) x y = plus_low x y l

high_of_s : (high : Option ℤ) (x y : ℤ) → is_up_to (option_map (λ h. y +ℤ h) high) x ≡ is_up_to high (x -ℤ y)
high_of_s None x y = refl
high_of_s (Some h) x y = plus_high x y h

band_of_r : (low high : Option ℤ) (x : ℤ) (y : Option ℤ) → lies (option_map (λ h. x -ℤ h) high)
    (option_map (λ l. x -ℤ l) low) y ≡ is_between low high (Some x) y
band_of_r low high x None = refl
band_of_r low high x (Some y) = crossed _ _ _ _ (high_of_r high x y) (low_of_r low x y)

band_of_s : (low high : Option ℤ) (x : Option ℤ) (y : ℤ) → lies (option_map (λ l. y +ℤ l) low)
    (option_map (λ h. y +ℤ h) high) x ≡ is_between low high x (Some y)
band_of_s low high None y = refl
band_of_s low high (Some x) y = both _ _ _ _ (low_of_s low x y) (high_of_s high x y)

no_value_r : (low high x y : Option ℤ) → x ≡ None → is_between low high x y ≡ false
no_value_r low high x y none = ap (λ z. is_between low high z y) none

no_value_s : (low high x y : Option ℤ) → y ≡ None → is_between low high x y ≡ false
no_value_s low high None y none = refl
no_value_s low high (Some x) y none = ap (λ z. is_between low high (Some x) z) none

-- the same, over the side
pub band_at : (side : Side) (key : KeyAtom) (t other : Tuple) (v : ℤ) → value_at key side t ≡ Some v
    → lies (least_at side key v) (greatest_at side key v) (value_at key (other_side side) other)
    ≡ is_key_true_at side key t other
band_at R key t other v is = band_of_r key.low key.high v (value_at key S other)
    ∙ ap (λ x. is_between key.low key.high x (value_at key S other)) (sym is)
band_at S key t other v is = band_of_s key.low key.high (value_at key R other) v
    ∙ ap (λ y. is_between key.low key.high (value_at key R other) y) (sym is)

-- the band holds the values of those with which the key atom is true
pub band_is_key : (key : KeyAtom) (t other : Tuple) (v : ℤ) → value_at key t.side t ≡ Some v
    → lies (least_at t.side key v) (greatest_at t.side key v) (value_at key (other_side t.side) other)
    ≡ is_key_true key t other
band_is_key key t other v is = band_at t.side key t other v is

-- the same, over the side
pub no_key_at : (side : Side) (key : KeyAtom) (t other : Tuple) → value_at key side t ≡ None
    → is_key_true_at side key t other ≡ false
no_key_at R key t other none = no_value_r key.low key.high _ (value_at key S other) none
no_key_at S key t other none = no_value_s key.low key.high (value_at key R other) _ none

-- without a value the key atom is true with none
pub no_key : (key : KeyAtom) (t other : Tuple) → value_at key t.side t ≡ None → is_key_true key t other ≡ false
no_key key t other none = no_key_at t.side key t other none

-- ---- the places

get_or_mid : {X : Type 0} (before : List X) (x : X) (xs : List X) → get_or (before ++ x ∷ xs) (length before) x ≡ x
get_or_mid [] x xs = refl
get_or_mid (y ∷ before) x xs = get_or_mid before x xs

get_middle : {X : Type 0} (before : List X) (x : X) (xs : List X)
    → slice_get (before ++ x ∷ xs) (length before) ≡ Some x
get_middle before x xs = slice_get-get_or (before ++ x ∷ xs) (length before) x (omega (
  arith,
  length-append before (x ∷ xs),
)) ∙ ap Some (get_or_mid before x xs)

keep_at : {X : Type 0} (b : Bool) (n : ℕ) (all : List X) (x : X) (places : List ℕ) (kept : List X)
    → slice_get all n ≡ Some x → at_places all places ≡ kept
    → at_places all (cond b (n ∷ places) places) ≡ cond b (x ∷ kept) kept
keep_at true n all x places kept here rest = ap (λ o. cons_option o (at_places all places)) here
    ∙ ap (λ xs. x ∷ xs) rest
keep_at false n all x places kept here rest = rest

places_after : {X : Type 0} (value : X → Option ℤ) (test : Option ℤ → Bool) (n : ℕ) (before xs all : List X)
    → all ≡ before ++ xs → n ≡ length before
    → at_places all (places_by test n (map value xs)) ≡ filter (λ x. test (value x)) xs
places_after value test n before [] all whole at = refl
places_after value test n before (x ∷ xs) all whole at =
    let here : slice_get all n ≡ Some x = rw (whole, at) (get_middle before x xs) in
    let rest = places_after value test (n + 1) (before ++ x ∷ []) xs all
    (whole ∙ sym (append_assoc before (x ∷ []) xs)) (rw at (sym (length_push before x))) in
    keep_at (test (value x)) n all x (places_by test (n + 1) (map value xs)) _ here rest

-- the tuples at the places of the values that pass a test are those whose values do
pub at_places_by : {X : Type 0} (value : X → Option ℤ) (test : Option ℤ → Bool) (xs : List X)
    → at_places xs (places_by test 0 (map value xs)) ≡ filter (λ x. test (value x)) xs
at_places_by value test xs = places_after value test 0 [] xs xs refl refl
