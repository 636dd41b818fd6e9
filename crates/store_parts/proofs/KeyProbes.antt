-- A probe by the key finds what a scan finds, and evaluates those with which the key atom is true.
use Rattle.std.proofs.Common.{◌≡◌, ℕ, ◌+◌, ◌<◌, ◌≤◌, ℤ, Bool, true, false, cond, ◌&&◌, Option, Some, None, List, []}
use Rattle.std.proofs.Common.{◌∷◌, ◌++◌, length, take, drop, refl, sym, ap, subst, ◌∙◌, arith, slice_get, Result, Ok}
use Rattle.std.proofs.Common.{Err, inl, inr, suc}
use Rattle.std.specs.Prelude.{IfOk}
use Rattle.std.specs.Prelude.{map, filter, count_by}
use Rattle.std.specs.List.{sum_by, All, Contains, cons_option}
use Rattle.std.proofs.lemmas.Bool.{false≢true}
use Rattle.std.proofs.lemmas.List.{take-append-drop, length-map}
use Rattle.std.proofs.lemmas.List.Sums.{length-filter, sum_by-cons}
use Rattle.std.proofs.lemmas.List.Elements.{All-cons, All-contains, All-tail, Contains-append_left, Contains-push}
use Rattle.std.proofs.lemmas.List.Elements.{filter_map-append}
use Rattle.std.proofs.lemmas.Option.{slice_get_cases, slice_get_within, get_or_from_slice_get}
use Rattle.row_cells.specs.declared.table.Side.{Side}
use Rattle.row_cells.specs.declared.table.Side.TheVariants.{R, S}
use Rattle.epoch_tags.specs.declared.tuple.Tuple.{Tuple}
use Rattle.epoch_tags.specs.declared.tuple.Pair.{Pair}
use Rattle.theta_pred.specs.declared.atom.KeyAtom.{KeyAtom}
use Rattle.theta_pred.specs.Formula.{Meaning}
use Rattle.theta_pred.specs.Keys.{Atom, atom_of, key_of, IsKeyOf}
use Rattle.theta_pred.specs.Truth.{holds}
use Rattle.store_parts.specs.declared.by_stamp.Which.{Which}
use Rattle.store_parts.specs.Places.{lies, places_between, places_by, IsMapOf}
use Rattle.store_parts.specs.Keyed.{at_places, is_key_true, is_key_true_at, value_at, values_at, least_at, greatest_at}
use Rattle.store_parts.specs.Matches.{other_side, is_named, is_found, does_match, does_match_at, pair_of}
use Rattle.store_parts.specs.Evaluated.{evaluated}
use Rattle.store_parts.specs.Matches.{matches, AppendsFront}
use Rattle.store_parts.specs.Evaluated.{stands_by}
use Rattle.store_parts.proofs.Keys.{band_is_key, no_key, at_places_by}
use Rattle.store_parts.proofs.OneMoreTuple.{matches-append, take_one, count_by-append}
use Rattle.row_cells.proofs.Bags.{sum-same}
use Rattle.theta_pred.proofs.KeyMembers.{and_left}

-- ---- sums over filters

sum_cond : {X : Type 0} (f : X → ℕ) (b : Bool) (x : X) (ys : List X)
    → sum_by f (cond b (x ∷ ys) ys) ≡ cond b (f x) 0 + sum_by f ys
sum_cond f true x ys = sum_by-cons f x ys
sum_cond f false x ys = omega arith

sum-filter : {X : Type 0} (f : X → ℕ) (keep : X → Bool) (xs : List X)
    → sum_by f (filter keep xs) ≡ sum_by (λ x. cond (keep x) (f x) 0) xs
sum-filter f keep [] = refl
sum-filter f keep (x ∷ xs) =
    sum_cond f (keep x) x (filter keep xs)
    ∙ ap (λ n. cond (keep x) (f x) 0 + n) (sum-filter f keep xs)
    ∙ sym (sum_by-cons (λ y. cond (keep y) (f y) 0) x xs)

-- ---- filters

filter_step : {X : Type 0} (p : X → Bool) (a b : Bool) (x : X) (ys zs : List X) → p x ≡ b → (b ≡ true → a ≡ true)
    → filter p ys ≡ zs → filter p (cond a (x ∷ ys) ys) ≡ cond b (x ∷ zs) zs
filter_step p true b x ys zs here needs rest = ap (λ c. cond c (x ∷ filter p ys) (filter p ys)) here
    ∙ ap (λ l. cond b (x ∷ l) l) rest
filter_step p false true x ys zs here needs rest = absurd (false≢true (needs refl))
filter_step p false false x ys zs here needs rest = rest

-- what passes p passes q
pub filter_of_filter : {X : Type 0} (p q : X → Bool) → ((x : X) → p x ≡ true → q x ≡ true) → (xs : List X)
    → filter p (filter q xs) ≡ filter p xs
filter_of_filter p q needs [] = refl
filter_of_filter p q needs (x ∷ xs) = filter_step p (q x) (p x) x (filter q xs) (filter p xs) refl (needs x)
    (filter_of_filter p q needs xs)

-- a test that nothing passes keeps nothing
pub filter_none : {X : Type 0} (p : X → Bool) → ((x : X) → p x ≡ false) → (xs : List X) → filter p xs ≡ []
filter_none p none [] = refl
filter_none p none (x ∷ xs) = ap (λ b. cond b (x ∷ filter p xs) (filter p xs)) (none x) ∙ filter_none p none xs

-- 1 if true, else 0
abbrev tally : Bool → ℕ
tally b = cond b 1 0

one_if_both : (a b : Bool) → cond b (tally a) 0 ≡ tally (a && b)
one_if_both true true = refl
one_if_both true false = refl
one_if_both false true = refl
one_if_both false false = refl

-- of what a test keeps, as many pass another as pass both
pub count_of_filter : {X : Type 0} (p q r : X → Bool) → ((x : X) → q x ≡ r x) → (xs : List X)
    → count_by p (filter q xs) ≡ count_by (λ x. p x && r x) xs
count_of_filter p q r same xs =
    sum-filter (λ x. tally (p x)) q xs
    ∙ sum-same (λ x. cond (q x) (tally (p x)) 0) (λ x. tally (p x && r x))
    (λ x. ap (λ b. cond b (tally (p x)) 0) (same x) ∙ one_if_both (p x) (r x)) xs

-- ---- the law of the key

-- what the key atom says of the predicate
abbrev pub IsLaw : Meaning → Type 0
IsLaw theta = (atom : Atom) → key_of theta.formula ≡ Some atom → IsKeyOf theta atom

key_at : (side : Side) (theta : Meaning) (key : KeyAtom) (t other : Tuple) → IsLaw theta
    → key_of theta.formula ≡ Some (atom_of key) → does_match_at side theta t other ≡ true
    → is_key_true_at side key t other ≡ true
key_at R theta key t other law own holds = (law (atom_of key) own).follows t.cells other.cells holds
key_at S theta key t other law own holds = (law (atom_of key) own).follows other.cells t.cells holds

found_has_key : (theta : Meaning) (key : KeyAtom) (t : Tuple) (which : Which) (other : Tuple) → IsLaw theta
    → key_of theta.formula ≡ Some (atom_of key) → is_found theta t which other ≡ true → is_key_true key t other ≡ true
found_has_key theta key t which other law own found = key_at t.side theta key t other law own
    (and_left (does_match theta t other) (is_named which other) found)

-- ---- the places of a band

below_take_in : (b : Bool) (n m : ℕ) (ps : List ℕ) → n < m → All (λ p. p < m) ps → All (λ p. p < m) (cond b (n ∷ ps) ps)
below_take_in true n m ps here rest = All-cons (λ p. p < m) n ps here rest
below_take_in false n m ps here rest = rest

-- the places of values that pass a test, counted from n, are below where the list ends
pub places_below : (test : Option ℤ → Bool) (n m : ℕ) (values : List (Option ℤ)) → n + length values ≤ m
    → All (λ p. p < m) (places_by test n values)
places_below test n m [] fits = λ k d less. absurd (omega arith)
places_below test n m (v ∷ values) fits =
    below_take_in (test v) n m (places_by test (n + 1) values) (omega arith)
    (places_below test (n + 1) m values (omega arith))

-- the places of the values between two bounds are places of stored tuples
pub places_are_below : (from to : Option ℤ) (key : KeyAtom) (side : Side) (others : List Tuple)
    → All (λ p. p < length others) (places_between from to 0 (values_at key side others))
places_are_below from to key side others = places_below (lies from to) 0 (length others) (values_at key side others)
    (omega (arith, length-map others (value_at key side)))

-- ---- what is found, and how many are evaluated

-- the filters of one list by two tests that agree
same_filter : {X : Type 0} (p q : X → Bool) → ((x : X) → p x ≡ q x) → (xs : List X) → filter p xs ≡ filter q xs
same_filter p q same [] = refl
same_filter p q same (x ∷ xs) = filter_agree (p x) (q x) x (same x) (same_filter p q same xs)
  where
    filter_agree : (a b : Bool) {X : Type 0} {xs ys : List X} (x : X) → a ≡ b → xs ≡ ys
        → cond a (x ∷ xs) xs ≡ cond b (x ∷ ys) ys
    filter_agree a b x e same = cc

-- at the places between the bounds of a tuple's value are the tuples with which the key atom is true
pub band_candidates : (key : KeyAtom) (t : Tuple) (others : List Tuple) (v : ℤ) → value_at key t.side t ≡ Some v
    → at_places others (places_between (least_at t.side key v) (greatest_at t.side key v) 0
    (values_at key (other_side t.side) others)) ≡ filter (is_key_true key t) others
band_candidates key t others v is =
    at_places_by (value_at key (other_side t.side)) (lies (least_at t.side key v) (greatest_at t.side key v)) others
    ∙ same_filter (λ x. lies (least_at t.side key v) (greatest_at t.side key v) (value_at key (other_side t.side) x))
    (is_key_true key t) (λ x. band_is_key key t x v is) others

-- where a tuple has no value, the key atom is true with none
pub no_candidates : (key : KeyAtom) (t : Tuple) (others : List Tuple) → value_at key t.side t ≡ None
    → filter (is_key_true key t) others ≡ []
no_candidates key t others none = filter_none (is_key_true key t) (λ x. no_key key t x none) others

-- a probe of those with which the predicate's key atom is true finds what a probe of all stored tuples does
pub matches_by_key : (theta : Meaning) (key : KeyAtom) (t : Tuple) (which : Which) (others : List Tuple) → IsLaw theta
    → key_of theta.formula ≡ Some (atom_of key)
    → matches theta t which (filter (is_key_true key t) others) ≡ matches theta t which others
matches_by_key theta key t which others law own =
    ap (map (pair_of t)) (filter_of_filter (is_found theta t which) (is_key_true key t)
    (λ x found. found_has_key theta key t which x law own found) others)

-- those of them that are named are as many as a probe by the key evaluates
pub count_by_key : (key : KeyAtom) (t : Tuple) (which : Which) (others : List Tuple)
    → count_by (is_named which) (filter (is_key_true key t) others) ≡ evaluated (Some key) t which others
count_by_key key t which others = count_of_filter (is_named which) (is_key_true key t) (is_key_true key t) (λ x. refl)
    others

-- ---- a loop over places

take_at : {X : Type 0} (xs : List X) (i : ℕ) (x : X) → slice_get xs i ≡ Some x → take (i + 1) xs ≡ take i xs ++ x ∷ []
take_at xs i x here = take_one xs i x (slice_get_within xs i x here) (sym (get_or_from_slice_get xs i x x here))

-- at places and more behind them is what is at the first, and then what is at the others
pub at_places-append : {X : Type 0} (xs : List X) (ps qs : List ℕ)
    → at_places xs (ps ++ qs) ≡ at_places xs ps ++ at_places xs qs
at_places-append xs ps qs = filter_map-append (slice_get xs) ps qs

-- at one place alone is the one element that stands there
pub at_place : {X : Type 0} (xs : List X) (p : ℕ) (x : X) → slice_get xs p ≡ Some x → at_places xs (p ∷ []) ≡ x ∷ []
at_place xs p x here = ap (λ o. cons_option o []) here

-- one more place adds the element that stands there
pub at_places_more : {X : Type 0} (xs : List X) (places : List ℕ) (i p : ℕ) (x : X) → slice_get places i ≡ Some p
    → slice_get xs p ≡ Some x
    → at_places xs (take (i + 1) places) ≡ at_places xs (take i places) ++ x ∷ []
at_places_more xs places i p x place here =
    ap (at_places xs) (take_at places i p place) ∙ at_places-append xs (take i places) (p ∷ [])
    ∙ ap (λ l. at_places xs (take i places) ++ l) (at_place xs p x here)

-- what holds of each element at some places holds of the one at one of them
pub holds_at_place : {X : Type 0} (P : X → Type 0) (xs : List X) (places : List ℕ) (i p : ℕ) (x : X)
    → All P (at_places xs places) → slice_get places i ≡ Some p → slice_get xs p ≡ Some x → P x
holds_at_place P xs places i p x all place here =
    let front = at_places xs (take (i + 1) places) in
    let back = at_places xs (drop (i + 1) places) in
    let whole : at_places xs places ≡ front ++ back =
    ap (at_places xs) (sym (take-append-drop (i + 1) places))
    ∙ at_places-append xs (take (i + 1) places) (drop (i + 1) places) in
    let in_front = subst (λ ys. Contains ys x) (sym (at_places_more xs places i p x place here))
    (Contains-push (at_places xs (take i places)) x) in
    All-contains P (at_places xs places) x all (subst (λ ys. Contains ys x) (sym whole)
    (Contains-append_left front back x in_front))

-- it adds the pair of the tuple that stands there, if the probe finds that
pub matches_at_more : (theta : Meaning) (t : Tuple) (which : Which) (xs : List Tuple) (places : List ℕ) (i p : ℕ)
    (x : Tuple) → slice_get places i ≡ Some p → slice_get xs p ≡ Some x
    → matches theta t which (at_places xs (take (i + 1) places)) ≡ matches theta t which (at_places xs (take i places))
    ++ matches theta t which (x ∷ [])
matches_at_more theta t which xs places i p x place here =
    ap (matches theta t which) (at_places_more xs places i p x place here)
    ∙ matches-append theta t which (at_places xs (take i places)) (x ∷ [])

-- and one tuple that is evaluated, if that is named
pub count_at_more : (which : Which) (xs : List Tuple) (places : List ℕ) (i p : ℕ) (x : Tuple)
    → slice_get places i ≡ Some p → slice_get xs p ≡ Some x
    → count_by (is_named which) (at_places xs (take (i + 1) places))
    ≡ count_by (is_named which) (at_places xs (take i places)) + count_by (is_named which) (x ∷ [])
count_at_more which xs places i p x place here =
    ap (count_by (is_named which)) (at_places_more xs places i p x place here)
    ∙ count_by-append (is_named which) (at_places xs (take i places)) (x ∷ [])

-- what was appended for the first places is a front of what all places give
pub front_of_places : (theta : Meaning) (t : Tuple) (which : Which) (xs : List Tuple) (places : List ℕ) (i : ℕ)
    (old new : List Pair) → new ≡ old ++ matches theta t which (at_places xs (take i places))
    → AppendsFront old new (matches theta t which (at_places xs places))
front_of_places theta t which xs places i old new is = record {
  front = matches theta t which (at_places xs (take i places));
  appended = is;
  prefix = record {
    rest = matches theta t which (at_places xs (drop i places));
    joins = sym (matches-append theta t which (at_places xs (take i places)) (at_places xs (drop i places)))
        ∙ ap (matches theta t which) (sym (at_places-append xs (take i places) (drop i places))
        ∙ ap (at_places xs) (take-append-drop i places));
  };
}

-- ---- what the index gave

places_same : (from from' to to' : Option ℤ) (values : List (Option ℤ)) → from ≡ from' → to ≡ to'
    → places_between from to 0 values ≡ places_between from' to' 0 values
places_same from from' to to' values p q = ap (λ f. places_between f to 0 values) p
    ∙ ap (λ t. places_between from' t 0 values) q

-- the places of the band
abbrev pub band_places : KeyAtom → Tuple → List Tuple → ℤ → List ℕ
band_places key t others v = places_between (least_at t.side key v) (greatest_at t.side key v) 0
    (values_at key (other_side t.side) others)

-- the index's clause, at the values of the stored tuples
pub band_given : {V E : Type 0} (r : Result V E) (items : V
    → List ℕ) (key : KeyAtom) (t : Tuple) (others : List Tuple) (entries : List (ℤ × List ℕ)) (w v : ℤ)
    (from to : Option ℤ)
    → w ≡ v → from ≡ least_at t.side key w → to ≡ greatest_at t.side key w
    → IsMapOf (values_at key (other_side t.side) others) entries
    → IfOk r (λ x. (values : List (Option ℤ)) → IsMapOf values entries → items x ≡ places_between from to 0 values)
    → IfOk r (λ x. items x ≡ band_places key t others v)
band_given (Ok x) items key t others entries w v from to same at_least at_most indexed gives =
    gives (values_at key (other_side t.side) others) indexed
    ∙ places_same from (least_at t.side key v) to (greatest_at t.side key v) (values_at key (other_side t.side) others)
    (at_least ∙ ap (λ x. least_at t.side key x) same) (at_most ∙ ap (λ x. greatest_at t.side key x) same)
band_given (Err e) items key t others entries w v from to same at_least at_most indexed gives = tt

-- at the places that the index gave for the band are the tuples with which the key atom is true
pub keyed_from_band : {V E : Type 0} (r : Result V E) (items : V
    → List ℕ) (key : KeyAtom) (t : Tuple) (others : List Tuple) (v : ℤ) → value_at key t.side t ≡ Some v
    → IfOk r (λ x. items x ≡ band_places key t others v) → IfOk r
    (λ x. at_places others (items x) ≡ filter (is_key_true key t) others)
keyed_from_band (Ok x) items key t others v is given = ap (at_places others) given ∙ band_candidates key t others v is
keyed_from_band (Err e) items key t others v is given = tt

-- and each of these places is that of a stored tuple
pub below_from_band : {V E : Type 0} (r : Result V E) (items : V
    → List ℕ) (key : KeyAtom) (t : Tuple) (others : List Tuple) (v : ℤ)
    → IfOk r (λ x. items x ≡ band_places key t others v) → IfOk r (λ x. All (λ p. p < length others) (items x))
below_from_band (Ok x) items key t others v given =
    let P : List ℕ → Type 0 = λ ps. All (λ p. p < length others) ps in
    subst P (sym given) (places_are_below (least_at t.side key v) (greatest_at t.side key v) key (other_side t.side)
    others)
below_from_band (Err e) items key t others v given = tt

-- ---- how many stored tuples are looked at

there : {X : Type 0} (xs : List X) (p : ℕ) → p < length xs → (x : X) × (slice_get xs p ≡ Some x)
there xs p less = elim (slice_get_cases xs p).1 [
  | inl within ↦ (within.0, within.2)
  | inr beyond ↦ absurd (omega (arith, less, beyond.0))
]

placed : {X : Type 0} (xs : List X) (ps : List ℕ) → All (λ p. p < length xs) ps → length (at_places xs ps) ≡ length ps
placed xs [] below = refl
placed xs (p ∷ ps) below =
    let here = there xs p (below 0 0 (omega arith)) in
    ap (λ o. length (cons_option o (at_places xs ps))) here.1
    ∙ ap suc (placed xs ps (All-tail (λ p. p < length xs) p ps below))

-- there are as many places as stored tuples that pass the test
pub seen : {X : Type 0} (test : X → Bool) (xs : List X) (places : List ℕ) → at_places xs places ≡ filter test xs
    → All (λ p. p < length xs) places → length places ≡ count_by test xs
seen test xs places at below = sym (placed xs places below) ∙ ap length at ∙ length-filter test xs

-- without a key and an access each stored tuple is looked at
pub all_seen : (t : Tuple) (others : List Tuple) → length others ≡ count_by (stands_by None None t) others
all_seen t [] = refl
all_seen t (x ∷ xs) = omega (arith, all_seen t xs, sum_by-cons (λ (_ : Tuple). 1) x xs)
