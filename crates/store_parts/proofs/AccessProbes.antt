-- A probe by an access finds what a scan finds, evaluates those that agree with the tuple, and looks at those that
-- stand
-- where it asks.
use Rattle.std.proofs.Common.{◌≡◌, ℕ, ◌+◌, ◌<◌, ℤ, Bool, true, false, cond, Option, Some, List, []}
use Rattle.std.proofs.Common.{◌∷◌, ◌++◌, length, take, refl, sym, ap, subst, ◌∙◌, arith, append-nil, slice_get, Result}
use Rattle.std.proofs.Common.{Ok, Err}
use Rattle.std.specs.Prelude.{IfOk, map, filter, count_by}
use Rattle.std.specs.List.{All}
use Rattle.std.proofs.lemmas.List.{length-map}
use Rattle.std.proofs.lemmas.List.Elements.{All-cons, All-nil, filter-append}
use Rattle.row_cells.specs.declared.table.Side.{Side}
use Rattle.row_cells.specs.declared.table.Side.TheVariants.{R, S}
use Rattle.epoch_tags.specs.declared.tuple.Tuple.{Tuple}
use Rattle.theta_pred.specs.declared.agree.Access.{Access}
use Rattle.theta_pred.specs.Accesses.{terms_of, IsAccessOf, Suffices}
use Rattle.theta_pred.specs.Formula.{Meaning}
use Rattle.theta_pred.proofs.KeyMembers.{and_left}
use Rattle.store_parts.specs.Accessed.{asked, is_admitted_at, is_admitted, number_at}
use Rattle.store_parts.specs.Indexed.{indexed_at, numbers_at}
use Rattle.theta_pred.specs.declared.atom.KeyAtom.{KeyAtom}
use Rattle.store_parts.specs.declared.by_stamp.Which.{Which}
use Rattle.store_parts.specs.declared.places.Window.{Window}
use Rattle.store_parts.specs.Places.{lies_in, places_by, AreApart, IsMapOf}
use Rattle.store_parts.specs.Keyed.{at_places}
use Rattle.store_parts.specs.Matches.{other_side, is_named, is_found, does_match, does_match_at}
use Rattle.store_parts.specs.Evaluated.{admitted, does_stand}
use Rattle.store_parts.specs.Matches.{pair_of, matches, DoMatch}
use Rattle.store_parts.specs.Evaluated.{looked_at, stands_by}
use Rattle.store_parts.proofs.Keys.{at_places_by}
use Rattle.store_parts.proofs.KeyProbes.{filter_of_filter, count_of_filter, places_below, at_places-append}
use Rattle.store_parts.proofs.KeyProbes.{at_places_more, at_place}
use Rattle.store_parts.proofs.AccessLaw.{admitted_stands, asked_apart}

-- ---- the places that an access asks for

-- the places of the numbers that a tuple asks for
abbrev pub asked_places : Access → Tuple → List Tuple → List ℕ
asked_places access t others = places_by (lies_in (asked access t)) 0 (numbers_at access (other_side t.side) others)

at_asked : (access : Access) (t : Tuple) (others : List Tuple)
    → at_places others (asked_places access t others) ≡ filter (does_stand access t) others
at_asked access t others = at_places_by (number_at access (other_side t.side)) (lies_in (asked access t)) others

asked_below : (access : Access) (t : Tuple) (others : List Tuple)
    → All (λ p. p < length others) (asked_places access t others)
asked_below access t others =
    places_below (lies_in (asked access t)) 0 (length others) (numbers_at access (other_side t.side) others)
    (omega (arith, length-map others (number_at access (other_side t.side))))

-- the index's clause, at the numbers of the stored tuples
pub asked_given : {V E : Type 0} (r : Result V E) (items : V
    → List ℕ) (access : Access) (t : Tuple) (others : List Tuple)
    (entries : List (ℤ × List ℕ)) (windows : List Window) → windows ≡ asked access t
    → IsMapOf (numbers_at access (other_side t.side) others) entries
    → IfOk r (λ x. (values : List (Option ℤ)) → IsMapOf values entries
    → items x ≡ places_by (lies_in windows) 0 values)
    → IfOk r (λ x. items x ≡ asked_places access t others)
asked_given (Ok x) items access t others entries windows is indexed gives =
    gives (numbers_at access (other_side t.side) others) indexed
    ∙ ap (λ ws. places_by (lies_in ws) 0 (numbers_at access (other_side t.side) others)) is
asked_given (Err e) items access t others entries windows is indexed gives = tt

-- the windows that were made are apart
pub made_apart : (access : Access) (t : Tuple) (windows : List Window) → windows ≡ asked access t → AreApart windows
made_apart access t windows is = subst AreApart (sym is) (asked_apart access t)

-- at the places that the index gave are the stored tuples that stand where the tuple asks
pub stands_from_asked : {V E : Type 0} (r : Result V E) (items : V
    → List ℕ) (access : Access) (t : Tuple) (others : List Tuple)
    → IfOk r (λ x. items x ≡ asked_places access t others)
    → IfOk r (λ x. at_places others (items x) ≡ filter (does_stand access t) others)
stands_from_asked (Ok x) items access t others given = ap (at_places others) given ∙ at_asked access t others
stands_from_asked (Err e) items access t others given = tt

-- and each of these places is that of a stored tuple
pub below_from_asked : {V E : Type 0} (r : Result V E) (items : V
    → List ℕ) (access : Access) (t : Tuple) (others : List Tuple)
    → IfOk r (λ x. items x ≡ asked_places access t others) → IfOk r (λ x. All (λ p. p < length others) (items x))
below_from_asked (Ok x) items access t others given =
    let P : List ℕ → Type 0 = λ ps. All (λ p. p < length others) ps in
    subst P (sym given) (asked_below access t others)
below_from_asked (Err e) items access t others given = tt

-- those that agree are among those that stand where the tuple asks
pub admitted_of_stands : (access : Access) (t : Tuple) (others : List Tuple)
    → filter (is_admitted access t) (filter (does_stand access t) others) ≡ filter (is_admitted access t) others
admitted_of_stands access t others =
    filter_of_filter (is_admitted access t) (does_stand access t) (admitted_stands access t) others

-- ---- one more place

filter_more : (p : Tuple → Bool) (others : List Tuple) (places : List ℕ) (i place : ℕ) (other : Tuple)
    → slice_get places i ≡ Some place → slice_get others place ≡ Some other
    → filter p (at_places others (take (i + 1) places)) ≡ filter p (at_places others (take i places))
    ++ filter p (other ∷ [])
filter_more p others places i place other at here =
    ap (filter p) (at_places_more others places i place other at here)
    ∙ filter-append p (at_places others (take i places)) (other ∷ [])

module _ (p : Tuple → Bool) (others : List Tuple) (places kept : List ℕ) where
  -- a place whose tuple passes is kept: at the kept places are still the tuples so far that pass
  pub kept_one : (i place : ℕ) (other : Tuple)
      → slice_get places i ≡ Some place → slice_get others place ≡ Some other
      → at_places others kept ≡ filter p (at_places others (take i places)) → p other ≡ true
      → at_places others (kept ++ place ∷ []) ≡ filter p (at_places others (take (i + 1) places))
  kept_one i place other at here so_far is =
      at_places-append others kept (place ∷ [])
      ∙ ap (λ xs. xs ++ at_places others (place ∷ [])) so_far
      ∙ ap (λ xs. filter p (at_places others (take i places)) ++ xs)
      (at_place others place other here ∙ sym (ap (λ c. cond c (other ∷ []) []) is))
      ∙ sym (filter_more p others places i place other at here)

  -- a place whose tuple doesn't pass is left out: at the kept places they still are
  pub kept_none : (i place : ℕ) (other : Tuple)
      → slice_get places i ≡ Some place → slice_get others place ≡ Some other
      → at_places others kept ≡ filter p (at_places others (take i places)) → p other ≡ false
      → at_places others kept ≡ filter p (at_places others (take (i + 1) places))
  kept_none i place other at here so_far is =
      so_far
      ∙ sym (append-nil (filter p (at_places others (take i places))))
      ∙ ap (λ xs. filter p (at_places others (take i places)) ++ xs) (sym (ap (λ c. cond c (other ∷ []) []) is))
      ∙ sym (filter_more p others places i place other at here)

-- ---- what is found, and how many are evaluated

admitted_at : (side : Side) (theta : Meaning) (access : Access) (t other : Tuple) → IsAccessOf theta (terms_of access)
    → does_match_at side theta t other ≡ true → is_admitted_at side access t other ≡ true
admitted_at R theta access t other law holds = law t.cells other.cells holds
admitted_at S theta access t other law holds = law other.cells t.cells holds

-- a probe of the tuples that agree in an access of the predicate finds what a probe of all stored ones does
pub matches_by_access : (theta : Meaning) (access : Access) (t : Tuple) (which : Which) (others : List Tuple)
    → IsAccessOf theta (terms_of access)
    → matches theta t which (filter (is_admitted access t) others) ≡ matches theta t which others
matches_by_access theta access t which others law =
    ap (map (pair_of t)) (filter_of_filter (is_found theta t which) (is_admitted access t)
    (λ other found. admitted_at t.side theta access t other law
    (and_left (does_match theta t other) (is_named which other) found)) others)

-- those of them that are named are as many as a probe by the access evaluates
pub count_by_access : (access : Access) (t : Tuple) (which : Which) (others : List Tuple)
    → count_by (is_named which) (filter (is_admitted access t) others) ≡ admitted access t which others
count_by_access access t which others = count_of_filter (is_named which) (is_admitted access t) (is_admitted access t)
    (λ x. refl) others

-- ---- where agreeing is all that the predicate says

matched_at : (side : Side) (theta : Meaning) (access : Access) (t other : Tuple) → Suffices theta (terms_of access)
    → is_admitted_at side access t other ≡ true → does_match_at side theta t other ≡ true
matched_at R theta access t other law agree = law t.cells other.cells agree
matched_at S theta access t other law agree = law other.cells t.cells agree

match_of_pass : (theta : Meaning) (t x : Tuple) (xs : List Tuple) (b : Bool)
    → (b ≡ true → does_match theta t x ≡ true) → DoMatch theta t xs → DoMatch theta t (cond b (x ∷ xs) xs)
match_of_pass theta t x xs true matched rest =
    All-cons (λ (other : Tuple). does_match theta t other ≡ true) x xs (matched refl) rest
match_of_pass theta t x xs false matched rest = rest

-- all that agree with a tuple in the access of such a predicate match it
pub admitted_match : (theta : Meaning) (access : Access) (t : Tuple) (others : List Tuple)
    → Suffices theta (terms_of access) → DoMatch theta t (filter (is_admitted access t) others)
admitted_match theta access t [] law = All-nil (λ (other : Tuple). does_match theta t other ≡ true)
admitted_match theta access t (x ∷ xs) law =
    match_of_pass theta t x (filter (is_admitted access t) xs) (is_admitted access t x)
    (matched_at t.side theta access t x law) (admitted_match theta access t xs law)

-- ---- a store's own access

-- where a store has an access, its index is one of the numbers that the access gives to its tuples
pub index_of_access : (key : Option KeyAtom) (stored : Option Access) (access : Access) (side : Side)
    (ts : List Tuple) (entries : List (ℤ × List ℕ)) → stored ≡ Some access
    → IsMapOf (map (indexed_at key stored side) ts) entries → IsMapOf (numbers_at access side ts) entries
index_of_access key stored access side ts entries is indexed =
    let P : Option Access → Type 0 = λ o. IsMapOf (map (indexed_at key o side) ts) entries in subst P is indexed

-- a probe of it evaluates as many tuples as are named and agree in the access
pub looked_is : (key : Option KeyAtom) (stored : Option Access) (access : Access) (t : Tuple) (which : Which)
    (ts others : List Tuple) → stored ≡ Some access → others ≡ ts
    → admitted access t which others ≡ looked_at key stored t which ts
looked_is key stored access t which ts others is same =
    ap (admitted access t which) same ∙ ap (λ o. looked_at key o t which ts) (sym is)

-- and looks at as many as stand where the access asks
pub stood_is : (key : Option KeyAtom) (stored : Option Access) (access : Access) (t : Tuple) (ts others : List Tuple)
    → stored ≡ Some access → others ≡ ts
    → count_by (does_stand access t) others ≡ count_by (stands_by key stored t) ts
stood_is key stored access t ts others is same =
    ap (count_by (does_stand access t)) same ∙ ap (λ o. count_by (stands_by key o t) ts) (sym is)
