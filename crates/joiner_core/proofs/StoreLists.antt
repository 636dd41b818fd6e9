-- A store as one list.
use Rattle.std.proofs.Common.{◌≡◌, ℕ, ◌+◌, refl, sym, ◌∙◌, ap, subst, arith, Bool, true, false, cond, Option, List, []}
use Rattle.std.proofs.Common.{◌∷◌, ◌++◌, length, filter, sum_by, count_by, All, append-nil}
use Rattle.std.specs.Prelude.{slice_index_or, option_map}
use Rattle.std.proofs.lemmas.List.Elements.{filter-append, All-filter, All-head, All-tail}
use Rattle.std.proofs.lemmas.List.Sums.{sum_by-cons, sum_by-append, length-filter}
use Rattle.row_cells.specs.Lists.{SameBag}
use Rattle.row_cells.specs.declared.table.Side.{Side}
use Rattle.row_cells.specs.declared.table.Side.TheVariants.{R, S}
use Rattle.grid_map.specs.declared.shape.Shape.{Shape}
use Rattle.epoch_tags.specs.declared.tuple.Tuple.{Tuple}
use Rattle.migration_plan.specs.Steps.{holds, same_side, is_of}
use Rattle.theta_pred.specs.declared.atom.KeyAtom.{KeyAtom}
use Rattle.theta_pred.specs.Formula.{Meaning}
use Rattle.theta_pred.specs.Keys.{Atom}
use Rattle.theta_pred.specs.Truth.{holds as is_true}
use Rattle.store_parts.specs.declared.by_stamp.Which.{Which}
use Rattle.store_parts.specs.declared.by_stamp.Which.TheVariants.{All as All', OnlyStamp}
use Rattle.store_parts.specs.Keyed.{IsOwn}
use Rattle.store_parts.specs.Matches.{is_named, matches, HasWidth}
use Rattle.store_parts.specs.Stored.{Stored, side_of, others_of, with_tuple_at, with_tuple, kept_of, AreSided}
use Rattle.store_parts.specs.Stored.{HaveWidths}
use Rattle.store_parts.proofs.Sides.{matches-both, probed_at as probed_at'}
use Rattle.joiner_law.specs.History.{probed_at, probed}
use Rattle.theta_pred.specs.declared.agree.Access.{Access}
use Rattle.theta_pred.specs.Accesses.{terms_of}
use Rattle.store_parts.specs.Accessed.{IsOwnAccess}
use Rattle.joiner_core.specs.State.{does_hold, named_by, tuples_of, by_side, placed, stocked_of, with_placed, IsKeyOf}
use Rattle.joiner_core.specs.State.{IsAccessOf, IsRow, AreRows}

-- ---- the two sides are the whole, as a bag

sum-one : (side : Side) (f : Tuple → ℕ) (x : Tuple) (as' bs : List Tuple)
    → sum_by f (cond (same_side R side) (x ∷ as') as') + sum_by f (cond (same_side S side) (x ∷ bs) bs) ≡ f x
    + (sum_by f as' + sum_by f bs)
sum-one R f x as' bs = omega (arith, sum_by-cons f x as')
sum-one S f x as' bs = omega (arith, sum_by-cons f x bs)

sum-sides : (f : Tuple → ℕ) (xs : List Tuple) → sum_by f (filter (is_of R) xs) + sum_by f (filter (is_of S) xs)
    ≡ sum_by f xs
sum-sides f [] = refl
sum-sides f (x ∷ xs) = sum-one x.side f x (filter (is_of R) xs) (filter (is_of S) xs)
    ∙ ap (λ n. f x + n) (sum-sides f xs) ∙ sym (sum_by-cons f x xs)

-- the tuples sorted by side are the same as a bag
pub by_side-bag : (xs : List Tuple) → SameBag (by_side xs) xs
by_side-bag xs = record { sums = λ f. sum_by-append f (filter (is_of R) xs) (filter (is_of S) xs) ∙ sum-sides f xs }

-- ---- each side of the whole

filter-own : (side : Side) (ts : List Tuple) → same_side side side ≡ true → All (λ t. t.side ≡ side) ts
    → filter (is_of side) ts ≡ ts
filter-own side [] same all = refl
filter-own side (t ∷ ts) same all =
    let own : is_of side t ≡ true = ap (same_side side) (All-head (λ (x : Tuple). x.side ≡ side) t ts all) ∙ same in
    ap (λ b. cond b (t ∷ filter (is_of side) ts) (filter (is_of side) ts)) own
    ∙ ap (λ l. t ∷ l) (filter-own side ts same (All-tail (λ (x : Tuple). x.side ≡ side) t ts all))

filter-other : (side other : Side) (ts : List Tuple) → same_side side other ≡ false → All (λ t. t.side ≡ other) ts
    → filter (is_of side) ts ≡ []
filter-other side other [] apart all = refl
filter-other side other (t ∷ ts) apart all =
    let own : is_of side t ≡ false = ap (same_side side) (All-head (λ (x : Tuple). x.side ≡ other) t ts all) ∙ apart in
    ap (λ b. cond b (t ∷ filter (is_of side) ts) (filter (is_of side) ts)) own
    ∙ filter-other side other ts apart (All-tail (λ (x : Tuple). x.side ≡ other) t ts all)

own_r : (rs ss : List Tuple) → AreSided rs ss → filter (is_of R) (rs ++ ss) ≡ rs
own_r rs ss are =
    filter-append (is_of R) rs ss
    ∙ ap (λ l. filter (is_of R) rs ++ l) (filter-other R S ss refl are.s)
    ∙ append-nil (filter (is_of R) rs)
    ∙ filter-own R rs refl are.r

own_s : (rs ss : List Tuple) → AreSided rs ss → filter (is_of S) (rs ++ ss) ≡ ss
own_s rs ss are =
    filter-append (is_of S) rs ss
    ∙ ap (λ l. l ++ filter (is_of S) ss) (filter-other S R rs refl are.r)
    ∙ filter-own S ss refl are.s

-- the tuples of one side of the whole are that side's list
pub own-side : (side : Side) (store : Stored) → AreSided store.r store.s
    → filter (is_of side) (tuples_of store) ≡ side_of store side
own-side R store are = own_r store.r store.s are
own-side S store are = own_s store.r store.s are

-- where each tuple stands in its side's list, that list has as many tuples as the whole store has of the side
pub count-side : (side : Side) (store : Stored) → AreSided store.r store.s
    → length (side_of store side) ≡ count_by (is_of side) (tuples_of store)
count-side side store are = ap length (sym (own-side side store are)) ∙ length-filter (is_of side) (tuples_of store)

-- ---- one tuple more

one-more : (side : Side) (xs ys : List Tuple) (x : Tuple) (b : Bool) → filter (is_of side) xs ≡ ys → is_of side x ≡ b
    → filter (is_of side) (xs ++ x ∷ []) ≡ ys ++ cond b (x ∷ []) []
one-more side xs ys x b is own =
    filter-append (is_of side) xs (x ∷ [])
    ∙ ap (λ l. l ++ filter (is_of side) (x ∷ [])) is
    ∙ ap (λ c. ys ++ cond c (x ∷ []) []) own

placed-at : (side : Side) (store : Stored) (x : Tuple) → x.side ≡ side → AreSided store.r store.s
    → placed x (tuples_of store) ≡ tuples_of (with_tuple_at side store x)
placed-at R store x own are =
    let one = one-more R (tuples_of store) store.r x true (own_r store.r store.s are) (ap (same_side R) own) in
    let two = one-more S (tuples_of store) store.s x false (own_s store.r store.s are) (ap (same_side S) own) in
    ap (λ l. l ++ filter (is_of S) (tuples_of store ++ x ∷ [])) one
    ∙ ap (λ l. (store.r ++ x ∷ []) ++ l) (two ∙ append-nil store.s)
placed-at S store x own are =
    let one = one-more R (tuples_of store) store.r x false (own_r store.r store.s are) (ap (same_side R) own) in
    let two = one-more S (tuples_of store) store.s x true (own_s store.r store.s are) (ap (same_side S) own) in
    ap (λ l. l ++ filter (is_of S) (tuples_of store ++ x ∷ [])) (one ∙ append-nil store.r) ∙ ap (λ l. store.r ++ l) two

-- such a store with one tuple more has the tuples of the store with that one behind those of its side
pub placed-is : (store : Stored) (x : Tuple) → AreSided store.r store.s
    → tuples_of (with_tuple store x) ≡ placed x (tuples_of store)
placed-is store x are = sym (placed-at x.side store x refl are)

stocked-at : (side : Side) (store : Stored) (x : Tuple) (tuples : List Tuple)
    → tuples_of (with_tuple_at side store x) ≡ tuples → stocked_of (with_tuple_at side store x)
    ≡ record { tuples = tuples; key = store.key; access = store.access }
stocked-at R store x tuples is = ap (λ (xs : List Tuple). record {
  tuples = xs;
  key = store.key;
  access = store.access;
}) is
stocked-at S store x tuples is = ap (λ (xs : List Tuple). record {
  tuples = xs;
  key = store.key;
  access = store.access;
}) is

-- a store with one tuple more, as one list with its key
pub stocked-with : (store : Stored) (x : Tuple) → AreSided store.r store.s
    → stocked_of (with_tuple store x) ≡ with_placed x (stocked_of store)
stocked-with store x are = stocked-at x.side store x (placed x (tuples_of store)) (placed-is store x are)

-- the predicate's own key is its key atom
pub own-key : (theta : Meaning) (key : Option KeyAtom) → IsKeyOf theta key → IsOwn theta key
own-key theta key is = λ (atom : Atom) has. sym is ∙ has

-- where a store has the predicate's access, and none if it has none, an access that it has is the predicate's own
pub own-access : (theta : Meaning) (access : Option Access) → IsAccessOf theta access → IsOwnAccess theta access
own-access theta access is = λ (own : Access) has. sym is ∙ ap (option_map terms_of) has

-- ---- what is kept

kept-is : (shape : Shape) (id : ℕ) (store : Stored) → tuples_of (kept_of shape id store)
    ≡ filter (holds shape.k shape.shift id) (tuples_of store)
kept-is shape id store = sym (filter-append (holds shape.k shape.shift id) store.r store.s)

-- ---- probes

same-probe : (side : Side) (theta : Meaning) (which : Which) (x : Tuple) (ys : List Tuple)
    → probed_at' side (λ r q. is_true theta r.cells q.cells) (is_named which) x ys
    ≡ probed_at side (does_hold theta) (named_by which) x ys
same-probe R theta All' x ys = refl
same-probe R theta (OnlyStamp stamp) x ys = refl
same-probe S theta All' x ys = refl
same-probe S theta (OnlyStamp stamp) x ys = refl

-- a probe of the list of the other side in such a store finds the pairs, in their order, of a probe of all its tuples
pub probe-is : (theta : Meaning) (x : Tuple) (which : Which) (store : Stored) → AreSided store.r store.s
    → matches theta x which (others_of store x) ≡ probed (does_hold theta) (named_by which) x (tuples_of store)
probe-is theta x which store are = matches-both theta x which store are
    ∙ same-probe x.side theta which x (tuples_of store)

widths-at : (theta : Meaning) (side : Side) (ts : List Tuple) → All (λ t. t.side ≡ side) ts → AreRows theta ts
    → All (HasWidth theta side) ts
widths-at theta side ts own rows = λ k d low. subst (λ (i : Side). HasWidth theta i (slice_index_or ts k d))
    (own k d low) (rows k d low)

-- rows of the whole are rows of each side
pub widths-of : (theta : Meaning) (store : Stored) → AreSided store.r store.s → AreRows theta (tuples_of store)
    → HaveWidths theta store
widths-of theta store are rows = record {
  r = widths-at theta R store.r are.r (subst (AreRows theta) (own-side R store are)
      (All-filter (is_of R) (IsRow theta) (tuples_of store) rows));
  s = widths-at theta S store.s are.s (subst (AreRows theta) (own-side S store are)
      (All-filter (is_of S) (IsRow theta) (tuples_of store) rows));
}
