-- Sums over a map from values to places.
use Rattle.std.proofs.Common.{◌≡◌, ℕ, ◌+◌, ℤ, Bool, true, false, cond, Option, Some, None, List, [], ◌∷◌, ◌++◌, length}
use Rattle.std.proofs.Common.{refl, sym, ap, ◌∙◌, arith, unwrap_or}
use Rattle.std.specs.Prelude.{sum_by}
use Rattle.std.specs.declared.cmp.Ordering.{Ordering}
use Rattle.std.specs.declared.cmp.Ordering.TheVariants.{Less, Equal, Greater}
use Rattle.std.specs.Ordering.{int_cmp, is_eq, match_ordering}
use Rattle.std.specs.Map.{keys_of, lookup, set_value}
use Rattle.std.specs.Option.{MatchOption}
use Rattle.std.specs.List.Sorted.{IsPermutation, IsStrictlySortedBy}
use Rattle.std.specs.BTreeMap.{is_at, insert_entry}
use Rattle.std.proofs.lemmas.List.Sums.{sum_by-cons, sum_by-append}
use Rattle.std.proofs.lemmas.List.Sorted.{sum_by-IsPermutation}
use Rattle.std.specs.Cmp.{IsTotalOrder}
use Rattle.std.proofs.lemmas.Cmp.{int_cmp_total}
use Rattle.std.proofs.lemmas.Map.{lookup-none}
use Rattle.std.proofs.lemmas.Map.Entries.{none_below_head}
use Rattle.std.proofs.lemmas.Map.Keys.{sorted_tail}
use Rattle.std.proofs.lemmas.Map.Lookups.{exact_signed}
use Rattle.store_parts.specs.Places.{at_each, IsMapOf}
use Rattle.store_parts.specs.Places.{entries_from}

-- the entries with one more value
pub entries_more : (n : ℕ) (values : List (Option ℤ)) (v : Option ℤ)
    → entries_from n (values ++ v ∷ []) ≡ entries_from n values ++ entries_from (n + length values) (v ∷ [])
entries_more n [] v = ap (λ m. entries_from m (v ∷ [])) (omega arith)
entries_more n (None ∷ values) v = entries_more (n + 1) values v
    ∙ ap (λ m. entries_from (n + 1) values ++ entries_from m (v ∷ [])) (omega arith)
entries_more n (Some w ∷ values) v = ap (λ es. (w, n) ∷ es)
    (entries_more (n + 1) values v ∙ ap (λ m. entries_from (n + 1) values ++ entries_from m (v ∷ [])) (omega arith))

-- ---- a new key

insert_at : {K X : Type 0} (cmp : K → K → Ordering) (F : K × X → ℕ) (k : K) (v : X) (e : K
    × X) (es : List (K × X)) (o : Ordering)
    → is_eq o ≡ false → sum_by F (insert_entry cmp es k v) ≡ F (k, v) + sum_by F es
    → sum_by F (match_ordering o ((k, v) ∷ e ∷ es) ((e.0, v) ∷ es) (e ∷ insert_entry cmp es k v)) ≡ F (
      k,
      v,
    ) + sum_by F (e ∷ es)
insert_at cmp F k v e es Less apart rest = sum_by-cons F (k, v) (e ∷ es)
insert_at cmp F k v e es Equal apart rest = absurd (cc)
insert_at cmp F k v e es Greater apart rest = omega (
  arith,
  sum_by-cons F e (insert_entry cmp es k v),
  sum_by-cons F e es,
  rest,
)

apart_at : {X : Type 0} (b : Bool) (x : X) (o : Option X) → cond b (Some x) o ≡ None → (b ≡ false) × (o ≡ None)
apart_at true x o none = absurd (cc)
apart_at false x o none = (refl, none)

-- an entry inserted at a new key adds its term to a sum over the entries
pub sum-insert_entry : {K X : Type 0} (cmp : K → K → Ordering) (F : K × X → ℕ) (k : K) (v : X) (es : List (K × X))
    → lookup (is_at (cmp k)) es ≡ None
    → sum_by F (insert_entry cmp es k v) ≡ F (k, v) + sum_by F es
sum-insert_entry cmp F k v [] none = sum_by-cons F (k, v) []
sum-insert_entry cmp F k v (e ∷ es) none =
    let apart = apart_at (is_at (cmp k) e.0) e.1 (lookup (is_at (cmp k)) es) none in
    insert_at cmp F k v e es (cmp k e.0) apart.0 (sum-insert_entry cmp F k v es apart.1)

-- ---- another value at a key

module _ {K X : Type 0} (test : K → Bool) (F : K × X → ℕ) (v w : X) (more : ℕ) where
  set_at : (b : Bool) (e : K × X) (es : List (K × X))
      → test e.0 ≡ b → ((q : K) → test q ≡ true → F (q, w) ≡ F (q, v) + more)
      → cond b (Some e.1) (lookup test es) ≡ Some v → (lookup test es ≡ Some v
      → sum_by F (set_value test es w) ≡ sum_by F es + more)
      → sum_by F (cond b ((e.0, w) ∷ es) (e ∷ set_value test es w)) ≡ sum_by F (e ∷ es) + more
  set_at true e es here grows found rest =
      let was : e.1 ≡ v = cc in
      let old = ap (λ x. F (e.0, x)) was in
      let new = grows e.0 here in
      omega (arith, sum_by-cons F (e.0, w) es, sum_by-cons F e es, old, new)
  set_at false e es here grows found rest = omega (
    arith,
    sum_by-cons F e (set_value test es w),
    sum_by-cons F e es,
    rest found,
  )

-- another value set at a key changes a sum over the entries by what the term of that key grows
pub sum-set_value : {K X : Type 0} (test : K → Bool) (F : K × X → ℕ) (v w : X) (more : ℕ) (es : List (K × X))
    → ((q : K) → test q ≡ true → F (q, w) ≡ F (q, v) + more) → lookup test es ≡ Some v
    → sum_by F (set_value test es w) ≡ sum_by F es + more
sum-set_value test F v w more [] grows found = absurd (cc)
sum-set_value test F v w more (e ∷ es) grows found = set_at test F v w more (test e.0) e es refl grows found
    (sum-set_value test F v w more es grows)

-- an entry inserted at a key that is there sets another value at it
inserted_is_set : {K X : Type 0} {R : K → K → Ordering} → IsTotalOrder R → (k : K) (p w : X) (es : List (K × X))
    → IsStrictlySortedBy R (keys_of es) → lookup (is_at (R k)) es ≡ Some p
    → insert_entry R es k w ≡ set_value (is_at (R k)) es w
inserted_is_set o k p w [] sorted found = absurd (cc)
inserted_is_set {R = R} o k p w (e ∷ es) sorted found =
    by (R k e.0) refl found (inserted_is_set o k p w es (sorted_tail R e.0 (keys_of es) sorted))
  where
    by : (r : Ordering) → R k e.0 ≡ r → cond (is_eq r) (Some e.1) (lookup (is_at (R k)) es) ≡ Some p
        → (lookup (is_at (R k)) es ≡ Some p → insert_entry R es k w ≡ set_value (is_at (R k)) es w)
        → match_ordering r ((k, w) ∷ e ∷ es) ((e.0, w) ∷ es) (e ∷ insert_entry R es k w)
        ≡ cond (is_eq r) ((e.0, w) ∷ es) (e ∷ set_value (is_at (R k)) es w)
    by Less less there later =
        let none = lookup-none (is_at (R k)) es (none_below_head o k e es sorted less).1 in
        let never : None ≡ Some p = sym none ∙ there in absurd (cc never)
    by Equal same there later = refl
    by Greater more there later = ap (λ l. e ∷ l) (later there)

-- ---- the map after an add

-- a query that finds the key v alone
abbrev pub FindsOnly : (ℤ → Ordering) → ℤ → Type 0
FindsOnly compare v = (q : ℤ) → is_at compare q ≡ true → q ≡ v

-- the query for a value finds no other value
pub finds_only : (v : ℤ) → FindsOnly (int_cmp v) v
finds_only v q hit = sym (exact_signed v q (equal_from_test (int_cmp v q) hit))
  where
    equal_from_test : (o : Ordering) → is_eq o ≡ true → o ≡ Equal
    equal_from_test Less e = absurd (cc)
    equal_from_test Equal e = refl
    equal_from_test Greater e = absurd (cc)

no_more : (f : ℤ × ℕ → ℕ) (q : ℤ) (p w : List ℕ) → w ≡ p → at_each f (q, w) ≡ at_each f (q, p) + 0
no_more f q p w same = omega (arith, ap (λ xs. sum_by (λ x. f (q, x)) xs) same)

one_more : (f : ℤ × ℕ → ℕ) (q v : ℤ) (n : ℕ) (p w : List ℕ) → w ≡ p ++ n ∷ [] → q ≡ v
    → at_each f (q, w) ≡ at_each f (q, p) + f (v, n)
one_more f q v n p w pushed same =
    let whole = ap (λ xs. sum_by (λ x. f (q, x)) xs) pushed in
    let parts = sum_by-append (λ x. f (q, x)) p (n ∷ []) in
    let last = sum_by-cons (λ x. f (q, x)) n [] in
    let at_v = ap (λ z. f (z, n)) same in
    omega (arith, whole, parts, last, at_v)

value_more : (f : ℤ × ℕ → ℕ) (values : List (Option ℤ)) (v : ℤ) (n : ℕ) → length values ≡ n
    → sum_by f (entries_from 0 (values ++ Some v ∷ [])) ≡ sum_by f (entries_from 0 values) + f (v, n)
value_more f values v n at_end =
    let more = ap (sum_by f) (entries_more 0 values (Some v)) in
    let joined = sum_by-append f (entries_from 0 values) ((v, 0 + length values) ∷ []) in
    let last = sum_by-cons f (v, 0 + length values) [] in
    let place : f (v, 0 + length values) ≡ f (v, n) = ap (λ m. f (v, m)) (omega (arith, at_end)) in
    omega (arith, more, joined, last, place)

-- ---- one entry written, where there may have been none

-- the entries after w was put at v, where found stood there: if nothing did, a sum over them has one term more
abbrev pub IsPut : ℤ → List ℕ → Option (List ℕ) → List (ℤ × List ℕ) → List (ℤ × List ℕ) → Type 0
IsPut v w found old new = MatchOption found
    ((F : ℤ × List ℕ → ℕ) → sum_by F new ≡ F (v, w) + sum_by F old)
    (λ _. new ≡ set_value (is_at (int_cmp v)) old w)

-- in a hashed map a new entry may stand anywhere
pub hashed_put : (v : ℤ) (w : List ℕ) (found : Option (List ℕ)) (old new : List (ℤ × List ℕ))
    → MatchOption found (IsPermutation ((v, w) ∷ old) new) (λ _. new ≡ set_value (is_at (int_cmp v)) old w)
    → IsPut v w found old new
hashed_put v w None old new put = λ F. sum_by-IsPermutation F ((v, w) ∷ old) new put ∙ sum_by-cons F (v, w) old
hashed_put v w (Some p) old new put = put

-- in an ordered map it stands in its order
pub ordered_put : (v : ℤ) (w : List ℕ) (found : Option (List ℕ)) (old new : List (ℤ × List ℕ))
    → IsStrictlySortedBy int_cmp (keys_of old) → lookup (is_at (int_cmp v)) old ≡ found
    → new ≡ insert_entry int_cmp old v w → IsPut v w found old new
ordered_put v w None old new sorted is put =
    λ F. ap (sum_by F) put ∙ sum-insert_entry int_cmp F v w old is
ordered_put v w (Some p) old new sorted is put = put ∙ inserted_is_set int_cmp_total v p w old sorted is

module _ (F : ℤ × List ℕ → ℕ) (v : ℤ) (empty w : List ℕ) (more : ℕ) where
  sum-put : (old new : List (ℤ × List ℕ)) (found : Option (List ℕ))
      → lookup (is_at (int_cmp v)) old ≡ found → IsPut v w found old new → F (v, empty) ≡ 0
      → ((q : ℤ) → q ≡ v → F (q, w) ≡ F (q, unwrap_or found empty) + more) → sum_by F new ≡ sum_by F old + more
  sum-put old new None is put zero grows =
      let here : F (v, w) ≡ F (v, empty) + more = grows v refl in
      omega (arith, put F, zero, here)
  sum-put old new (Some p) is put zero grows =
      ap (sum_by F) put ∙ sum-set_value (is_at (int_cmp v)) F p w more old (λ q hit. grows q (finds_only v q hit)) is

at_empty : (f : ℤ × ℕ → ℕ) (v : ℤ) (empty : List ℕ) → empty ≡ [] → at_each f (v, empty) ≡ 0
at_empty f v empty none = ap (λ xs. sum_by (λ x. f (v, x)) xs) none

module _ (values : List (Option ℤ)) (v : ℤ) (old new : List (ℤ × List ℕ)) (empty w : List ℕ)
    (found : Option (List ℕ)) where
  -- an entry put with the places that it had, none where there was no entry, leaves the map's values as they are
  pub map_put_kept : lookup (is_at (int_cmp v)) old ≡ found → IsPut v w found old new → empty ≡ []
      → w ≡ (unwrap_or found empty)
      → IsMapOf values old → IsMapOf values new
  map_put_kept is put none same h = record {
    sums = λ f.
        let set = sum-put (at_each f) v empty w 0 old new found is put (at_empty f v empty none)
        (λ q at. no_more f q (unwrap_or found empty) w same) in
        omega (arith, set, h.sums f);
  }

module _ (values : List (Option ℤ)) (v : ℤ) (n : ℕ) (old new : List (ℤ × List ℕ)) (empty w : List ℕ)
    (found : Option (List ℕ)) where
  -- once it is put with the next place behind these, the map has that place's value as one more
  pub map_put_pushed : lookup (is_at (int_cmp v)) old ≡ found → IsPut v w found old new → empty ≡ []
      → w ≡ (unwrap_or found empty) ++ n ∷ []
      → length values ≡ n → IsMapOf values old → IsMapOf (values ++ Some v ∷ []) new
  map_put_pushed is put none pushed at_end h = record {
    sums = λ f.
        let set = sum-put (at_each f) v empty w (f (v, n)) old new found is put (at_empty f v empty none)
        (λ q at. one_more f q v n (unwrap_or found empty) w pushed at) in
        omega (arith, set, h.sums f, value_more f values v n at_end);
  }

-- ---- a tuple with no value

-- a tuple that has no value needs no entry: the map as it is has the values of all, with this one
pub map_no_value : (value : Option ℤ) (values : List (Option ℤ)) (entries : List (ℤ × List ℕ))
    → ((v : ℤ) → value ≡ Some v → ⊥) → IsMapOf values entries → IsMapOf (values ++ value ∷ []) entries
map_no_value None values entries never h = record {
  sums = λ f.
      let more = ap (sum_by f) (entries_more 0 values None) in
      let joined = sum_by-append f (entries_from 0 values) [] in
      omega (arith, more, joined, h.sums f);
}
map_no_value (Some v) values entries never h = absurd (never v refl)
