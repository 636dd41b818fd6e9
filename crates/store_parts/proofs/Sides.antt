-- The two lists of a store, and both as one.
use Rattle.std.proofs.Common.{◌≡◌, Bool, true, false, ◌&&◌, List, [], ◌∷◌, ◌++◌, All, map, filter, sym, refl, ap, ◌∙◌}
use Rattle.std.proofs.Common.{subst, append-nil, cond}
use Rattle.std.proofs.lemmas.List.Elements.{filter-append, All-filter, All-head, All-tail}
use Rattle.row_cells.specs.declared.table.Side.{Side}
use Rattle.row_cells.specs.declared.table.Side.TheVariants.{R, S}
use Rattle.epoch_tags.specs.declared.tuple.Tuple.{Tuple}
use Rattle.epoch_tags.specs.declared.tuple.Pair.{Pair}
use Rattle.migration_plan.specs.Steps.{same_side, is_of}
use Rattle.theta_pred.specs.Formula.{Meaning}
use Rattle.theta_pred.specs.Truth.{holds}
use Rattle.store_parts.specs.declared.by_stamp.Which.{Which}
use Rattle.store_parts.specs.Matches.{other_side, is_named, does_match_at, pair_at, matches}
use Rattle.store_parts.specs.Stored.{Stored, side_of, others_of, AreSided}

-- a part of each list is still sided
pub AreSided-filter : (p : Tuple → Bool) (rs ss ks ls : List Tuple) → AreSided rs ss → ks ≡ filter p rs
    → ls ≡ filter p ss → AreSided ks ls
AreSided-filter p rs ss ks ls are k l = record {
  r = subst (All (λ (t : Tuple). t.side ≡ R)) (sym k) (All-filter p (λ (t : Tuple). t.side ≡ R) rs are.r);
  s = subst (All (λ (t : Tuple). t.side ≡ S)) (sym l) (All-filter p (λ (t : Tuple). t.side ≡ S) ss are.s);
}

-- ---- tests that ask for a side

-- of tuples of a side, a test that asks for that side keeps what the test alone keeps, and one that asks for the other
-- side keeps none
filter-own : (side : Side) (p : Tuple → Bool) (ts : List Tuple) → same_side side side ≡ true
    → All (λ t. t.side ≡ side) ts → filter (λ t. is_of side t && p t) ts ≡ filter p ts
filter-own side p [] same all = refl
filter-own side p (t ∷ ts) same all =
    let own : is_of side t ≡ true = ap (same_side side) (All-head (λ (x : Tuple). x.side ≡ side) t ts all) ∙ same in
    let rest = filter-own side p ts same (All-tail (λ (x : Tuple). x.side ≡ side) t ts all) in
    ap (λ b. cond (b && p t) (t ∷ filter (λ x. is_of side x && p x) ts) (filter (λ x. is_of side x && p x) ts)) own
    ∙ ap (λ l. cond (p t) (t ∷ l) l) rest

filter-other : (side other : Side) (p : Tuple → Bool) (ts : List Tuple) → same_side side other ≡ false
    → All (λ t. t.side ≡ other) ts → filter (λ t. is_of side t && p t) ts ≡ []
filter-other side other p [] apart all = refl
filter-other side other p (t ∷ ts) apart all =
    let own : is_of side t ≡ false = ap (same_side side) (All-head (λ (x : Tuple). x.side ≡ other) t ts all) ∙ apart in
    ap (λ b. cond (b && p t) (t ∷ filter (λ x. is_of side x && p x) ts) (filter (λ x. is_of side x && p x) ts)) own
    ∙ filter-other side other p ts apart (All-tail (λ (x : Tuple). x.side ≡ other) t ts all)

-- of both lists as one, a test that asks for a side keeps what the test keeps of that side's list
pub filter-both_r : (p : Tuple → Bool) (rs ss : List Tuple) → AreSided rs ss
    → filter (λ t. is_of R t && p t) (rs ++ ss) ≡ filter p rs
filter-both_r p rs ss are =
    let q = λ (t : Tuple). is_of R t && p t in
    filter-append q rs ss
    ∙ ap (λ l. filter q rs ++ l) (filter-other R S p ss refl are.s)
    ∙ append-nil (filter q rs)
    ∙ filter-own R p rs refl are.r

-- the same, where it asks for S
pub filter-both_s : (p : Tuple → Bool) (rs ss : List Tuple) → AreSided rs ss
    → filter (λ t. is_of S t && p t) (rs ++ ss) ≡ filter p ss
filter-both_s p rs ss are =
    let q = λ (t : Tuple). is_of S t && p t in
    filter-append q rs ss
    ∙ ap (λ l. l ++ filter q ss) (filter-other S R p rs refl are.r)
    ∙ filter-own S p ss refl are.s

-- ---- a probe of both lists as one

-- the pairs of a tuple with those of one list that are of the other side, match and are named, in their order
abbrev pub probed_at : Side → (Tuple → Tuple → Bool) → (Tuple → Bool) → Tuple → List Tuple → List Pair
probed_at R test names x ys = map (pair_at R x) (filter (λ q. is_of S q && (test x q && names q)) ys)
probed_at S test names x ys = map (pair_at S x) (filter (λ r. is_of R r && (test r x && names r)) ys)

-- the same, by the side of the tuple that probes
abbrev pub probed : (Tuple → Tuple → Bool) → (Tuple → Bool) → Tuple → List Tuple → List Pair
probed test names x ys = probed_at x.side test names x ys

abbrev test_of : Meaning → Tuple → Tuple → Bool
test_of theta r s = holds theta r.cells s.cells

abbrev matches_at : Side → Meaning → Tuple → Which → List Tuple → List Pair
matches_at side theta t which others = map (pair_at side t)
    (filter (λ other. does_match_at side theta t other && is_named which other) others)

matches_at-both : (side : Side) (theta : Meaning) (t : Tuple) (which : Which) (store : Stored)
    → AreSided store.r store.s
    → matches_at side theta t which (side_of store (other_side side))
    ≡ probed_at side (test_of theta) (is_named which) t (store.r ++ store.s)
matches_at-both R theta t which store are = ap (map (pair_at R t))
    (sym (filter-both_s (λ q. test_of theta t q && is_named which q) store.r store.s are))
matches_at-both S theta t which store are = ap (map (pair_at S t))
    (sym (filter-both_r (λ r. test_of theta r t && is_named which r) store.r store.s are))

-- what a probe finds in a store is what it finds in both lists as one
pub matches-both : (theta : Meaning) (t : Tuple) (which : Which) (store : Stored) → AreSided store.r store.s
    → matches theta t which (others_of store t) ≡ probed (test_of theta) (is_named which) t (store.r ++ store.s)
matches-both theta t which store are = matches_at-both t.side theta t which store are
