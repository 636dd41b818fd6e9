-- The joined rows are counted in the order of their pairs, so a pair of a joined row and a third row is a triple, and
-- all these triples are those of three enumerations, one inside the other.
use Rattle.std.proofs.Common.{◌≡◌, ℕ, ◌+◌, refl, sym, ap, subst, ◌∙◌, Bool, true, false, cond, ◌&&◌, Some, None, List}
use Rattle.std.proofs.Common.{[], ◌∷◌, ◌++◌, get_or, map, length, append_assoc}
use Rattle.std.specs.Prelude.{filter_map, flat_map}
use Rattle.std.specs.List.{AllByRecursion, cons_option, enumerate_from}
use Rattle.std.proofs.lemmas.List.{map-append, length-append}
use Rattle.std.proofs.lemmas.Grind.{flat_map-append}
use Rattle.std.proofs.Math.Seq.{get_or-append_seam}
use Rattle.epoch_tags.specs.declared.tuple.Pair.{Pair}
use Rattle.epoch_tags.specs.Loop.{nested_loop}
use Rattle.chain_join.specs.declared.triples.Triple.{Triple}
use Rattle.chain_join.specs.Triples.{triple_at, triple_loop}
use Rattle.chain_join.proofs.Places.{IsEntry, entries}

abbrev pair : ℕ → ℕ → Pair
pair i j = record { i = i; j = j }

abbrev none : Pair
none = pair 0 0

abbrev triple : Pair → ℕ → Triple
triple p l = record { i = p.i; j = p.j; l = l }

-- ---- a join over rows that pairs were made to, looked up by place

module _ {W Z : Type 0} (matches : W → Z → Bool) (row : Pair → W) where
  -- the pairs of the row at place k
  abbrev pairs_at : List (ℕ × Z) → ℕ → W → List Pair
  pairs_at cs k r = filter_map (λ (c : ℕ × Z). cond (matches r c.1) (Some (pair k c.0)) None) cs

  -- the triples of a pair of the first join
  abbrev triples_of : List (ℕ × Z) → Pair → List Triple
  triples_of cs p = filter_map (λ (c : ℕ × Z). cond (matches (row p) c.1) (Some (triple p c.0)) None) cs

  of_row : (all : List Pair) (k : ℕ) (cs : List (ℕ × Z))
      → map (triple_at all) (pairs_at cs k (row (get_or all k none))) ≡ triples_of cs (get_or all k none)
  of_row all k [] = refl
  of_row all k (c ∷ cs) = by_test (matches (row (get_or all k none)) c.1) (of_row all k cs)
    where
      by_test : (b : Bool)
          → map (triple_at all) (pairs_at cs k (row (get_or all k none))) ≡ triples_of cs (get_or all k none)
          → map (triple_at all)
          (cons_option (cond b (Some (pair k c.0)) None) (pairs_at cs k (row (get_or all k none))))
          ≡ cons_option (cond b (Some (triple (get_or all k none) c.0)) None) (triples_of cs (get_or all k none))
      by_test true rest = ap (λ ts. triple (get_or all k none) c.0 ∷ ts) rest
      by_test false rest = rest

  -- the pairs of rows that are counted from this number
  abbrev pairs_from : List (ℕ × Z) → ℕ → List Pair → List Pair
  pairs_from cs n ps = flat_map (λ (a : ℕ × W). pairs_at cs a.0 a.1) (enumerate_from n (map row ps))

  -- the rows counted from where the pairs before them end
  looked_on : (before ps : List Pair) (cs : List (ℕ × Z))
      → map (triple_at (before ++ ps)) (pairs_from cs (length before) ps) ≡ flat_map (triples_of cs) ps
  looked_on before [] cs = refl
  looked_on before (p ∷ ps) cs =
      let all = before ++ p ∷ ps in
      let k = length before in
      let here : get_or all k none ≡ p = get_or-append_seam before p ps none in
      let same : (before ++ p ∷ []) ++ ps ≡ all = append_assoc before (p ∷ []) ps in
      let long : length (before ++ p ∷ []) ≡ k + 1 = length-append before (p ∷ []) in
      let first : map (triple_at all) (pairs_at cs k (row p)) ≡ triples_of cs p =
      subst (λ x. map (triple_at all) (pairs_at cs k (row x)) ≡ triples_of cs x) here (of_row all k cs) in
      let later : map (triple_at all) (pairs_from cs (k + 1) ps) ≡ flat_map (triples_of cs) ps =
      subst (λ n. map (triple_at all) (pairs_from cs n ps) ≡ flat_map (triples_of cs) ps) long
      (subst (λ qs. map (triple_at qs) (pairs_from cs (length (before ++ p ∷ [])) ps) ≡ flat_map (triples_of cs) ps)
      same (looked_on (before ++ p ∷ []) ps cs)) in
      map-append (triple_at all) (pairs_at cs k (row p)) (pairs_from cs (k + 1) ps)
      ∙ (ap (λ ts. ts ++ map (triple_at all) (pairs_from cs (k + 1) ps)) first ∙ ap (λ ts. triples_of cs p ++ ts) later)

  looked : (ps : List Pair) (zs : List Z)
      → map (triple_at ps) (nested_loop matches (map row ps) zs) ≡ flat_map (triples_of (enumerate_from 0 zs)) ps
  looked ps zs = looked_on [] ps (enumerate_from 0 zs)

-- ---- the same by three enumerations

module _ {X Y W Z : Type 0} (matches : X → Y → Bool) (joins : X → Y → W) (also : W → Z → Bool) (xs : List X)
    (ys : List Y) (zs : List Z) (d : X) (e : Y) where
  abbrev bs : List (ℕ × Y)
  bs = enumerate_from 0 ys

  abbrev cs : List (ℕ × Z)
  cs = enumerate_from 0 zs

  abbrev row : Pair → W
  row p = joins (get_or xs p.i d) (get_or ys p.j e)

  abbrev all_match : X → Y → Z → Bool
  all_match x y z = matches x y && also (joins x y) z

  -- the triples of a pair whose joined row this is, where there are any
  abbrev triples_if : Bool → W → Pair → List (ℕ × Z) → List Triple
  triples_if test r p cs = filter_map (λ (c : ℕ × Z). cond (test && also r c.1) (Some (triple p c.0)) None) cs

  abbrev of_pair : Pair → List Triple
  of_pair p = triples_if true (row p) p cs

  abbrev of_two : ℕ × X → ℕ × Y → List Triple
  of_two a b = triples_if (matches a.1 b.1) (joins a.1 b.1) (pair a.0 b.0) cs

  abbrev pairs_of : ℕ × X → List (ℕ × Y) → List Pair
  pairs_of a bs = filter_map (λ (b : ℕ × Y). cond (matches a.1 b.1) (Some (pair a.0 b.0)) None) bs

  -- of two rows that don't match there is none
  none_of : (r : W) (p : Pair) (cs : List (ℕ × Z)) → triples_if false r p cs ≡ []
  none_of r p [] = refl
  none_of r p (c ∷ cs) = none_of r p cs

  -- the triples of the pairs of one row
  of_one : (a : ℕ × X) (bs : List (ℕ × Y)) → IsEntry xs d a → AllByRecursion (IsEntry ys e) bs
      → flat_map of_pair (pairs_of a bs) ≡ flat_map (of_two a) bs
  of_one a [] first each = refl
  of_one a (b ∷ bs) first (here, rest) = by_test (matches a.1 b.1) (of_one a bs first rest)
    where
      by_test : (test : Bool) → flat_map of_pair (pairs_of a bs) ≡ flat_map (of_two a) bs
          → flat_map of_pair (cons_option (cond test (Some (pair a.0 b.0)) None) (pairs_of a bs))
          ≡ triples_if test (joins a.1 b.1) (pair a.0 b.0) cs ++ flat_map (of_two a) bs
      by_test true more =
          let is : row (pair a.0 b.0) ≡ joins a.1 b.1 =
          ap (λ x. joins x (get_or ys b.0 e)) first.there ∙ ap (joins a.1) here.there in
          ap (λ r. triples_if true r (pair a.0 b.0) cs ++ flat_map of_pair (pairs_of a bs)) is
          ∙ ap (λ ts. triples_if true (joins a.1 b.1) (pair a.0 b.0) cs ++ ts) more
      by_test false more =
          more ∙ sym (ap (λ ts. ts ++ flat_map (of_two a) bs) (none_of (joins a.1 b.1) (pair a.0 b.0) cs))

  of_all : (others : List (ℕ × X)) → AllByRecursion (IsEntry xs d) others
      → flat_map of_pair (flat_map (λ (a : ℕ × X). pairs_of a bs) others)
      ≡ flat_map (λ (a : ℕ × X). flat_map (of_two a) bs) others
  of_all [] each = refl
  of_all (a ∷ others) (here, rest) =
      flat_map-append of_pair (pairs_of a bs) (flat_map (λ (a : ℕ × X). pairs_of a bs) others)
      ∙ ap (λ ts. ts ++ flat_map of_pair (flat_map (λ (a : ℕ × X). pairs_of a bs) others))
      (of_one a bs here (entries e ys))
      ∙ ap (λ ts. flat_map (of_two a) bs ++ ts) (of_all others rest)

  -- a join over the joined rows, looked up by place, is the triples in their order
  pub chained : map (triple_at (nested_loop matches xs ys)) (nested_loop also (map row (nested_loop matches xs ys)) zs)
      ≡ triple_loop all_match xs ys zs
  chained = looked also row (nested_loop matches xs ys) zs ∙ of_all (enumerate_from 0 xs) (entries d xs)
