-- One more stored tuple.
use Rattle.std.proofs.Common.{◌≡◌, ℕ, ◌+◌, ◌<◌, Bool, cond, List, [], ◌∷◌, ◌++◌, length, take, drop, sym, ap, ◌∙◌}
use Rattle.std.proofs.Common.{get_or, filter, map, count_by}
use Rattle.std.proofs.lemmas.List.{take_more, take-append-drop, map-append}
use Rattle.std.proofs.lemmas.List.Elements.{filter-append}
use Rattle.std.proofs.lemmas.List.Sums.{sum_by-append}
use Rattle.epoch_tags.specs.declared.tuple.Tuple.{Tuple}
use Rattle.epoch_tags.specs.declared.tuple.Pair.{Pair}
use Rattle.theta_pred.specs.Formula.{Meaning}
use Rattle.store_parts.specs.declared.by_stamp.Which.{Which}
use Rattle.store_parts.specs.Matches.{matches, is_found, pair_of, AppendsFront}

-- one more element taken of a list is its next one, behind those before
pub take_one : {X : Type 0} (xs : List X) (i : ℕ) (x : X) → i < length xs → x ≡ get_or xs i x
    → take (i + 1) xs ≡ take i xs ++ x ∷ []
take_one xs i x low is = take_more xs i x low ∙ ap (λ y. take i xs ++ y ∷ []) (sym is)

-- a probe of two lists, one behind the other, finds what it finds in the first and then in the second
pub matches-append : (theta : Meaning) (t : Tuple) (which : Which) (xs ys : List Tuple)
    → matches theta t which (xs ++ ys) ≡ matches theta t which xs ++ matches theta t which ys
matches-append theta t which xs ys =
    ap (map (pair_of t)) (filter-append (is_found theta t which) xs ys)
    ∙ map-append (pair_of t) (filter (is_found theta t which) xs) (filter (is_found theta t which) ys)

-- a test passes as many of two lists, one behind the other, as of the first and of the second
pub count_by-append : {X : Type 0} (p : X → Bool) (xs ys : List X)
    → count_by p (xs ++ ys) ≡ count_by p xs + count_by p ys
count_by-append p xs ys = sum_by-append (λ x. cond (p x) 1 0) xs ys

-- what the first tuples gave is a front of what all give
pub front_of_matches : (theta : Meaning) (t : Tuple) (which : Which) (xs : List Tuple) (i : ℕ) (old new : List Pair)
    → new ≡ old ++ matches theta t which (take i xs) → AppendsFront old new (matches theta t which xs)
front_of_matches theta t which xs i old new is = record {
  front = matches theta t which (take i xs);
  appended = is;
  prefix = record {
    rest = matches theta t which (drop i xs);
    joins = sym (matches-append theta t which (take i xs) (drop i xs))
        ∙ ap (matches theta t which) (take-append-drop i xs);
  };
}

-- the same of those that a test keeps
pub front_of_sifted : (p : Tuple → Bool) (theta : Meaning) (t : Tuple) (which : Which) (xs : List Tuple) (i : ℕ)
    (old new : List Pair)
    → new ≡ old ++ matches theta t which (filter p (take i xs))
    → AppendsFront old new (matches theta t which (filter p xs))
front_of_sifted p theta t which xs i old new is = record {
  front = matches theta t which (filter p (take i xs));
  appended = is;
  prefix = record {
    rest = matches theta t which (filter p (drop i xs));
    joins = sym (matches-append theta t which (filter p (take i xs)) (filter p (drop i xs)))
        ∙ ap (matches theta t which) (sym (filter-append p (take i xs) (drop i xs))
        ∙ ap (filter p) (take-append-drop i xs));
  };
}
