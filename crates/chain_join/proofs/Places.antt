-- Lists whose entries are counted, and the places in the pairs of a nested loop over them.
use Rattle.std.proofs.Common.{◌≡◌, ℕ, zero, suc, ◌+◌, ◌<◌, subst, arith, Bool, true, false, cond, Some, None, List, []}
use Rattle.std.proofs.Common.{◌∷◌, ◌++◌, get_or, length, append_assoc}
use Rattle.std.specs.Prelude.{All, filter_map}
use Rattle.std.specs.List.{AllByRecursion, cons_option, enumerate_from}
use Rattle.std.proofs.lemmas.List.{length-append}
use Rattle.std.proofs.Math.Seq.{get_or-append_seam}
use Rattle.row_cells.proofs.Everywhere.{all-flat_map, weaken}
use Rattle.epoch_tags.specs.declared.tuple.Pair.{Pair}
use Rattle.epoch_tags.specs.Loop.{nested_loop}

-- the entry is that of the list at its place
pub record IsEntry {X : Type 0} (xs : List X) (d : X) (entry : ℕ × X) : Type 0 where
  pub there : get_or xs entry.0 d ≡ entry.1
  pub low : entry.0 < length xs

-- so is each of those counted from where the entries before them end
entries_on : {X : Type 0} (d : X) (before xs : List X)
    → AllByRecursion (IsEntry (before ++ xs) d) (enumerate_from (length before) xs)
entries_on d before [] = tt
entries_on d before (x ∷ xs) =
    let long : length (before ++ x ∷ []) ≡ length before + 1 = length-append before (x ∷ []) in
    let all : length (before ++ x ∷ xs) ≡ length before + length (x ∷ xs) = length-append before (x ∷ xs) in
    let same : (before ++ x ∷ []) ++ xs ≡ before ++ x ∷ xs = append_assoc before (x ∷ []) xs in (
      record { there = get_or-append_seam before x xs d; low = omega arith },
      subst (λ n. AllByRecursion (IsEntry (before ++ x ∷ xs) d) (enumerate_from n xs)) long
          (subst (λ ys. AllByRecursion (IsEntry ys d) (enumerate_from (length (before ++ x ∷ [])) xs)) same
          (entries_on d (before ++ x ∷ []) xs)),
    )

-- each entry of a list is that at its place
pub entries : {X : Type 0} (d : X) (xs : List X) → AllByRecursion (IsEntry xs d) (enumerate_from 0 xs)
entries d xs = entries_on d [] xs

-- the places in the pair are below these numbers
pub record IsWithin (rows_r rows_s : ℕ) (pair : Pair) : Type 0 where
  pub first : pair.i < rows_r
  pub second : pair.j < rows_s

module _ {X Y : Type 0} (matches : X → Y → Bool) (d : X) (e : Y) (xs : List X) (ys : List Y) where
  abbrev IsLow : Pair → Type 0
  IsLow = IsWithin (length xs) (length ys)

  abbrev pair : ℕ → ℕ → Pair
  pair i j = record { i = i; j = j }

  abbrev pairs_of : ℕ × X → List (ℕ × Y) → List Pair
  pairs_of a bs = filter_map (λ (b : ℕ × Y). cond (matches a.1 b.1) (Some (pair a.0 b.0)) None) bs

  low_pairs : (a : ℕ × X) (bs : List (ℕ × Y)) → IsEntry xs d a → AllByRecursion (IsEntry ys e) bs
      → AllByRecursion IsLow (pairs_of a bs)
  low_pairs a [] first each = tt
  low_pairs a (b ∷ bs) first (here, rest) = by_test (matches a.1 b.1) (low_pairs a bs first rest)
    where
      by_test : (test : Bool) → AllByRecursion IsLow (pairs_of a bs)
          → AllByRecursion IsLow (cons_option (cond test (Some (pair a.0 b.0)) None) (pairs_of a bs))
      by_test true more = (record { first = first.low; second = here.low }, more)
      by_test false more = more

  -- each pair of a nested loop has places of the two lists
  pub pairs_within : AllByRecursion IsLow (nested_loop matches xs ys)
  pairs_within =
      all-flat_map IsLow (λ (a : ℕ × X). pairs_of a (enumerate_from 0 ys)) (enumerate_from 0 xs)
      (weaken (IsEntry xs d) _ (λ a is. low_pairs a (enumerate_from 0 ys) is (entries e ys))
      (enumerate_from 0 xs) (entries d xs))

-- what holds of each by recursion holds at each place
at_place : {X : Type 0} (P : X → Type 0) (xs : List X) → AllByRecursion P xs
    → (k : ℕ) (d : X) → k < length xs → P (get_or xs k d)
at_place P [] each k d low = absurd (omega arith)
at_place P (x ∷ xs) (here, rest) zero d low = here
at_place P (x ∷ xs) (here, rest) (suc k) d low = at_place P xs rest k d (omega arith)

-- and so of each element
pub all_of : {X : Type 0} (P : X → Type 0) (xs : List X) → AllByRecursion P xs → All P xs
all_of P xs each = at_place P xs each
