-- The stores that joiners' machines give back.
use Rattle.std.proofs.Common.{◌≡◌, ℕ, zero, suc, ◌+◌, ◌≤◌, refl, sym, ap, subst, ◌∙◌, inl, inr, arith}
use Rattle.std.proofs.Common.{Some, List, [], ◌∷◌, ◌++◌, length}
use Rattle.std.specs.Prelude.{slice_get}
use Rattle.std.proofs.lemmas.List.{length-append}
use Rattle.store_parts.specs.Stored.{Stored}
use Rattle.actor_core.specs.Leavings.{AreStores, Gives}
use Rattle.actor_core.specs.declared.machines.Core.{Core}
use Rattle.actor_core.proofs.OwnNumbers.{none_some}
use Rattle.actor_core.proofs.WaveBeginnings.{last_is}

-- what is found in a list's front is found in the list
pub in_front : {X : Type 0} (xs ys : List X) (n : ℕ) (x : X) → slice_get xs n ≡ Some x → slice_get (xs ++ ys) n ≡ Some x
in_front [] ys n x is = absurd (none_some x is)
in_front (z ∷ xs) ys zero x is = is
in_front (z ∷ xs) ys (suc n) x is = in_front xs ys n x is

-- the last element is found at the length of what is before it
pub at_end : {X : Type 0} (xs : List X) (x : X) → slice_get (xs ++ x ∷ []) (length xs) ≡ Some x
at_end [] x = refl
at_end (z ∷ xs) x = at_end xs x

-- no list is yet there
pub none_given : (feeders : ℕ) → AreStores feeders [] []
none_given feeders = record {
  long = omega arith;
  each = λ k given is. absurd (none_some given is);
}

-- one machine more, and its store
pub gives_one : (feeders : ℕ) (cores : List Core) (core : Core) (stores : List Stored) (given : Stored)
    → feeders ≤ length cores → AreStores feeders cores stores → Gives core given
    → AreStores feeders (cores ++ core ∷ []) (stores ++ given ∷ [])
gives_one feeders cores core stores given high are gives =
    let more = length-append cores (core ∷ []) in
    let more' = length-append stores (given ∷ []) in
    let long = are.long in
    let place : length cores ≡ feeders + length stores = omega (arith, long, high) in
    record {
      long = omega (arith, more, more', long, high);
      each = λ k other is. elim (last_is stores given other k is) [
        | inl there ↦
            let own = are.each k other there in
            (own.0, in_front cores (core ∷ []) (feeders + k) own.0 own.1, own.2)
        | inr last ↦ (
          core,
          subst (λ n. slice_get (cores ++ core ∷ []) n ≡ Some core)
              (place ∙ ap (λ n. feeders + n) (sym last.0)) (at_end cores core),
          subst (Gives core) last.1 gives,
        )
      ];
    }
