-- The senders of an inbox, as the actors below a number are gone through.
use Rattle.std.proofs.Common.{◌≡◌, ◌≢◌, ℕ, ◌+◌, ◌^◌, ◌<◌, inl, inr, sym, ap, subst, ◌∙◌, Some, List, [], ◌∷◌, ◌++◌}
use Rattle.std.proofs.Common.{get_or, length, arith}
use Rattle.std.proofs.lemmas.Bool.{cases_lt}
use Rattle.std.specs.Prelude.{Contains}
use Rattle.std.proofs.Math.Seq.{get_or-append_seam}
use Rattle.std.proofs.lemmas.List.{length-append, get_or_append_left}
use Rattle.std.proofs.lemmas.List.Elements.{Contains-push, Contains-append_left, Contains-push_cases}
use Rattle.epoch_tags.specs.declared.actor.Actor.{Actor}
use Rattle.epoch_tags.specs.Links.{HasLink}
use Rattle.actor_core.specs.declared.cast.Cast.{Cast}
use Rattle.actor_core.specs.Numbers.{number}
use Rattle.actor_core.proofs.OwnNumbers.{number_actor, some_is}
use Rattle.join_runtime.specs.Seating.{AreBelow, AreLinked}

-- of no actors each has a number below 0, and no two are one
pub below_none : (cast : Cast) → AreBelow cast 0 []
below_none cast = record {
  each = λ k d low. absurd (omega arith);
  differ = λ i k d before low. absurd (omega arith);
}

-- different actors with numbers below n have numbers below n + 1
pub below_more : (cast : Cast) (n : ℕ) (actors : List Actor) → AreBelow cast n actors
    → AreBelow cast (n + 1) actors
below_more cast n actors below = record {
  each = λ k d low. let old = below.each k d low in (old.0, old.1, omega (arith, old.2));
  differ = below.differ;
}

-- one actor more, of the number n
pub below_push : (cast : Cast) (n : ℕ) (actors : List Actor) (last : Actor) → number cast last ≡ Some n
    → AreBelow cast n actors → AreBelow cast (n + 1) (actors ++ last ∷ [])
below_push cast n actors last is below = record { each = each; differ = differ }
  where
    long : length (actors ++ last ∷ []) ≡ length actors + 1
    long = length-append actors (last ∷ [])

    each : (k : ℕ) (d : Actor) → k < length (actors ++ last ∷ []) → (m : ℕ)
        × (number cast (get_or (actors ++ last ∷ []) k d) ≡ Some m) × (m < n + 1)
    each k d low = elim (cases_lt k (length actors)) [
      | inl less ↦
          let old = below.each k d less in (
            old.0,
            ap (number cast) (get_or_append_left actors (last ∷ []) d k less) ∙ old.1,
            omega (arith, old.2),
          )
      | inr more ↦
          let at : length actors ≡ k = omega (arith, long) in (
            n,
            ap (number cast) (subst (λ z. get_or (actors ++ last ∷ []) z d ≡ last) at
                (get_or-append_seam actors last [] d)) ∙ is,
            omega arith,
          )
    ]

    differ : (i k : ℕ) (d : Actor) → i < k → k < length (actors ++ last ∷ [])
        → get_or (actors ++ last ∷ []) i d ≢ get_or (actors ++ last ∷ []) k d
    differ i k d before low same = elim (cases_lt k (length actors)) [
      | inl less ↦
          let left = get_or_append_left actors (last ∷ []) d i (omega arith) in
          let right = get_or_append_left actors (last ∷ []) d k less in
          below.differ i k d before less (sym left ∙ (same ∙ right))
      | inr more ↦
          let at : length actors ≡ k = omega (arith, long) in
          let left = get_or_append_left actors (last ∷ []) d i (omega arith) in
          let right = subst (λ z. get_or (actors ++ last ∷ []) z d ≡ last) at (get_or-append_seam actors last [] d) in
          let old = below.each i d (omega arith) in
          let equal : old.0 ≡ n = some_is old.0 n (sym old.1
          ∙ (ap (number cast) (sym left ∙ (same ∙ right)) ∙ is)) in
          let low' = old.2 in
          omega (arith, equal, low')
    ]

-- the empty list is that of the actors with a number below 0 that have a link to this one
pub linked_none : (cast : Cast) (to : Actor) → AreLinked cast 0 to []
linked_none cast to = record {
  sound = λ k grid a has. absurd (omega (arith, has.1));
  whole = λ k grid a n is low link. absurd (omega arith);
}

same_actors : (cast : Cast) (a b : Actor) (n : ℕ) → number cast a ≡ Some n
    → number cast b ≡ Some n → a ≡ b
same_actors cast a b n is is' = sym (number_actor cast a n is)
    ∙ number_actor cast b n is'

-- an actor more, of the number n, that has no link
pub linked_more : (cast : Cast) (n : ℕ) (to next : Actor) (actors : List Actor) → number cast next ≡ Some n
    → ((k : ℕ) → cast.joiners ≡ 2 ^ k → ¬ HasLink k cast.feeders next to)
    → AreLinked cast n to actors → AreLinked cast (n + 1) to actors
linked_more cast n to next actors is none linked = record { sound = linked.sound; whole = whole }
  where
    whole : (k : ℕ) → cast.joiners ≡ 2 ^ k → (a : Actor) (m : ℕ) → number cast a ≡ Some m → m < n + 1
        → HasLink k cast.feeders a to → Contains actors a
    whole k grid a m is' low link = elim (cases_lt m n) [
      | inl less ↦ linked.whole k grid a m is' less link
      | inr more ↦
          let at : m ≡ n = omega arith in
          absurd (none k grid (subst (λ z. HasLink k cast.feeders z to)
          (same_actors cast a next n (is' ∙ ap Some at) is) link))
    ]

-- and one that has
pub linked_push : (cast : Cast) (n : ℕ) (to last : Actor) (actors : List Actor) → number cast last ≡ Some n
    → ((k : ℕ) → cast.joiners ≡ 2 ^ k → HasLink k cast.feeders last to)
    → AreLinked cast n to actors → AreLinked cast (n + 1) to (actors ++ last ∷ [])
linked_push cast n to last actors is has linked = record { sound = sound; whole = whole }
  where
    sound : (k : ℕ) → cast.joiners ≡ 2 ^ k → (a : Actor) → Contains (actors ++ last ∷ []) a
        → HasLink k cast.feeders a to
    sound k grid a one = elim (Contains-push_cases actors last a one) [
      | inl old ↦ linked.sound k grid a old
      | inr same ↦ subst (λ z. HasLink k cast.feeders z to) same (has k grid)
    ]

    whole : (k : ℕ) → cast.joiners ≡ 2 ^ k → (a : Actor) (m : ℕ) → number cast a ≡ Some m → m < n + 1
        → HasLink k cast.feeders a to → Contains (actors ++ last ∷ []) a
    whole k grid a m is' low link = elim (cases_lt m n) [
      | inl less ↦ Contains-append_left actors (last ∷ []) a (linked.whole k grid a m is' less link)
      | inr more ↦
          let at : m ≡ n = omega arith in
          subst (Contains (actors ++ last ∷ [])) (same_actors cast last a n is (is' ∙ ap Some at))
          (Contains-push actors last)
    ]
