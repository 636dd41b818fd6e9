-- A world before its first event.
use Rattle.std.proofs.Common.{◌≡◌, ℕ, zero, suc, ◌+◌, refl, sym, ap, ap₂, subst, ◌∙◌, Option, Some, None, List, []}
use Rattle.std.proofs.Common.{◌∷◌, ◌++◌, get_or, length, map, inl, inr}
use Rattle.std.specs.Prelude.{replicate}
use Rattle.std.proofs.lemmas.List.{length-append, length-replicate, map-append, replicate_more}
use Rattle.std.proofs.lemmas.List.Elements.{All-replicate}
use Rattle.actor_core.specs.declared.cast.Cast.{Cast}
use Rattle.actor_core.specs.Lists.{no_lists}
use Rattle.actor_core.specs.Numbers.{at_number, cast_of, count_of, number}
use Rattle.actor_core.specs.Players.{AllStand}
use Rattle.actor_core.specs.Tasks.{Task}
use Rattle.actor_core.specs.declared.machines.Core.{Core}
use Rattle.actor_core.proofs.WaveBeginnings.{all_stand, last_is}
use Rattle.link_trace.specs.FirstWorlds.{AreEach, AreNew, HaveBegun, IsFirstWorld, new_world, none_waits}
use Rattle.link_trace.specs.Worlds.{IsSquare, StandsFor, cores_of, state_among, waiting_of, waits}
use Rattle.link_trace.specs.declared.places.Place.{Place}
use Rattle.link_trace.proofs.WorldAfter.{world_of}

-- ---- one more

-- one more that looks like all before it
pub one_more : {X Y : Type 0} (f : X → Y) (xs : List X) (x : X) (n : ℕ) (y : Y) → map f xs ≡ replicate n y → f x ≡ y
    → map f (xs ++ x ∷ []) ≡ replicate (n + 1) y
one_more f xs x n y is last = map-append f xs (x ∷ []) ∙ (λ i. is i ++ last i ∷ []) ∙ replicate_more n y

-- one machine more
pub one_each : (P : ℕ → Core → Type 0) (n : ℕ) (cores : List Core) (core : Core) → AreEach P n cores → P n core
    → AreEach P (n + 1) (cores ++ core ∷ [])
one_each P n cores core old own = record {
  all = length-append cores (core ∷ []) ∙ ap (λ z. z + 1) old.all;
  each = λ m other is. elim (last_is cores core other m is) [
    | inl there ↦ old.each m other there
    | inr last ↦ subst (λ z. P z other) (sym old.all ∙ sym last.0) (subst (P n) last.1 own)
  ];
}

-- ---- nothing waits

same_there : {X : Type 0} (x : X) (n i : ℕ) → get_or (replicate n x) i x ≡ x
same_there x zero i = refl
same_there x (suc n) zero = refl
same_there x (suc n) (suc i) = same_there x n i

none_there : (m n receiver sender : ℕ) → waits (replicate m (replicate n [])) receiver sender ≡ []
none_there zero n receiver sender = refl
none_there (suc m) n zero sender = same_there [] n sender
none_there (suc m) n (suc receiver) sender = none_there m n receiver sender

none_left : (n : ℕ) (i k : Option ℕ) → at_number [] i (λ r. at_number [] k (λ s. waits (none_waits n) r s)) ≡ []
none_left n None k = refl
none_left n (Some r) None = refl
none_left n (Some r) (Some s) = none_there n n r s

-- a list waits at each for each
pub none_square : (n : ℕ) → IsSquare n (none_waits n)
none_square n = record {
  tall = length-replicate n (replicate n []);
  wide = All-replicate (λ queues. length queues ≡ n) n (replicate n []) (length-replicate n []);
}

-- places with these machines, at each of which there is a queue for each and nothing waits, are those of this world
pub is_new : (cast : Cast) (cores : List Core) (count : ℕ) (places : List Place) → length cores ≡ count_of cast
    → count ≡ count_of cast → cores_of places ≡ cores
    → waiting_of places ≡ replicate (length cores) (replicate count [])
    → state_among cast places ≡ new_world cast cores
is_new cast cores count places long many same none =
    ap₂ (world_of cast) same (none ∙ ap₂ (λ m n. replicate m (replicate n [])) long many)

-- ---- it stands for empty lists

-- where its machines do
pub new_stands : (task : Task) (cast : Cast) (cores : List Core) → AllStand task cast cores (λ actor. no_lists)
    → StandsFor task (new_world cast cores) (λ actor. no_lists)
new_stands task cast cores stand = record {
  machines = stand;
  balanced = λ from to. none_left (count_of cast) (number cast to) (number cast from);
}

module _ (task : Task) (cast : Cast) (count : ℕ) (cores : List Core) (is : cast ≡ cast_of task.setting)
    (many : count ≡ count_of cast) where
  -- so do those of all actors, by their numbers
  pub new_stand : AreNew task count cores → AllStand task cast cores (λ actor. no_lists)
  new_stand new = subst (λ c. AllStand task c cores (λ actor. no_lists)) (sym is)
      (all_stand task cores (new.all ∙ (many ∙ ap count_of is)) new.each)

  -- and where they have just begun it is the first of its task
  pub world_begun : HaveBegun task count cores → IsFirstWorld task (new_world cast cores)
  world_begun begun = record {
    cast = is;
    machines = subst (λ n. HaveBegun task n cores) (many ∙ ap count_of is) begun;
    waiting = ap (λ c. none_waits (count_of c)) is;
  }
