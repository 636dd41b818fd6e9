-- Seats of any kind, one for each number: what is left of them, and the last of them.
use Rattle.std.proofs.Common.{◌≡◌, ℕ, zero, suc, ◌+◌, ◌-◌, refl, sym, ap, ◌∙◌, Option, Some, None, List, [], ◌∷◌, map}
use Rattle.std.proofs.Common.{length, arith}
use Rattle.std.specs.Prelude.{slice_get}
use Rattle.std.proofs.lemmas.Option.{get_or_from_slice_get, slice_get_within}
use Rattle.epoch_tags.specs.declared.actor.Actor.{Actor}
use Rattle.epoch_tags.specs.declared.actor.Actor.TheVariants.{Collector}
use Rattle.actor_core.specs.declared.cast.Cast.{Cast}
use Rattle.actor_core.specs.Families.{core_in}
use Rattle.actor_core.specs.Lists.{ActorLists}
use Rattle.actor_core.specs.Numbers.{at_number, count_of, number}
use Rattle.actor_core.specs.Players.{is_complete_among, is_complete_at, is_complete_core, lists_among, lists_at}
use Rattle.actor_core.specs.declared.machines.Core.{Core}
use Rattle.actor_core.proofs.Seated.{core_at}

-- ---- what is left of seats

at_mapped : {S E : Type 0} (f : S → E) (of_seat : S → ActorLists) (of_end : E → ActorLists)
    → ((s : S) → of_end (f s) ≡ of_seat s) → (seats : List S) (n : ℕ)
    → lists_at of_end (slice_get (map f seats) n) ≡ lists_at of_seat (slice_get seats n)
at_mapped f of_seat of_end same [] n = refl
at_mapped f of_seat of_end same (s ∷ seats) zero = same s
at_mapped f of_seat of_end same (s ∷ seats) (suc n) = at_mapped f of_seat of_end same seats n

-- where what is left of each seat has its lists, what is left of all has theirs
pub same_among : {S E : Type 0} (f : S → E) (of_seat : S → ActorLists) (of_end : E → ActorLists)
    → ((s : S) → of_end (f s) ≡ of_seat s) → (cast : Cast) (seats : List S) (a : Actor)
    → lists_among of_end cast (map f seats) a ≡ lists_among of_seat cast seats a
same_among f of_seat of_end same cast seats a = go (number cast a)
  where
    go : (o : Option ℕ) → lists_at of_end (at_number None o (λ n. slice_get (map f seats) n))
        ≡ lists_at of_seat (at_number None o (λ n. slice_get seats n))
    go None = refl
    go (Some n) = at_mapped f of_seat of_end same seats n

-- ---- the last seat

module _ {S : Type 0} (core_of : S → Core) (cast : Cast) (seats : List S) (many : length seats ≡ count_of cast) where
  -- the last machine is the collector's
  pub last_core : slice_get (map core_of seats) (length seats - 1) ≡ core_in cast (map core_of seats) Collector
  last_core =
      let place : length seats - 1 ≡ cast.feeders + cast.joiners + 1 = omega (arith, many) in
      ap (slice_get (map core_of seats)) place

  -- so it tells whether the collector is complete
  pub last_complete : (seat : S) → slice_get seats (length seats - 1) ≡ Some seat
      → is_complete_core (core_of seat) ≡ is_complete_among cast (map core_of seats)
  last_complete seat is =
      let place = length seats - 1 in
      let here = core_at core_of seats place seat (slice_get_within seats place seat is) in
      let same = ap (λ (s : S). Some (core_of s)) (get_or_from_slice_get seats place seat seat is) in
      ap is_complete_at (sym (here ∙ same) ∙ last_core)
