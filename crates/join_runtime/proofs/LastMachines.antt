-- The last two machines of settled seats are the controller's and the collector's.
use Rattle.std.proofs.Common.{◌≡◌, ◌∙◌, ℕ, ◌+◌, ◌<◌, Some, ap, arith, get_or, length, map, refl, subst, sym}
use Rattle.std.proofs.lemmas.List.{length-map}
use Rattle.epoch_tags.specs.declared.actor.Actor.{Actor}
use Rattle.epoch_tags.specs.declared.actor.Actor.TheVariants.{Controller, Collector}
use Rattle.actor_core.specs.Endings.{HaveLast}
use Rattle.actor_core.specs.Numbers.{number}
use Rattle.actor_core.proofs.Beginnings.{there}
use Rattle.actor_core.proofs.OwnNumbers.{number_actor}
use Rattle.actor_core.proofs.Seated.{core_at}
use Rattle.join_runtime.specs.Views.{Frame, SeatView, frame_of}
use Rattle.join_runtime.specs.Kinds.{IsMachineOf}
use Rattle.join_runtime.specs.Joins.{AreJoined, AreSettled}
use Rattle.join_runtime.specs.Bouts.{SeatsView, cores_in}
use Rattle.join_runtime.proofs.Ended.{many_seats}
use Rattle.join_runtime.proofs.FramePlaces.{frame_at}
use Rattle.join_runtime.proofs.OwnMachines.{collectors, controllers}

module _ (v : SeatsView) (joined : AreJoined v.cast (map frame_of v.seats)) where
  -- the actor of a seat is that of its number
  pub seat_actor : (n : ℕ) (d : SeatView) (a : Actor) → n < length v.seats → number v.cast a ≡ Some n
      → (get_or v.seats n d).actor ≡ a
  seat_actor n d a low is =
      let low' = subst (λ z. n < z) (sym (length-map v.seats frame_of)) low in
      ap (λ (f : Frame). f.actor) (sym (frame_at v.seats n d low))
      ∙ ((joined.placed n (frame_of d) low').actor ∙ number_actor v.cast a n is)

  -- the machine of each actor of settled seats is one for it
  pub own_machine : AreSettled v.seats → (n : ℕ) (d : SeatView) (a : Actor) → n < length v.seats
      → number v.cast a ≡ Some n → IsMachineOf (get_or v.seats n d).core a
  own_machine settled n d a low is =
      subst (IsMachineOf (get_or v.seats n d).core) (seat_actor n d a low is) (settled.own n d low)

  -- so the last two are the controller's and the collector's
  pub have_last : AreSettled v.seats → HaveLast (cores_in v)
  have_last settled =
      let all = many_seats v joined in
      let before = v.cast.feeders + v.cast.joiners in
      let low : before < length v.seats = omega (arith, all) in
      let low' : before + 1 < length v.seats = omega (arith, all) in
      let d = (there v.seats before low).0 in
      let one = controllers (get_or v.seats before d).core (own_machine settled before d Controller low refl) in
      let other = collectors (get_or v.seats (before + 1) d).core
      (own_machine settled (before + 1) d Collector low' refl) in
      record {
        controller = one.0;
        collector = other.0;
        are = record {
          before = before;
          many = length-map v.seats (λ (s : SeatView). s.core) ∙ all;
          controller_is = core_at (λ (s : SeatView). s.core) v.seats before d low ∙ ap Some one.1;
          collector_is = core_at (λ (s : SeatView). s.core) v.seats (before + 1) d low' ∙ ap Some other.1;
        };
      }
