-- What finished seats over rings leave.
use Rattle.std.specs.Prelude.{Option, List}
use Rattle.epoch_tags.specs.declared.actor.Actor.{Actor}
use Rattle.ring_links.specs.Rings.{Receiving}
use Rattle.ring_links.specs.Outlets.{OutletView}
use Rattle.actor_core.specs.declared.cast.Cast.{Cast}
use Rattle.actor_core.specs.Lists.{ActorLists}
use Rattle.actor_core.specs.Players.{lists_among}
use Rattle.ring_runtime.specs.Seats.{RingSeatView, received_through, sent_through}

-- an actor's ends of rings and its outlets, without its machine
pub record RingEndView : Type 0 where
  pub cast : Cast
  pub ins : List (Option Receiving)
  pub outs : List (Option OutletView)

-- the ends and the outlets of a seat
abbrev pub end_of : RingSeatView → RingEndView
end_of seat = record { cast = seat.cast; ins = seat.ins; outs = seat.outs }

-- the ends of all actors of a run, by their numbers
pub record RingEndsView : Type 0 where
  pub cast : Cast
  pub ends : List RingEndView

-- what was received and sent at an end; what waits in an outlet was sent
abbrev pub lists_of_end : RingEndView → ActorLists
lists_of_end end = record {
  received = received_through end.cast end.ins;
  sent = sent_through end.cast end.outs;
}

-- what each actor has received and sent
abbrev pub lists_left : RingEndsView → Actor → ActorLists
lists_left e = lists_among lists_of_end e.cast e.ends
