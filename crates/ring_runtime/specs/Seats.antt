-- What contracts see of a seat over rings, and the lists that its actor has received and sent.
use Rattle.std.specs.Prelude.{◌≡◌, ⊤, ℕ, Bool, Option, Some, None, List, [], length, map, slice_index_or, sum_by}
use Rattle.epoch_tags.specs.declared.actor.Actor.{Actor}
use Rattle.epoch_tags.specs.declared.message.Msg.{Msg}
use Rattle.ring_links.specs.Rings.{Receiving, RingId}
use Rattle.ring_links.specs.Outlets.{OutletView, IsStuck, contents, sent_on}
use Rattle.actor_core.specs.declared.cast.Cast.{Cast}
use Rattle.actor_core.specs.Lists.{ActorLists}
use Rattle.actor_core.specs.Numbers.{number, at_number}
use Rattle.actor_core.specs.Players.{Player}
use Rattle.actor_core.specs.declared.machines.Core.{Core}

-- an actor of a run: its machine, and by the numbers of actors the end of a ring from
-- each that sends to it, and an outlet to each to which it sends
pub record RingSeatView : Type 0 where
  pub cast : Cast
  pub actor : Actor
  pub core : Core
  pub ins : List (Option Receiving)
  pub outs : List (Option OutletView)
  pub spent : Bool

-- ---- what was received and sent

-- what was received at an end, where there is one
abbrev pub received_at : Option Receiving → List Msg
received_at None = []
received_at (Some inn) = contents inn.received

-- what was received of the actor of this number
abbrev pub received_from : List (Option Receiving) → ℕ → List Msg
received_from ins n = received_at (slice_index_or ins n None)

-- what was received of this actor
abbrev pub received_through : Cast → List (Option Receiving) → Actor → List Msg
received_through cast ins from = at_number [] (number cast from) (received_from ins)

-- what was sent through an outlet and what waits in it, where there is one
abbrev pub sent_at : Option OutletView → List Msg
sent_at None = []
sent_at (Some outlet) = sent_on outlet

-- what was sent to the actor of this number
abbrev pub sent_to : List (Option OutletView) → ℕ → List Msg
sent_to outs n = sent_at (slice_index_or outs n None)

-- what was sent to this actor
abbrev pub sent_through : Cast → List (Option OutletView) → Actor → List Msg
sent_through cast outs to = at_number [] (number cast to) (sent_to outs)

-- what the actor of a seat has received and sent, link by link
abbrev pub lists_of : RingSeatView → ActorLists
lists_of seat = record {
  received = received_through seat.cast seat.ins;
  sent = sent_through seat.cast seat.outs;
}

-- the actor of a seat at work
abbrev pub player_of : RingSeatView → Player
player_of seat = record { core = seat.core; lists = lists_of seat }

-- ---- what is known, and what waits

-- how many messages are known to be left in a ring, where there is one
abbrev pub known_at : Option Receiving → ℕ
known_at None = 0
known_at (Some inn) = inn.known

-- no message is known to be left in any ring
abbrev pub NoneKnown : List (Option Receiving) → Type 0
NoneKnown ins = (n : ℕ) → known_at (slice_index_or ins n None) ≡ 0

-- how many messages wait in an outlet, where there is one
abbrev pub waiting_at : Option OutletView → ℕ
waiting_at None = 0
waiting_at (Some outlet) = length outlet.waiting

-- how many messages wait in all outlets
abbrev pub waiting_in : List (Option OutletView) → ℕ
waiting_in outs = sum_by waiting_at outs

-- no message waits in any outlet
abbrev pub NoneWaits : List (Option OutletView) → Type 0
NoneWaits outs = (n : ℕ) → waiting_at (slice_index_or outs n None) ≡ 0

-- nothing waits in an outlet, or its end knows of no free place; or there is none
abbrev pub IsStuckAt : Option OutletView → Type 0
IsStuckAt None = ⊤
IsStuckAt (Some outlet) = IsStuck outlet

-- so it is of each outlet
abbrev pub AllStuck : List (Option OutletView) → Type 0
AllStuck outs = (n : ℕ) → IsStuckAt (slice_index_or outs n None)

-- ---- whose seat it is, and the ends of which rings it has: no turn changes this

-- which ring an end is of, who sends to whom, and for how many messages the ring has room
pub record Address : Type 0 where
  pub ring : RingId
  pub from : Actor
  pub to : Actor
  pub room : ℕ

-- the address of an end that receives, where there is one
abbrev pub in_address : Option Receiving → Option Address
in_address None = None
in_address (Some inn) = Some (record { ring = inn.ring; from = inn.from; to = inn.to; room = inn.room })

-- the address of an outlet, where there is one
abbrev pub out_address : Option OutletView → Option Address
out_address None = None
out_address (Some outlet) = Some (record {
  ring = outlet.out.ring;
  from = outlet.out.from;
  to = outlet.out.to;
  room = outlet.out.room;
})

-- what no turn changes
pub record Frame : Type 0 where
  pub cast : Cast
  pub actor : Actor
  pub ins : List (Option Address)
  pub outs : List (Option Address)

-- the frame of a seat
abbrev pub frame_of : RingSeatView → Frame
frame_of seat = record {
  cast = seat.cast;
  actor = seat.actor;
  ins = map in_address seat.ins;
  outs = map out_address seat.outs;
}
