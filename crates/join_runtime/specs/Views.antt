-- What contracts see of a seat, and the lists that its actor has received and sent.
use Rattle.std.specs.Prelude.{ℕ, Bool, Option, Some, None, List, [], map, slice_index_or}
use Rattle.epoch_tags.specs.declared.actor.Actor.{Actor}
use Rattle.epoch_tags.specs.declared.message.Msg.{Msg}
use Rattle.epoch_tags.specs.declared.message.Envelope.{Envelope}
use Rattle.ruled_links.specs.Ends.{LinkId, Sending}
use Rattle.ruled_links.specs.Inboxes.{InboxView, messages_of, senders_of}
use Rattle.actor_core.specs.declared.cast.Cast.{Cast}
use Rattle.actor_core.specs.Lists.{ActorLists}
use Rattle.actor_core.specs.Numbers.{number, at_number}
use Rattle.actor_core.specs.Players.{Player}
use Rattle.actor_core.specs.declared.machines.Core.{Core}

-- an actor of a run: its machine, its inbox, and by the numbers of actors a mouth for
-- each to which it sends
pub record SeatView : Type 0 where
  pub cast : Cast
  pub actor : Actor
  pub core : Core
  pub inbox : InboxView
  pub mouths : List (Option Sending)
  pub spent : Bool

-- the messages in these envelopes
abbrev pub contents : List Envelope → List Msg
contents envelopes = map (λ e. e.msg) envelopes

-- what was received of one sender
abbrev pub received_of : List Envelope → Actor → List Msg
received_of envelopes from = contents (messages_of from envelopes)

-- what was sent through a mouth, where there is one
abbrev pub sent_by : Option Sending → List Msg
sent_by None = []
sent_by (Some mouth) = contents mouth.sent

-- what was sent to the actor of this number
abbrev pub sent_at : List (Option Sending) → ℕ → List Msg
sent_at mouths n = sent_by (slice_index_or mouths n None)

-- what was sent to this actor
abbrev pub sent_through : Cast → List (Option Sending) → Actor → List Msg
sent_through cast mouths to = at_number [] (number cast to) (sent_at mouths)

-- what the actor of a seat has received and sent, link by link
abbrev pub lists_of : SeatView → ActorLists
lists_of seat = record {
  received = received_of seat.inbox.received;
  sent = sent_through seat.cast seat.mouths;
}

-- the actor of a seat at work: its machine and its lists
abbrev pub player : SeatView → Player
player seat = record { core = seat.core; lists = lists_of seat }

-- which link a mouth is of, who sends, and who receives
pub record Address : Type 0 where
  pub link : LinkId
  pub from : Actor
  pub to : Actor

-- the address of a mouth, where there is one
abbrev pub address_of : Option Sending → Option Address
address_of None = None
address_of (Some mouth) = Some (record { link = mouth.link; from = mouth.from; to = mouth.to })

-- whose seat it is, and the ends of which links it has: no turn changes this
pub record Frame : Type 0 where
  pub cast : Cast
  pub actor : Actor
  pub link : LinkId
  pub to : Actor
  pub senders : List Actor
  pub addresses : List (Option Address)

-- the frame of a seat
abbrev pub frame_of : SeatView → Frame
frame_of seat = record {
  cast = seat.cast;
  actor = seat.actor;
  link = seat.inbox.link;
  to = seat.inbox.to;
  senders = senders_of seat.inbox.senders;
  addresses = map address_of seat.mouths;
}
