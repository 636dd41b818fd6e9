-- What finished seats leave, and the families of lists.
use Rattle.std.specs.Prelude.{Bool, Option, List}
use Rattle.epoch_tags.specs.declared.actor.Actor.{Actor}
use Rattle.load_controller.specs.declared.line.TurnLine.{TurnLine}
use Rattle.ruled_links.specs.Ends.{Sending}
use Rattle.ruled_links.specs.Inboxes.{InboxView}
use Rattle.trace_law.specs.Family.{Family}
use Rattle.actor_core.specs.declared.cast.Cast.{Cast}
use Rattle.actor_core.specs.Lists.{ActorLists}
use Rattle.actor_core.specs.Families.{family_of}
use Rattle.actor_core.specs.Players.{is_complete_among, journal_among, lists_among}
use Rattle.join_runtime.specs.Views.{SeatView, received_of, sent_through}
use Rattle.join_runtime.specs.Bouts.{SeatsView, cores_in, lists_in}

-- an actor's inbox and mouths, without its machine
pub record EndView : Type 0 where
  pub cast : Cast
  pub inbox : InboxView
  pub mouths : List (Option Sending)

-- the inbox and the mouths of a seat
abbrev pub end_of : SeatView → EndView
end_of seat = record { cast = seat.cast; inbox = seat.inbox; mouths = seat.mouths }

-- the ends of all actors of a run, by their numbers
pub record EndsView : Type 0 where
  pub cast : Cast
  pub ends : List EndView

-- what was received and sent at an end
abbrev pub lists_of_end : EndView → ActorLists
lists_of_end end = record {
  received = received_of end.inbox.received;
  sent = sent_through end.cast end.mouths;
}

-- what each actor has received and sent
abbrev pub lists_left : EndsView → Actor → ActorLists
lists_left e = lists_among lists_of_end e.cast e.ends

-- the journal of the controller among these seats
abbrev pub journal_in : SeatsView → List TurnLine
journal_in v = journal_among v.cast (cores_in v)

-- the typed lists of all actors, with that journal
abbrev pub family_in : SeatsView → Family
family_in v = family_of (journal_in v) (lists_in v)

-- the collector of these seats is complete
abbrev pub is_collected : SeatsView → Bool
is_collected v = is_complete_among v.cast (cores_in v)
