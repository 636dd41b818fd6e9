-- What a turn of a seat does, and several turns.
use Rattle.std.specs.Prelude.{◌≡◌, ◌<◌, ◌⊎◌, ℕ, true, false, List, length, slice_index_or}
use Rattle.row_cells.specs.Lists.{IsPrefix}
use Rattle.epoch_tags.specs.declared.actor.Actor.{Actor}
use Rattle.epoch_tags.specs.declared.message.Post.{Post}
use Rattle.ruled_links.specs.Inboxes.{InboxView, OfSender, all_known, is_sender}
use Rattle.actor_core.specs.Lists.{Cause, Took, Began, with_cause}
use Rattle.actor_core.specs.Standing.{Occurs, Waits, IsLive, given_by}
use Rattle.actor_core.specs.Families.{journal_of}
use Rattle.actor_core.specs.Players.{MakesEvent, MayBegin, Runs}
use Rattle.actor_core.specs.declared.machines.Core.{Core}
use Rattle.actor_core.specs.declared.step.Step.{Step}
use Rattle.actor_core.specs.declared.step.Step.TheVariants.{Took as TookStep, Idle}
use Rattle.join_runtime.specs.Views.{SeatView, frame_of, lists_of, player, received_of}

-- a message that was taken is of one of the inbox's senders; where the actor began, nothing was known to be left
abbrev pub IsHeard : Cause → List OfSender → Type 0
IsHeard (Took from m) senders = is_sender from senders ≡ true
IsHeard Began senders = all_known senders ≡ 0

-- one event of the seat's actor: a message that it took came out of the inbox, and what it sent went into the mouths,
-- in
-- order
pub record MakesTurn (old new : SeatView) : Type 0 where
  pub event : MakesEvent (player old) (player new)
  pub heard : IsHeard event.cause old.inbox.senders
  pub frame : frame_of new ≡ frame_of old

-- nothing is known to be left for the seat, and its machine would not begin
pub record Rests (core : Core) (inbox : InboxView) : Type 0 where
  pub none_known : all_known inbox.senders ≡ 0
  pub waits : Waits core

-- the first half of an event: the message or the beginning, and the machine's call
pub record IsCaused (old new : Core) (before after : InboxView) (none sends : List Post) : Type 0 where
  pub cause : Cause
  pub occurs : Occurs cause old new none sends
  pub free : MayBegin cause old
  pub heard : IsHeard cause before.senders
  pub live : IsLive new
  pub given : given_by new ≡ given_by old
  pub grows : IsPrefix (journal_of old) (journal_of new)
  pub received : (from : Actor) → received_of after.received from ≡ with_cause cause (received_of before.received) from

-- by what the step tells: the first half of an event, or nothing was to be done
abbrev pub Opens : Step → Core → Core → InboxView → InboxView → List Post → List Post → Type 0
Opens TookStep old new before after none sends = IsCaused old new before after none sends
Opens Idle old new before after none sends = (new ≡ old) × (after ≡ before) × Rests old before

-- the two have the same machine and lists: they differ at most in what is known to be left
pub record IsAlike (old new : SeatView) : Type 0 where
  pub core : new.core ≡ old.core
  pub lists : lists_of new ≡ lists_of old
  pub frame : frame_of new ≡ frame_of old

-- it is the same actor's seat, with the ends of the same links, and no more was received of one that is no sender
pub record KeepsEnds (old new : SeatView) : Type 0 where
  pub frame : frame_of new ≡ frame_of old
  pub heard : (from : Actor) → is_sender from old.inbox.senders ≡ false
      → (lists_of new).received from ≡ (lists_of old).received from

-- some events, and none only where the seat rested
pub record Advances (old new : SeatView) : Type 0 where
  pub count : ℕ
  pub runs : Runs count (player old) (player new)
  pub ends : KeepsEnds old new
  pub none : count ≡ 0 → Rests old.core old.inbox

-- some events, or none and nothing changed
pub record Steps (old new : SeatView) : Type 0 where
  pub count : ℕ
  pub runs : Runs count (player old) (player new)
  pub ends : KeepsEnds old new
  pub same : count ≡ 0 → new ≡ old

-- so it is of each seat
abbrev pub AllStep : List SeatView → List SeatView → Type 0
AllStep old new = (n : ℕ) (d : SeatView) → n < length old → Steps (slice_index_or old n d) (slice_index_or new n d)

-- the turns of one seat in a bout: it is spent, or has advanced
pub record Works (old new : SeatView) : Type 0 where
  pub frame : frame_of new ≡ frame_of old
  pub advances : (new.spent ≡ true) ⊎ Advances old new

-- the turns of all seats
abbrev pub AllWork : List SeatView → List SeatView → Type 0
AllWork old new = (n : ℕ) (d : SeatView) → n < length old → Works (slice_index_or old n d) (slice_index_or new n d)
