-- How the seats of a run are joined, and what is known of each link once its two ends were held together.
use Rattle.std.specs.Prelude.{◌≡◌, ◌≢◌, ◌<◌, ⊤, ℕ, true, false, Option, Some, None, IsSome, List, [], ◌∷◌, map}
use Rattle.std.specs.Prelude.{length, slice_index_or}
use Rattle.epoch_tags.specs.declared.actor.Actor.{Actor}
use Rattle.ruled_links.specs.Ends.{Sending, AreLeft}
use Rattle.ruled_links.specs.Delivery.{number_of}
use Rattle.ruled_links.specs.Inboxes.{InboxView, OfSender, IsMouthOf, messages_of, is_sender, fresh, told}
use Rattle.actor_core.specs.declared.cast.Cast.{Cast}
use Rattle.actor_core.specs.Standing.{IsLive}
use Rattle.actor_core.specs.Numbers.{actor_at, count_of, number}
use Rattle.join_runtime.specs.Kinds.{IsMachineOf}
use Rattle.join_runtime.specs.Views.{SeatView, Frame, Address, lists_of}

-- the seat at this number is that actor's
pub record IsPlaced (cast : Cast) (n : ℕ) (frame : Frame) : Type 0 where
  pub cast_is : frame.cast ≡ cast
  pub actor : frame.actor ≡ actor_at cast n
  pub to : frame.to ≡ frame.actor

-- this mouth of the one seat, if there is one, is of the other's inbox
pub record IsMouthBetween (mouth : Address) (one other : Frame) : Type 0 where
  pub link : other.link ≡ mouth.link
  pub to : other.to ≡ mouth.to
  pub from : mouth.from ≡ one.actor

-- the same of a mouth that may not be there
abbrev pub Leads : Option Address → Frame → Frame → Type 0
Leads None one other = ⊤
Leads (Some mouth) one other = IsMouthBetween mouth one other

-- each mouth leads to the inbox of its receiver
abbrev pub AllLead : List Frame → Type 0
AllLead frames = (n r : ℕ) (d : Frame) → n < length frames → r < length frames
    → Leads (slice_index_or (slice_index_or frames n d).addresses r None) (slice_index_or frames n d)
    (slice_index_or frames r d)

-- no two seats are of one actor
abbrev pub ActorsDiffer : List Frame → Type 0
ActorsDiffer frames = (k n : ℕ) (d : Frame) → k < n → n < length frames
    → (slice_index_or frames k d).actor ≢ (slice_index_or frames n d).actor

-- an actor of the run with a mouth to the actor at this number
pub record HasMouthTo (cast : Cast) (frames : List Frame) (receiver : ℕ) (a : Actor) : Type 0 where
  pub sender : ℕ
  pub is : number cast a ≡ Some sender
  pub there : sender < length frames
  pub mouth : (d : Frame) → IsSome (slice_index_or (slice_index_or frames sender d).addresses receiver None)

-- there is a seat for each actor, each mouth leads to the inbox of its receiver, and each sender of an inbox has a
-- mouth
pub record AreJoined (cast : Cast) (frames : List Frame) : Type 0 where
  pub all : length frames ≡ count_of cast
  pub placed : (n : ℕ) (d : Frame) → n < length frames → IsPlaced cast n (slice_index_or frames n d)
  pub leads : AllLead frames
  pub heard : (r : ℕ) (a : Actor) (d : Frame) → r < length frames
      → is_sender a (map fresh (slice_index_or frames r d).senders) ≡ true → HasMouthTo cast frames r a

-- nothing was received of an actor that is no sender
abbrev pub HearsSenders : SeatView → Type 0
HearsSenders seat = (from : Actor) → is_sender from seat.inbox.senders ≡ false → (lists_of seat).received from ≡ []

-- each entry of this sender has this number
abbrev pub Knows : Actor → ℕ → List OfSender → Type 0
Knows from count [] = ⊤
Knows from count (s ∷ senders) = (number_of s.from ≡ number_of from → s.known ≡ count) × Knows from count senders

-- a seat was told how many messages of a mouth are left
pub record IsTold (mouth : Sending) (old new : SeatView) : Type 0 where
  pub count : ℕ
  pub agrees : AreLeft mouth.sent (messages_of mouth.from old.inbox.received) count
  pub sender : is_sender mouth.from old.inbox.senders ≡ true
  pub now : new ≡ record old { inbox = record old.inbox { senders = told mouth.from count old.inbox.senders } }

-- and where there is no mouth, nothing changed
abbrev pub Tells : Option Sending → SeatView → SeatView → Type 0
Tells None old new = new ≡ old
Tells (Some mouth) old new = IsTold mouth old new

-- the mouth, where there is one, is of this inbox
abbrev pub IsSlotOf : Option Sending → InboxView → Type 0
IsSlotOf None inbox = ⊤
IsSlotOf (Some mouth) inbox = IsMouthOf mouth inbox

-- what was received through this mouth is a front of what was sent, and it is known how many are left
pub record IsKnown (mouth : Sending) (inbox : InboxView) : Type 0 where
  pub count : ℕ
  pub agrees : AreLeft mouth.sent (messages_of mouth.from inbox.received) count
  pub knows : Knows mouth.from count inbox.senders
  pub sender : is_sender mouth.from inbox.senders ≡ true

-- the same of a mouth that may not be there
abbrev pub IsGathered : Option Sending → InboxView → Type 0
IsGathered None inbox = ⊤
IsGathered (Some mouth) inbox = IsKnown mouth inbox

-- the mouth of one seat to another
abbrev pub slot_of : List SeatView → SeatView → ℕ → ℕ → Option Sending
slot_of seats d n r = slice_index_or (slice_index_or seats n d).mouths r None

-- of the seats below n, so is each mouth
abbrev pub AreGatheredBelow : ℕ → List SeatView → Type 0
AreGatheredBelow below seats = (n r : ℕ) (d : SeatView) → n < below → r < length seats
    → IsGathered (slot_of seats d n r) (slice_index_or seats r d).inbox

-- of all seats, so is each mouth
abbrev pub AreGathered : List SeatView → Type 0
AreGathered seats = AreGatheredBelow (length seats) seats

-- the seats that are not spent: they heard senders alone, each machine is one for its seat's actor, no machine is
-- spent, and what is left on each link is known
pub record AreSettled (seats : List SeatView) : Type 0 where
  pub hear : (n : ℕ) (d : SeatView) → n < length seats → HearsSenders (slice_index_or seats n d)
  pub own : (n : ℕ) (d : SeatView) → n < length seats
      → IsMachineOf (slice_index_or seats n d).core (slice_index_or seats n d).actor
  pub live : (n : ℕ) (d : SeatView) → n < length seats → IsLive (slice_index_or seats n d).core
  pub gathered : AreGathered seats
