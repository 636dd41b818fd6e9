-- An inbox and its mouths, as contracts see them.
use Rattle.std.specs.Prelude.{◌≡◌, ◌≢◌, ◌<◌, ◌-◌, ℕ, Bool, true, false, cond, eqb, length, slice_index_or, sum_by, List}
use Rattle.std.specs.Prelude.{[], ◌∷◌, map}
use Rattle.epoch_tags.specs.declared.actor.Actor.{Actor}
use Rattle.epoch_tags.specs.declared.message.Envelope.{Envelope}
use Rattle.ruled_links.specs.Ends.{LinkId, Sending}
use Rattle.ruled_links.specs.Delivery.{number_of, of_sender}

-- a sender of an inbox, and how many of its messages are known to be left
pub record OfSender : Type 0 where
  pub from : Actor
  pub known : ℕ

-- an inbox: which one it is, whose, what was received, and its senders
pub record InboxView : Type 0 where
  pub link : LinkId
  pub to : Actor
  pub received : List Envelope
  pub senders : List OfSender

-- what stands there of one sender, in its order
abbrev pub messages_of : Actor → List Envelope → List Envelope
messages_of from ms = of_sender (number_of from) ms

-- who the senders are
abbrev pub senders_of : List OfSender → List Actor
senders_of senders = map (λ s. s.from) senders

-- how many messages are known to be left, of all senders together
abbrev pub all_known : List OfSender → ℕ
all_known senders = sum_by (λ s. s.known) senders

-- one less for this sender, unless that is 0
abbrev pub lowered : Actor → List OfSender → List OfSender
lowered from senders =
    map (λ (s : OfSender). record {
      from = s.from;
      known = cond (eqb (number_of s.from) (number_of from)) (s.known - 1)
          s.known;
    }) senders

-- this number for this sender
abbrev pub told : Actor → ℕ → List OfSender → List OfSender
told from count senders =
    map (λ (s : OfSender). record {
      from = s.from;
      known = cond (eqb (number_of s.from) (number_of from)) count s.known;
    }) senders

-- it is one of the senders
abbrev pub is_sender : Actor → List OfSender → Bool
is_sender from [] = false
is_sender from (s ∷ ss) = cond (eqb (number_of s.from) (number_of from)) true (is_sender from ss)

-- no actor stands there twice
abbrev pub Differ : List Actor → Type 0
Differ actors = (i k : ℕ) (d : Actor) → i < k → k < length actors
    → slice_index_or actors i d ≢ slice_index_or actors k d

-- a sender of whom nothing is known to be left
abbrev pub fresh : Actor → OfSender
fresh from = record { from = from; known = 0 }

-- a mouth that has sent nothing
abbrev pub opened : LinkId → Actor → Actor → Sending
opened link to from = record { link = link; from = from; to = to; sent = [] }

-- it is a mouth of this inbox
pub record IsMouthOf (mouth : Sending) (inbox : InboxView) : Type 0 where
  pub link : inbox.link ≡ mouth.link
  pub to : inbox.to ≡ mouth.to

-- it is still that inbox, with the same senders
pub record IsSameInbox (old new : InboxView) : Type 0 where
  pub link : new.link ≡ old.link
  pub to : new.to ≡ old.to
  pub senders : senders_of new.senders ≡ senders_of old.senders
