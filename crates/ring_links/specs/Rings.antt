-- The two ends of a ring, as contracts see them.
use Rattle.std.specs.Prelude.{◌≡◌, ℕ, Bool, List, ◌++◌, length}
use Rattle.std.specs.declared.alloc.Global.{Global}
use denote.RawPtr.{Ptr}
use Rattle.rtrb.specs.Shared.{Names}
use Rattle.rtrb.specs.declared.end.End.{End}
use Rattle.epoch_tags.specs.declared.actor.Actor.{Actor}
use Rattle.epoch_tags.specs.declared.message.Envelope.{Envelope}

-- which ring it is: where its words and its places lie, and its names
pub record RingId : Type 0 where
  pub words : Ptr
  pub slots : Ptr
  pub names : Names
  pub heap : Global

-- the ring of an end
abbrev pub ring_of : {P : Type 0} → End Envelope Global P → RingId
ring_of end = record { words = end.words; slots = end.slots; names = end.names; heap = end.heap }

-- the sender's end: its ring, who sends to whom, how many messages the ring has room for, what was sent, how many
-- places
-- are known to be free, and whether the last put or `beside` on this end was a put that was refused
pub record Sending : Type 0 where
  pub ring : RingId
  pub from : Actor
  pub to : Actor
  pub room : ℕ
  pub sent : List Envelope
  pub places : ℕ
  pub refused : Bool

-- the receiver's end: its ring, who sends to whom, how many messages the ring has room for, what was received, and how
-- many
-- messages are known to be left
pub record Receiving : Type 0 where
  pub ring : RingId
  pub from : Actor
  pub to : Actor
  pub room : ℕ
  pub received : List Envelope
  pub known : ℕ

-- the two are ends of one ring
pub record AreEnds (out : Sending) (inn : Receiving) : Type 0 where
  pub ring : inn.ring ≡ out.ring
  pub from : inn.from ≡ out.from
  pub to : inn.to ≡ out.to
  pub room : inn.room ≡ out.room

-- it is still that sending end of that ring
pub record IsSameOut (old new : Sending) : Type 0 where
  pub ring : new.ring ≡ old.ring
  pub from : new.from ≡ old.from
  pub to : new.to ≡ old.to
  pub room : new.room ≡ old.room

-- it is still that receiving end of that ring
pub record IsSameIn (old new : Receiving) : Type 0 where
  pub ring : new.ring ≡ old.ring
  pub from : new.from ≡ old.from
  pub to : new.to ≡ old.to
  pub room : new.room ≡ old.room

-- what was received begins what was sent, and so many messages of that are left
pub record AreLeft (sent received : List Envelope) (count : ℕ) : Type 0 where
  pub rest : List Envelope
  pub joins : received ++ rest ≡ sent
  pub left : length rest ≡ count
