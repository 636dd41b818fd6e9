-- The two ends of a link, as contracts see them.
use Rattle.std.specs.Prelude.{◌≡◌, ℕ, List, length}
use Rattle.row_cells.specs.Lists.{IsPrefix}
use Rattle.epoch_tags.specs.declared.actor.Actor.{Actor}
use Rattle.epoch_tags.specs.declared.message.Envelope.{Envelope}

-- which link it is: no two links of a program have one name
abbrev pub LinkId : Type 0
LinkId = ℕ × ℕ

-- the sender's end: its link, who sends to whom, and what was sent
pub record Sending : Type 0 where
  pub link : LinkId
  pub from : Actor
  pub to : Actor
  pub sent : List Envelope

-- the receiver's end: its link, who sends to whom, what was received, and how many messages are known to be left
pub record Receiving : Type 0 where
  pub link : LinkId
  pub from : Actor
  pub to : Actor
  pub received : List Envelope
  pub known : ℕ

-- the two are ends of one link
pub record AreEnds (out : Sending) (inn : Receiving) : Type 0 where
  pub link : inn.link ≡ out.link
  pub from : inn.from ≡ out.from
  pub to : inn.to ≡ out.to

-- it is still that sending end of that link
pub record IsSameOut (old new : Sending) : Type 0 where
  pub link : new.link ≡ old.link
  pub from : new.from ≡ old.from
  pub to : new.to ≡ old.to

-- it is still that receiving end of that link
pub record IsSameIn (old new : Receiving) : Type 0 where
  pub link : new.link ≡ old.link
  pub from : new.from ≡ old.from
  pub to : new.to ≡ old.to

-- what was received begins what was sent, and so many messages of that are left
pub record AreLeft (sent received : List Envelope) (count : ℕ) : Type 0 where
  pub prefix : IsPrefix received sent
  pub left : length prefix.rest ≡ count
