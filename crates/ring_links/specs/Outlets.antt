-- The sender's end of a ring with what waits for a place in it, and what its calls do.
use Rattle.std.specs.Prelude.{◌≡◌, ◌⊎◌, ℕ, List, [], ◌∷◌, ◌++◌, map}
use Rattle.epoch_tags.specs.declared.message.Envelope.{Envelope}
use Rattle.epoch_tags.specs.declared.message.Msg.{Msg}
use Rattle.ring_links.specs.Rings.{Sending}

-- the sender's end of a ring, and the messages that wait for a place in it, the first first
pub record OutletView : Type 0 where
  pub out : Sending
  pub waiting : List Msg

-- the messages in these envelopes
abbrev pub contents : List Envelope → List Msg
contents envelopes = map (λ (e : Envelope). e.msg) envelopes

-- what its actor sent there: what the ring's end sent, and then what waits
abbrev pub sent_on : OutletView → List Msg
sent_on outlet = contents outlet.out.sent ++ outlet.waiting

-- nothing waits, or no place is known to be free
abbrev pub IsStuck : OutletView → Type 0
IsStuck outlet = (outlet.waiting ≡ []) ⊎ (outlet.out.places ≡ 0)

-- nothing was put: at most the answer of `refused` changed
pub record Stays (old new : OutletView) : Type 0 where
  pub waiting : new.waiting ≡ old.waiting
  pub sent : new.out.sent ≡ old.out.sent
  pub places : new.out.places ≡ old.out.places

-- the first that waits was put, in the name of the sender
pub record PutsFirst (old new : OutletView) : Type 0 where
  pub msg : Msg
  pub waited : old.waiting ≡ msg ∷ new.waiting
  pub sent : new.out.sent ≡ old.out.sent ++ record { from = old.out.from; msg = msg } ∷ []
