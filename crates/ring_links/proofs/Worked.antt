-- Worked: what the definitions alone say of a ring of two places, by computation.
use Rattle.std.proofs.Common.{◌≡◌, ℕ, refl, inl, inr, false, List, [], ◌∷◌}
use Rattle.epoch_tags.specs.declared.actor.Actor.TheVariants.{Feeder, Controller}
use Rattle.epoch_tags.specs.declared.message.Envelope.{Envelope}
use Rattle.epoch_tags.specs.declared.message.Msg.{Msg}
use Rattle.epoch_tags.specs.declared.message.Msg.TheVariants as messages
use Rattle.epoch_tags.specs.declared.message.ToController.TheVariants.{Ask}
use Rattle.ring_links.specs.Rings.{RingId, AreLeft}
use Rattle.ring_links.specs.Outlets.{OutletView, IsStuck, PutsFirst, sent_on}

-- a message with this number
abbrev ask : ℕ → Msg
ask number = messages.Controller (Ask number 0)

-- the same in an envelope of feeder 0
abbrev sealed : ℕ → Envelope
sealed number = record { from = Feeder 0; msg = ask number }

-- an outlet to a ring of two places
abbrev outlet : RingId → List Envelope → ℕ → List Msg → OutletView
outlet ring sent places waiting = record {
  out = record {
    ring = ring;
    from = Feeder 0;
    to = Controller;
    room = 2;
    sent = sent;
    places = places;
    refused = false;
  };
  waiting = waiting;
}

-- of two messages sent and one received, one is left
one_is_left : AreLeft (sealed 1 ∷ sealed 2 ∷ []) (sealed 1 ∷ []) 1
one_is_left = record { rest = sealed 2 ∷ []; joins = refl; left = refl }

-- its actor sent what the ring has had, and then what waits
all_in_order : (ring : RingId)
    → sent_on (outlet ring (sealed 1 ∷ sealed 2 ∷ []) 0 (ask 3 ∷ [])) ≡ ask 1 ∷ ask 2 ∷ ask 3 ∷ []
all_in_order ring = refl

-- the first of two that wait is put, which takes a place
first_is_put : (ring : RingId)
    → PutsFirst (outlet ring (sealed 1 ∷ []) 1 (ask 2 ∷ ask 3 ∷ []))
    (outlet ring (sealed 1 ∷ sealed 2 ∷ []) 0 (ask 3 ∷ []))
first_is_put ring = record { msg = ask 2; waited = refl; sent = refl }

-- then the other is stuck
other_is_stuck : (ring : RingId) → IsStuck (outlet ring (sealed 1 ∷ sealed 2 ∷ []) 0 (ask 3 ∷ []))
other_is_stuck ring = inr refl

-- and where nothing waits, so is the outlet, whatever its places
nothing_is_stuck : (ring : RingId) → IsStuck (outlet ring [] 2 [])
nothing_is_stuck ring = inl refl
