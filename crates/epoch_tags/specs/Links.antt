-- Which actors are joined by a link, and the messages that a link carries.
use Rattle.std.specs.Prelude.{◌≡◌, ℕ, ◌^◌, ◌<◌, List, map, bit_xor}
use Rattle.epoch_tags.specs.declared.actor.Actor.{Actor}
use Rattle.epoch_tags.specs.declared.actor.Actor.TheVariants.{Feeder, Joiner, Controller, Collector}
use Rattle.epoch_tags.specs.declared.message.Msg.{Msg}
use Rattle.epoch_tags.specs.declared.message.Envelope.{Envelope}

-- of 2 ^ k joiners and so many feeders
pub data HasLink (k feeders : ℕ) : Actor → Actor → Type 0 where
  feeder_joiner : {p j : ℕ} → p < feeders → j < 2 ^ k → HasLink k feeders (Feeder p) (Joiner j)
  joiner_joiner : {i low : ℕ} → i < 2 ^ k → low < k → HasLink k feeders (Joiner i) (Joiner (bit_xor i (2 ^ low)))
  controller_feeder : {p : ℕ} → p < feeders → HasLink k feeders Controller (Feeder p)
  feeder_controller : {p : ℕ} → p < feeders → HasLink k feeders (Feeder p) Controller
  joiner_controller : {j : ℕ} → j < 2 ^ k → HasLink k feeders (Joiner j) Controller
  joiner_collector : {j : ℕ} → j < 2 ^ k → HasLink k feeders (Joiner j) Collector

-- the envelopes are these messages of this sender
abbrev pub Carries : {M : Type 0} → Actor → (M → Msg) → List M → List Envelope → Type 0
Carries from kind ms envelopes = envelopes ≡ map (λ m. record { from = from; msg = kind m }) ms
