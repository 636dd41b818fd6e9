-- Marks at slots: where there is none, the slot has no event.
use Rattle.std.specs.Prelude.{◌≡◌, ℕ, List, length, slice_get, Some, Bool, false}
use Rattle.epoch_tags.specs.declared.actor.Actor.{Actor}
use Rattle.epoch_tags.specs.declared.actor.Actor.TheVariants.{Feeder}
use Rattle.actor_core.specs.Lists.{same_actor}
use Rattle.link_trace.specs.declared.slots.Slot.{Slot}
use Rattle.link_trace.specs.declared.slots.Slot.TheVariants.{Begin, Link}
use Rattle.link_trace.specs.Worlds.{WorldState}
use Rattle.link_trace.specs.Order.{IsIdle}

-- the actor whose events can give a slot an event
abbrev pub filler_of : Slot → Actor
filler_of (Begin p) = Feeder p
filler_of (Link from to) = from

-- the actor that makes a slot's event
abbrev pub maker_of : Slot → Actor
maker_of (Begin p) = Feeder p
maker_of (Link from to) = to

-- a mark for each slot, and a slot without one has no event
pub record AreMarked (slots : List Slot) (marks : List Bool) (w : WorldState) : Type 0 where
  pub each : length marks ≡ length slots
  pub idle : (n : ℕ) (slot : Slot) → slice_get slots n ≡ Some slot → slice_get marks n ≡ Some false → IsIdle w slot

-- a slot is unmarked afterwards only where it was before, and this actor's events give it none
pub record IsMarkedFor (actor : Actor) (slots : List Slot) (old new : List Bool) : Type 0 where
  pub each : length new ≡ length old
  pub was : (n : ℕ) → slice_get new n ≡ Some false → slice_get old n ≡ Some false
  pub other : (n : ℕ) (slot : Slot) → slice_get slots n ≡ Some slot → slice_get new n ≡ Some false
      → same_actor actor (filler_of slot) ≡ false
