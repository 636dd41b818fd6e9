-- What the marks of a replay keep.
use Rattle.std.proofs.Common.{◌≡◌, ℕ, ◌<◌, sym, ◌∙◌, Bool, false, List, length, Some}
use Rattle.std.specs.Prelude.{slice_get}
use Rattle.epoch_tags.specs.declared.actor.Actor.{Actor}
use Rattle.epoch_tags.specs.declared.actor.Actor.TheVariants.{Feeder}
use Rattle.actor_core.specs.Lists.{same_actor}
use Rattle.link_trace.specs.declared.slots.Slot.{Slot}
use Rattle.link_trace.specs.declared.slots.Slot.TheVariants.{Begin, Link}
use Rattle.link_trace.specs.Worlds.{WorldState, KeepsOthers}
use Rattle.link_trace.specs.Order.{IsIdle, Happens}
use Rattle.link_trace.specs.Marks.{filler_of, maker_of, AreMarked, IsMarkedFor}

stays_idle : (self : Actor) (old new : WorldState) → KeepsOthers self old new → (slot : Slot)
    → same_actor self (filler_of slot) ≡ false → IsIdle old slot → IsIdle new slot
stays_idle self old new keeps (Begin p) other idle = λ core is. idle core (sym (keeps.machines (Feeder p) other) ∙ is)
stays_idle self old new keeps (Link from to) other idle = keeps.links from to other idle

others : (slot : Slot) (old new : WorldState) → Happens slot old new → KeepsOthers (maker_of slot) old new
others (Begin p) old new happens = happens.1.others
others (Link from to) old new happens = happens.event.others

-- marks that are sound are so after a slot's event, where a mark is taken away only of slots to which its actor's
-- events give none
pub marked_after : (slots : List Slot) (marks marks' : List Bool) (slot : Slot) (old new : WorldState)
    → AreMarked slots marks old → Happens slot old new → IsMarkedFor (maker_of slot) slots marks marks'
    → AreMarked slots marks' new
marked_after slots marks marks' slot old new marked happens more = record {
  each = more.each ∙ marked.each;
  idle = λ n other there none. stays_idle (maker_of slot) old new (others slot old new happens) other
      (more.other n other there none) (marked.idle n other there (more.was n none));
}

-- the marks so far of a pass over the slots
pub record AreMarkedBelow (actor : Actor) (slots : List Slot) (old new : List Bool) (done : ℕ) : Type 0 where
  pub each : length new ≡ length old
  pub was : (n : ℕ) → slice_get new n ≡ Some false → slice_get old n ≡ Some false
  pub other : (n : ℕ) (slot : Slot) → n < done → slice_get slots n ≡ Some slot → slice_get new n ≡ Some false
      → same_actor actor (filler_of slot) ≡ false
