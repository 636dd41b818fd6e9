-- A run in which one actor is served last.
use Rattle.std.specs.Prelude.{◌≡◌, ℕ, ◌<◌, ◌⊎◌, ◌||◌, Bool, true, false, not, List, length, slice_get, Some}
use Rattle.epoch_tags.specs.declared.actor.Actor.{Actor}
use Rattle.trace_law.specs.declared.run.Run.{Run}
use Rattle.actor_core.specs.Lists.{same_actor}
use Rattle.actor_core.specs.Tasks.{Task}
use Rattle.link_trace.specs.declared.slots.Slot.{Slot}
use Rattle.link_trace.specs.Worlds.{WorldState}
use Rattle.link_trace.specs.Order.{IsDriven, IsIdle, Happens, slots_of}
use Rattle.link_trace.specs.Marks.{maker_of}

-- the slot may be served: all may, or the starved actor doesn't make its event
abbrev pub may_go : Bool → Actor → Slot → Bool
may_go all starved slot = all || not (same_actor starved (maker_of slot))

-- of the slots below this place, those that may be served have no event
abbrev pub AreIdleBelow : Bool → Actor → List Slot → ℕ → WorldState → Type 0
AreIdleBelow all starved slots place w =
    (n : ℕ) (slot : Slot) → n < place → slice_get slots n ≡ Some slot → may_go all starved slot ≡ true → IsIdle w slot

-- the event of the least slot that may be served and has one is made
pub record MakesLeast (all : Bool) (starved : Actor) (slots : List Slot) (old new : WorldState) : Type 0 where
  pub place : ℕ
  pub slot : Slot
  pub there : slice_get slots place ≡ Some slot
  pub may : may_go all starved slot ≡ true
  pub idle : AreIdleBelow all starved slots place old
  pub happens : Happens slot old new

-- that of the least slot of another actor; where no other has one, that of the least slot
abbrev pub MakesStarving : Actor → List Slot → WorldState → WorldState → Type 0
MakesStarving starved slots old new =
    MakesLeast false starved slots old new
    ⊎ (AreIdleBelow false starved slots (length slots) old × MakesLeast true starved slots old new)

-- the run is that of a world of the task which was driven to its end, and in which this actor was served last
abbrev pub IsStarvingReplay : Task → Actor → Run → Type 0
IsStarvingReplay task starved run =
    IsDriven task (λ n old new. MakesStarving starved (slots_of task.setting) old new) run
