-- Worlds that are driven to their end: what the loops have made so far, and what holds of the last world.
use Rattle.std.proofs.Common.{◌≡◌, ℕ, zero, suc, ◌+◌, sym, ap, subst, ◌∙◌, inl, inr, Bool, false, List, length}
use Rattle.std.proofs.Common.{Some, arith}
use Rattle.std.specs.Prelude.{slice_get}
use Rattle.rand_pcg.specs.Lcg.{Lcg, next, advance, state_after, started, increment_of}
use Rattle.rand_pcg.specs.Pcg.{multiplier_64, pcg32}
use Rattle.row_tickets.proofs.Words.{next-advance}
use Rattle.epoch_tags.specs.declared.actor.Actor.{Actor}
use Rattle.theta_pred.specs.Formula.{Meaning}
use Rattle.trace_law.specs.declared.run.Run.{Run}
use Rattle.trace_law.specs.declared.setting.Setting.{Setting}
use Rattle.trace_law.specs.Validity.{IsValidSetting}
use Rattle.trace_law.proofs.Validity.{within_limits}
use Rattle.actor_core.specs.Elements.{IsSomeAt, IsAllAt}
use Rattle.actor_core.specs.Lists.{no_lists}
use Rattle.actor_core.specs.Standing.{GoesOn, IsOver}
use Rattle.actor_core.specs.Tasks.{Task, IsTask}
use Rattle.link_trace.specs.declared.slots.Slot.{Slot}
use Rattle.link_trace.specs.declared.slots.Slot.TheVariants.{Begin, Link}
use Rattle.link_trace.specs.Worlds.{AllJoinBy, StandsFor, WorldState, journal_in}
use Rattle.link_trace.specs.Order.{Drives, Happens, IsDriven, IsFreshWorld, MakesDrawn, MakesFirst, slots_of}
use Rattle.link_trace.specs.Marks.{AreMarked}
use Rattle.link_trace.specs.Starving.{MakesStarving}
use Rattle.link_trace.proofs.Bounds.{IsReached, none_reached, slot_reached}

-- ---- what holds of the last world

-- each event made so is that of some slot
abbrev pub AreOfSlots : (ℕ → WorldState → WorldState → Type 0) → Type 0
AreOfSlots Makes = (n : ℕ) (old new : WorldState) → Makes n old new → (slot : Slot) × Happens slot old new

-- those in the order of a seed are
pub drawn_happens : (slots : List Slot) (seed : ℕ) → AreOfSlots (MakesDrawn slots seed)
drawn_happens slots seed n old new made = (made.slot, made.happens)

-- so are those that serve one actor last
pub starving_happens : (starved : Actor) (slots : List Slot)
    → AreOfSlots (λ n old new. MakesStarving starved slots old new)
starving_happens starved slots n old new (inl least) = (least.slot, least.happens)
starving_happens starved slots n old new (inr (idle, least)) = (least.slot, least.happens)

module _ (Makes : ℕ → WorldState → WorldState → Type 0) (first : WorldState) where
  -- where the work of all is over, a run with as many bouts and the journal of its controller was driven so
  pub driven : (task : Task) → StandsFor task first (λ actor. no_lists) → (n : ℕ) (last : WorldState)
      → Drives Makes first n last → IsAllAt IsOver last.cores → (run : Run) → run.journal ≡ journal_in last
      → run.bouts ≡ n → IsDriven task Makes run
  driven task fresh n last drives over run told bouts = record {
    first = first;
    last = last;
    fresh = fresh;
    drives = subst (λ z. Drives Makes first z last) (sym bouts) drives;
    over = over;
    journal = told;
  }

  -- one event more
  pub one_more : (n : ℕ) (old new : WorldState) → Drives Makes first n old → IsSomeAt GoesOn old.cores
      → Makes n old new → Drives Makes first (n + 1) new
  one_more n old new drives goes made =
      let next : suc n ≡ n + 1 = omega arith in
      subst (λ z. Drives Makes first z new) next (old, drives, goes, made)

module _ (Makes : ℕ → WorldState → WorldState → Type 0) (of_slots : AreOfSlots Makes) (first : WorldState) where
  -- what holds of the first world, and is kept by each slot's event, holds of the last one
  pub kept : (P : ℕ → WorldState → Type 0)
      → ((slot : Slot) (n : ℕ) (old new : WorldState) → Happens slot old new → P n old → P (suc n) new)
      → P zero first → (n : ℕ) (last : WorldState) → Drives Makes first n last → P n last
  kept P keeps begun zero last same = subst (P zero) (sym same) begun
  kept P keeps begun (suc n) last drives =
      let made = of_slots n drives.0 last drives.3 in
      keeps made.0 n drives.0 last made.1 (kept P keeps begun n drives.0 drives.1)

  -- it stands for lists that count as many events
  pub reached : (task : Task) → StandsFor task first (λ actor. no_lists) → (n : ℕ) (last : WorldState)
      → Drives Makes first n last → IsReached task n last
  reached task fresh = kept (IsReached task) (slot_reached task) (none_reached task first fresh)

  -- and its joiners keep their predicate
  pub all_join : (theta : Meaning) → AllJoinBy theta first → (n : ℕ) (last : WorldState) → Drives Makes first n last
      → AllJoinBy theta last
  all_join theta = kept (λ n w. AllJoinBy theta w) joins
    where
      joins : (slot : Slot) (n : ℕ) (old new : WorldState) → Happens slot old new → AllJoinBy theta old
          → AllJoinBy theta new
      joins (Begin p) n old new happens = happens.1.joins theta
      joins (Link from to) n old new delivers = delivers.event.joins theta

-- ---- a fresh world

-- the task of which it stands for empty lists
abbrev pub task_in : (setting : Setting) (w : WorldState) → IsFreshWorld setting w → Task
task_in setting w fresh = record { input = fresh.input; setting = setting; rest = fresh.rest }

-- it is one
pub is_task : (setting : Setting) (w : WorldState) (fresh : IsFreshWorld setting w) → IsValidSetting setting
    → IsTask (task_in setting w fresh)
is_task setting w fresh of_setting = record {
  valid = within_limits fresh.input setting fresh.of_input of_setting;
  begins = fresh.begins;
}

-- marks of which none is false are sound of every world
pub all_unsure : (slots all : List Slot) (marks : List Bool) (w : WorldState) → slots ≡ all
    → length marks ≡ length slots → ((n : ℕ) → ¬ (slice_get marks n ≡ Some false)) → AreMarked all marks w
all_unsure slots all marks w is long marked =
    record { each = long ∙ ap length is; idle = λ n slot there none. absurd (marked n none) }

-- ---- the loop of a replay

-- the world stands for lists of its task that count as many events as were made
pub replay_reached : (task : Task) (seed : ℕ) (first : WorldState) → StandsFor task first (λ actor. no_lists)
    → (n : ℕ) (last : WorldState) → Drives (MakesDrawn (slots_of task.setting) seed) first n last
    → IsReached task n last
replay_reached task seed first =
    let slots = slots_of task.setting in
    reached (MakesDrawn slots seed) (drawn_happens slots seed) first task

-- so far: the events made, a word drawn for each, and marks that are sound
pub record IsUnderWay (slots : List Slot) (seed : ℕ) (first : WorldState) (marks : List Bool) (draws : Lcg)
    (events : ℕ) (w : WorldState) : Type 0 where
  pub drives : Drives (MakesDrawn slots seed) first events w
  pub draws_are : draws ≡ advance 64 multiplier_64 events (started 64 multiplier_64 seed (increment_of 64 56))
  pub marked : AreMarked slots marks w

-- no word is drawn yet
pub none_drawn : (seed : ℕ) (draws : Lcg) → draws ≡ started 64 multiplier_64 seed (increment_of 64 56)
    → draws ≡ advance 64 multiplier_64 0 (started 64 multiplier_64 seed (increment_of 64 56))
unfolding state_after
none_drawn seed draws new = new

module _ (setting : Setting) (seed : ℕ) (first : WorldState) (slots : List Slot) (is : slots ≡ slots_of setting)
    (marks : List Bool) (draws : Lcg) (events : ℕ) (w : WorldState)
    (under : IsUnderWay (slots_of setting) seed first marks draws events w) where
  -- one word more
  drawn_more : (draws' : Lcg) → draws' ≡ (pcg32 draws).1
      → draws' ≡ advance 64 multiplier_64 (events + 1) (started 64 multiplier_64 seed (increment_of 64 56))
  drawn_more draws' drawn =
      drawn ∙ ap (λ g. next 64 multiplier_64 g) under.draws_are
      ∙ next-advance 64 multiplier_64 events (started 64 multiplier_64 seed (increment_of 64 56))

  -- where the work of some goes on, and the first slot with an event from the place on that the next word names made
  -- it, the replay is under way with one event more
  pub goes_on : (marks' : List Bool) (draws' : Lcg) (events' : ℕ) (w' : WorldState) → IsSomeAt GoesOn w.cores
      → AreMarked slots marks' w' → MakesFirst slots (pcg32 draws).0 w w' → draws' ≡ (pcg32 draws).1
      → events' ≡ events + 1 → IsUnderWay (slots_of setting) seed first marks' draws' events' w'
  goes_on marks' draws' events' w' goes marked made drawn counted =
      let all = slots_of setting in
      let makes : MakesFirst all (pcg32 draws).0 w w' = subst (λ s. MakesFirst s (pcg32 draws).0 w w') is made in
      subst (λ n. IsUnderWay all seed first marks' draws' n w') (sym counted) (record {
        drives = one_more (MakesDrawn all seed) first events w w' under.drives goes
            (subst (λ g. MakesFirst all (pcg32 g).0 w w') under.draws_are makes);
        draws_are = drawn_more draws' drawn;
        marked = subst (λ s. AreMarked s marks' w') is marked;
      })

-- ---- that of a replay in which one actor is served last

-- the same of it
pub starving_reached : (task : Task) (starved : Actor) (first : WorldState) → StandsFor task first (λ actor. no_lists)
    → (n : ℕ) (last : WorldState)
    → Drives (λ n old new. MakesStarving starved (slots_of task.setting) old new) first n last → IsReached task n last
starving_reached task starved first =
    let slots = slots_of task.setting in
    reached (λ n old new. MakesStarving starved slots old new) (starving_happens starved slots) first task
