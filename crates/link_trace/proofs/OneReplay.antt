-- Replays in the order of one seed that begin with one world are one.
use Rattle.std.proofs.Common.{◌≡◌, ℕ, zero, suc, ◌+◌, ◌%◌, ◌<◌, sym, ap, subst, ◌∙◌, inl, inr, true≢false}
use Rattle.std.proofs.Common.{Some, List, length, arith}
use Rattle.std.specs.Prelude.{slice_get}
use Rattle.std.proofs.lemmas.Bool.{cases_lt}
use Rattle.std.proofs.lemmas.Option.{slice_get_within}
use Rattle.epoch_tags.specs.declared.actor.Actor.{Actor}
use Rattle.epoch_tags.specs.declared.actor.Actor.TheVariants.{Feeder}
use Rattle.actor_core.specs.Lists.{ActorLists, Cause, Took, Began, no_lists, joiner_lists}
use Rattle.actor_core.specs.Elements.{IsAllAt, IsSomeAt}
use Rattle.actor_core.specs.Families.{after_event, start_for}
use Rattle.actor_core.specs.Numbers.{actor_at}
use Rattle.actor_core.specs.Tasks.{Task, task_of}
use Rattle.actor_core.specs.Standing.{Start, OfFeeder, OfJoiner, OfController, OfCollector, Stands, IsOver, GoesOn}
use Rattle.actor_core.specs.declared.machines.Core.{Core}
use Rattle.actor_core.specs.declared.machines.Core.TheVariants.{Feeder as TheFeeder, Joiner as TheJoiner}
use Rattle.actor_core.specs.declared.machines.Core.TheVariants.{Controller as TheController, Collector as TheCollector}
use Rattle.actor_core.proofs.OwnNumbers.{number_there, some_is}
use Rattle.link_trace.specs.declared.slots.Slot.{Slot}
use Rattle.link_trace.specs.declared.slots.Slot.TheVariants.{Begin, Link}
use Rattle.link_trace.specs.Worlds.{WorldState, MakesEvent, StandsFor, journal_in}
use Rattle.link_trace.specs.Order.{Drives, Happens, IsIdle, MakesDrawn, MakesFirst, ReplaysAreOne, RunsAreOne}
use Rattle.link_trace.specs.Order.{WaveRunsAreOne, slots_of, word_of}
use Rattle.link_trace.proofs.FirstWorlds.{one_world}
use Rattle.link_trace.proofs.ReplayLoop.{drawn_happens, kept}
use Rattle.link_trace.proofs.SomeTask.{machine_stands}
use Rattle.link_trace.proofs.WorldEvents.{full}

-- ---- what a slot's event leaves

-- the events of one slot in one world leave one world
same_event : (slot : Slot) (old w v : WorldState) → Happens slot old w → Happens slot old v → w ≡ v
same_event (Begin p) old w v one two = one.1.after ∙ sym two.1.after
same_event (Link from to) old w v one two = one.after ∙ sym two.after

-- ---- where a world stands for lists

module _ (task : Task) where
  -- it stands for some lists of this task
  abbrev Stood : WorldState → Type 0
  Stood w = (lists : Actor → ActorLists) × StandsFor task w lists

  event_stood : (self : Actor) (cause : Cause) (old new : WorldState) → MakesEvent self cause old new → Stood old
      → Stood new
  event_stood self cause old new made before =
      (after_event self cause made.posts before.0, made.stands task before.0 before.1)

  -- so does it after a slot's event
  slot_stood : (slot : Slot) (old new : WorldState) → Happens slot old new → Stood old → Stood new
  slot_stood (Begin p) old new happens before = event_stood (Feeder p) Began old new happens.1 before
  slot_stood (Link from to) old new delivers before =
      event_stood to (Took from delivers.m) old new delivers.event before

  -- a slot that has no event doesn't make one
  not_both : (slot : Slot) (w new : WorldState) → Stood w → IsIdle w slot → Happens slot w new → ⊥
  not_both (Begin p) w new stood idle happens =
      let out = happens.1.over task stood.0 stood.1 in
      let own = stood.1.machines.stands (Feeder p) out.0 in
      happens.0 own.0 own.1 (idle own.0 own.1)
  not_both (Link from to) w new stood idle delivers = full delivers.m delivers.rest (sym delivers.first ∙ idle)

  -- so the first slots that have an event, from one place on, are one, and they leave one world
  same_first : (slots : List Slot) (word : ℕ) (old w v : WorldState) → Stood old → MakesFirst slots word old w
      → MakesFirst slots word old v → w ≡ v
  same_first slots word old w v stood one two = elim (cases_lt one.skipped two.skipped) [
    | inl before ↦
        absurd (not_both one.slot old w stood (two.idle one.skipped one.slot before one.there) one.happens)
    | inr behind ↦ elim (cases_lt two.skipped one.skipped) [
      | inl before ↦
          absurd (not_both two.slot old v stood (one.idle two.skipped two.slot before two.there) two.happens)
      | inr other ↦
          let is : two.skipped ≡ one.skipped = omega arith in
          let there = subst (λ k. slice_get slots ((word + k) % length slots) ≡ Some two.slot) is two.there in
          let same = some_is two.slot one.slot (sym there ∙ one.there) in
          same_event one.slot old w v one.happens (subst (λ s. Happens s old v) same two.happens)
    ]
  ]

  -- of a machine that stands for some lists, the work doesn't go on where it is over
  core_ends : (s : Start) (ls : ActorLists) (core : Core) → Stands s ls core → IsOver core → GoesOn core → ⊥
  core_ends s ls (TheFeeder f) stands over goes = true≢false (sym over ∙ goes)
  core_ends (OfFeeder p feeders s) ls (TheJoiner j) stands over goes = stands
  core_ends (OfJoiner s) ls (TheJoiner j) stands over goes =
      goes s (joiner_lists ls) stands (over s (joiner_lists ls) stands)
  core_ends (OfController s) ls (TheJoiner j) stands over goes = stands
  core_ends (OfCollector n) ls (TheJoiner j) stands over goes = stands
  core_ends s ls (TheController c) stands over goes = goes
  core_ends s ls (TheCollector c) stands over goes = true≢false (sym over ∙ goes)

  -- so that of no machine of a world does
  none_goes_on : (w : WorldState) → Stood w → IsAllAt IsOver w.cores → IsSomeAt GoesOn w.cores → ⊥
  none_goes_on w stood over some =
      let low = slice_get_within w.cores some.place some.there some.is in
      let a = actor_at w.cast some.place in
      let numbered = number_there w.cast some.place (subst (λ z. some.place < z) stood.1.machines.all low) in
      let own = machine_stands task w stood.0 stood.1 a some.place numbered some.there some.is in
      core_ends (start_for task a) (stood.0 a) some.there own.1 (over some.place some.there some.is) some.holds

  module _ (slots : List Slot) (seed : ℕ) (first : WorldState) (stood : Stood first) where
    -- after so many events of the replay from there
    abbrev Goes : ℕ → WorldState → Type 0
    Goes n w = Drives (MakesDrawn slots seed) first n w

    -- so it does after so many of them
    stood_then : (n : ℕ) (w : WorldState) → Goes n w → Stood w
    stood_then =
        kept (MakesDrawn slots seed) (drawn_happens slots seed) first (λ n w. Stood w)
        (λ slot n old new happens before. slot_stood slot old new happens before) stood

    -- after as many events there is one world
    same_world : (n : ℕ) (w v : WorldState) → Goes n w → Goes n v → w ≡ v
    same_world zero w v one two = one ∙ sym two
    same_world (suc n) w v one two =
        let same = same_world n two.0 one.0 two.1 one.1 in
        same_first slots (word_of seed n) one.0 w v (stood_then n one.0 one.1) one.3
        (subst (λ z. MakesFirst slots (word_of seed n) z v) same two.3)

    -- and where more are to come the work of some goes on
    goes_before : (n m : ℕ) (v : WorldState) → n < m → Goes m v
        → (u : WorldState) × Goes n u × IsSomeAt GoesOn u.cores
    goes_before n zero v low goes = absurd (omega arith)
    goes_before n (suc m) v low goes = elim (cases_lt n m) [
      | inl before ↦ goes_before n m goes.0 before goes.1
      | inr behind ↦
          let is : m ≡ n = omega arith in
          subst (λ k. (u : WorldState) × Goes k u × IsSomeAt GoesOn u.cores) is (goes.0, goes.1, goes.2)
    ]

    not_sooner : (n m : ℕ) (w v : WorldState) → Goes n w → IsAllAt IsOver w.cores → Goes m v → n < m → ⊥
    not_sooner n m w v one over two low =
        let before = goes_before n m v low two in
        let same = same_world n before.0 w before.1 one in
        none_goes_on w (stood_then n w one) over (subst (λ z. IsSomeAt GoesOn z.cores) same before.2)

    -- replays to their ends have as many events and end with one world
    both_end : (n m : ℕ) (w v : WorldState) → Goes n w → IsAllAt IsOver w.cores → Goes m v → IsAllAt IsOver v.cores
        → (n ≡ m) × (w ≡ v)
    both_end n m w v one over two over' = elim (cases_lt n m) [
      | inl before ↦ absurd (not_sooner n m w v one over two before)
      | inr behind ↦ elim (cases_lt m n) [
        | inl before ↦ absurd (not_sooner m n v w two over' one before)
        | inr other ↦
            let is : m ≡ n = omega arith in (sym is, same_world n w v one (subst (λ k. Goes k v) is two))
      ]
    ]

-- two replays in the order of one seed that begin with one world and end where all is over have one end
pub one_end : ReplaysAreOne
one_end task lists slots seed n m first w v stands = both_end task slots seed first (lists, stands) n m w v

-- so two replays of one task that began with one world, in the order of one seed, have as many bouts and one journal
pub one_wave_run : WaveRunsAreOne
one_wave_run task seed run other one two same =
    let slots = slots_of task.setting in
    let drives = subst (λ z. Drives (MakesDrawn slots seed) z other.bouts two.last) (sym same) two.drives in
    let ends = both_end task slots seed one.first ((λ actor. no_lists), one.fresh) run.bouts other.bouts one.last
    two.last one.drives one.over drives two.over in
    (ends.0, one.journal ∙ ap journal_in ends.1 ∙ sym two.journal)

-- and so have two of one run, since its first worlds are one
pub one_run : RunsAreOne
one_run input setting seed run other one two =
    let task = task_of input setting in
    one_wave_run task seed run other one.replay two.replay
    (one_world task one.replay.first two.replay.first one.begun two.begun)
