-- What can happen next in a world, and the order in which a replay makes it happen.
use Rattle.std.specs.Prelude.{◌≡◌, ℕ, zero, suc, ◌+◌, ◌%◌, ◌^◌, ◌<◌, List, ◌++◌, length, [], map, flat_map, slice_get}
use Rattle.std.specs.Prelude.{Some}
use Rattle.std.specs.Prelude.{bit_xor}
use Rattle.std.specs.List.{range_with_len}
use Rattle.epoch_tags.specs.declared.actor.Actor.{Actor}
use Rattle.epoch_tags.specs.declared.actor.Actor.TheVariants.{Feeder, Joiner, Controller, Collector}
use Rattle.rand_pcg.specs.Lcg.{advance, started, increment_of}
use Rattle.rand_pcg.specs.Pcg.{multiplier_64, pcg32}
use Rattle.trace_law.specs.declared.input.Input.{Input}
use Rattle.trace_law.specs.declared.setting.Setting.{Setting}
use Rattle.trace_law.specs.declared.run.Run.{Run}
use Rattle.trace_law.specs.Family.{IsRestFor, Rest}
use Rattle.trace_law.specs.Validity.{IsValidInput}
use Rattle.actor_core.specs.declared.machines.Core.{Core}
use Rattle.actor_core.specs.Lists.{ActorLists, Began, no_lists}
use Rattle.actor_core.specs.Standing.{IsOver, GoesOn, Waits}
use Rattle.actor_core.specs.Elements.{IsAllAt, IsSomeAt}
use Rattle.actor_core.specs.Tasks.{Task, task_of}
use Rattle.link_trace.specs.declared.slots.Slot.{Slot}
use Rattle.link_trace.specs.declared.slots.Slot.TheVariants.{Begin, Link}
use Rattle.link_trace.specs.FirstWorlds.{IsFirstWorld}
use Rattle.link_trace.specs.Worlds.{WorldState, StandsFor, MakesEvent, Delivers, core_of, journal_in, left_of}

-- ---- slots

-- the links from a feeder to each joiner
abbrev pub to_joiners : ℕ → ℕ → List Slot
to_joiners joiners p = map (λ j. Link (Feeder p) (Joiner j)) (range_with_len 0 joiners)

-- the links from a joiner to those whose id differs in one bit, lowest bit first
abbrev pub to_partners : ℕ → ℕ → List Slot
to_partners k i = map (λ bit. Link (Joiner i) (Joiner (bit_xor i (2 ^ bit)))) (range_with_len 0 k)

-- the links from each joiner to this actor
abbrev pub from_joiners : ℕ → Actor → List Slot
from_joiners joiners to = map (λ i. Link (Joiner i) to) (range_with_len 0 joiners)

-- all slots of a run in their order: beginnings, then links; actors rise
abbrev pub slots_of : Setting → List Slot
slots_of setting =
    map Begin (range_with_len 0 setting.feeders)
    ++ flat_map (to_joiners (2 ^ setting.k)) (range_with_len 0 setting.feeders)
    ++ flat_map (to_partners setting.k) (range_with_len 0 (2 ^ setting.k))
    ++ map (λ p. Link Controller (Feeder p)) (range_with_len 0 setting.feeders)
    ++ map (λ p. Link (Feeder p) Controller) (range_with_len 0 setting.feeders)
    ++ from_joiners (2 ^ setting.k) Controller
    ++ from_joiners (2 ^ setting.k) Collector

-- ---- what happens at a slot

-- the slot has no event: the feeder would not begin, or nothing is left on the link
abbrev pub IsIdle : WorldState → Slot → Type 0
IsIdle w (Begin p) = (core : Core) → core_of w (Feeder p) ≡ Some core → Waits core
IsIdle w (Link from to) = left_of w from to ≡ []

-- the feeder at this number would begin
abbrev pub IsFree : WorldState → ℕ → Type 0
IsFree w p = (core : Core) → core_of w (Feeder p) ≡ Some core → ¬ Waits core

-- the slot's event is made
abbrev pub Happens : Slot → WorldState → WorldState → Type 0
Happens (Begin p) old new = IsFree old p × MakesEvent (Feeder p) Began old new
Happens (Link from to) old new = Delivers from to old new

-- from the place that a word names on, going round, so many slots have no event
abbrev pub AreIdleFrom : List Slot → ℕ → ℕ → WorldState → Type 0
AreIdleFrom slots word count w =
    (i : ℕ) (slot : Slot) → i < count → slice_get slots ((word + i) % length slots) ≡ Some slot → IsIdle w slot

-- the event of the first slot that has one is made, going round from the place that a word names
pub record MakesFirst (slots : List Slot) (word : ℕ) (old new : WorldState) : Type 0 where
  pub skipped : ℕ
  pub slot : Slot
  pub once : skipped < length slots
  pub idle : AreIdleFrom slots word skipped old
  pub there : slice_get slots ((word + skipped) % length slots) ≡ Some slot
  pub happens : Happens slot old new

-- ---- a replay

-- word n of the generator with this seed, on the stream of replays
abbrev pub word_of : ℕ → ℕ → ℕ
word_of seed n = (pcg32 (advance 64 multiplier_64 n (started 64 multiplier_64 seed (increment_of 64 56)))).0

-- event n of a replay: word n is drawn, and the first slot that has an event makes it
abbrev pub MakesDrawn : List Slot → ℕ → ℕ → WorldState → WorldState → Type 0
MakesDrawn slots seed n old new = MakesFirst slots (word_of seed n) old new

-- after so many events, from this world to that one: each is made while the work of some goes on, event n as `Makes n`
-- says
abbrev pub Drives : (ℕ → WorldState → WorldState → Type 0) → WorldState → ℕ → WorldState → Type 0
Drives Makes first zero last = last ≡ first
Drives Makes first (suc n) last =
    (old : WorldState) × Drives Makes first n old × IsSomeAt GoesOn old.cores × Makes n old last

-- the run is that of a world of the task which stood for empty lists and was driven to its end by such events; `bouts`
-- is their number
pub record IsDriven (task : Task) (Makes : ℕ → WorldState → WorldState → Type 0) (run : Run) : Type 0 where
  pub first : WorldState
  pub last : WorldState
  pub fresh : StandsFor task first (λ actor. no_lists)
  pub drives : Drives Makes first run.bouts last
  pub over : IsAllAt IsOver last.cores
  pub journal : run.journal ≡ journal_in last

-- the run is that of a world of the task which was driven to its end in the order of this seed
abbrev pub IsReplay : Task → ℕ → Run → Type 0
IsReplay task seed run = IsDriven task (MakesDrawn (slots_of task.setting) seed) run

-- the run is such a replay of this input and setting, and it began with their first world
pub record IsRunReplay (input : Input) (setting : Setting) (seed : ℕ) (run : Run) : Type 0 where
  pub replay : IsReplay (task_of input setting) seed run
  pub begun : IsFirstWorld (task_of input setting) replay.first

-- the world stands for empty lists of a task of this setting, whose input is within the limits
pub record IsFreshWorld (setting : Setting) (w : WorldState) : Type 0 where
  pub input : Input
  pub rest : Rest
  pub of_input : IsValidInput input
  pub begins : IsRestFor input setting rest
  pub stands : StandsFor (record { input = input; setting = setting; rest = rest }) w (λ actor. no_lists)

-- ---- a replay is one run

-- two replays in the order of one seed that begin with one world, which stands for some lists, and end where the work
-- of all is over, have as many events and end with one world
abbrev pub ReplaysAreOne : Type 0
ReplaysAreOne = (task : Task) (lists : Actor → ActorLists) (slots : List Slot) (seed n m : ℕ) (first w v : WorldState)
    → StandsFor task first lists
    → Drives (MakesDrawn slots seed) first n w → IsAllAt IsOver w.cores
    → Drives (MakesDrawn slots seed) first m v → IsAllAt IsOver v.cores
    → (n ≡ m) × (w ≡ v)

-- so two replays of one task in the order of one seed that began with one world have as many bouts and one journal
abbrev pub WaveRunsAreOne : Type 0
WaveRunsAreOne = (task : Task) (seed : ℕ) (run other : Run) (one : IsReplay task seed run)
    (two : IsReplay task seed other)
    → one.first ≡ two.first → (run.bouts ≡ other.bouts) × (run.journal ≡ other.journal)

-- and so have two of one run, since they began with one world
abbrev pub RunsAreOne : Type 0
RunsAreOne = (input : Input) (setting : Setting) (seed : ℕ) (run other : Run) → IsRunReplay input setting seed run
    → IsRunReplay input setting seed other → (run.bouts ≡ other.bouts) × (run.journal ≡ other.journal)
