-- Actors at work: what the events of a run do to machines and lists, and how a run ends.
use Rattle.std.specs.Prelude.{◌≡◌, ⊤, ℕ, zero, suc, Bool, false, Option, Some, None, List, [], length}
use Rattle.std.specs.Prelude.{slice_get}
use Rattle.std.specs.List.{AllByRecursion}
use Rattle.row_cells.specs.Lists.{IsPrefix}
use Rattle.epoch_tags.specs.declared.actor.Actor.{Actor}
use Rattle.epoch_tags.specs.declared.actor.Actor.TheVariants.{Controller, Collector}
use Rattle.epoch_tags.specs.Links.{HasLink}
use Rattle.epoch_tags.specs.Posts.{IsOfKind}
use Rattle.epoch_tags.specs.declared.message.Msg.{Msg}
use Rattle.epoch_tags.specs.declared.message.Post.{Post}
use Rattle.load_controller.specs.declared.line.TurnLine.{TurnLine}
use Rattle.pair_collector.specs.Standing.{is_complete}
use Rattle.trace_law.specs.declared.setting.Setting.{Setting}
use Rattle.trace_law.specs.Family.{IsFinished}
use Rattle.actor_core.specs.declared.cast.Cast.{Cast}
use Rattle.actor_core.specs.Lists.{ActorLists, Cause, Took, Began, no_lists, with_event}
use Rattle.actor_core.specs.Standing.{Event, Stands, Waits, IsLive, given_by}
use Rattle.actor_core.specs.Families.{AreFronts, IsActor, core_in, family_of, journal_of, start_for}
use Rattle.actor_core.specs.Numbers.{at_number, cast_of, count_of, number}
use Rattle.actor_core.specs.Tasks.{Task, Agrees}
use Rattle.actor_core.specs.declared.machines.Core.{Core}
use Rattle.actor_core.specs.declared.machines.Core.TheVariants.{Feeder as TheFeeder, Joiner as TheJoiner}
use Rattle.actor_core.specs.declared.machines.Core.TheVariants.{Controller as TheController, Collector as TheCollector}

-- ---- one actor

-- an actor at work: its machine, and what it has received and sent
pub record Player : Type 0 where
  pub core : Core
  pub lists : ActorLists

-- an actor begins only where it doesn't wait
abbrev pub MayBegin : Cause → Core → Type 0
MayBegin (Took from m) core = ⊤
MayBegin Began core = ¬ Waits core

-- one event of the machine: its cause was received and its posts were sent, in order; its journal grows, and it gives
-- no pair
pub record MakesEvent (old new : Player) : Type 0 where
  pub cause : Cause
  pub posts : List Post
  pub event : Event cause old.core new.core posts
  pub free : MayBegin cause old.core
  pub live : IsLive new.core
  pub given : given_by new.core ≡ given_by old.core
  pub grows : IsPrefix (journal_of old.core) (journal_of new.core)
  pub lists : new.lists ≡ with_event cause posts old.lists

-- so many events, one after another
abbrev pub Runs : ℕ → Player → Player → Type 0
Runs zero old new = new ≡ old
Runs (suc n) old new = (middle : Player) × Runs n old middle × MakesEvent middle new

-- ---- all actors of a run: their machines by numbers, and their lists

-- there is a machine for each actor; it began as the task says, and stands for the actor's lists
pub record AllStand (task : Task) (cast : Cast) (cores : List Core) (f : Actor → ActorLists) : Type 0 where
  pub cast_is : cast ≡ cast_of task.setting
  pub all : length cores ≡ count_of cast
  pub stands : (a : Actor) → IsActor task.setting a → (core : Core) × (core_in cast cores a ≡ Some core)
      × Stands (start_for task a) (f a) core

-- each list is a front of the later one
pub record Extends (old new : Actor → ActorLists) : Type 0 where
  pub received : (from to : Actor) → IsPrefix ((old to).received from) ((new to).received from)
  pub sent : (from to : Actor) → IsPrefix ((old from).sent to) ((new from).sent to)

-- what was sent from whomever to whomever was received
abbrev pub AllReceived : (Actor → ActorLists) → Type 0
AllReceived f = (from to : Actor) → (f to).received from ≡ (f from).sent to

-- the message goes over a link of the run, and is of the kind that its receiver takes
abbrev pub IsLinked : Setting → Actor → Actor → Msg → Type 0
IsLinked setting from to m = HasLink setting.k setting.feeders from to × IsOfKind to m

-- so does each message that was sent
abbrev pub AreLinked : Setting → (Actor → ActorLists) → Type 0
AreLinked setting f = (from to : Actor) → AllByRecursion (IsLinked setting from to) ((f from).sent to)

-- and what was received on each link is a front of what was sent
pub record AgreesOnLinks (setting : Setting) (f : Actor → ActorLists) : Type 0 where
  pub fronts : AreFronts f
  pub linked : AreLinked setting f

-- ---- seats of any kind, one for each number: their actors' lists

-- what was received and sent at a seat, where there is one
abbrev pub lists_at : {S : Type 0} → (S → ActorLists) → Option S → ActorLists
lists_at lists_of None = no_lists
lists_at lists_of (Some seat) = lists_of seat

-- what each actor has received and sent
abbrev pub lists_among : {S : Type 0} → (S → ActorLists) → Cast → List S → Actor → ActorLists
lists_among lists_of cast seats a =
    lists_at lists_of (at_number None (number cast a) (λ n. slice_get seats n))

-- ---- the end of a run

-- the journal of a machine, where there is one
abbrev pub journal_at : Option Core → List TurnLine
journal_at None = []
journal_at (Some core) = journal_of core

-- the journal of the controller among these machines
abbrev pub journal_among : Cast → List Core → List TurnLine
journal_among cast cores = journal_at (core_in cast cores Controller)

-- each joiner has ended, by this machine
abbrev pub is_complete_core : Core → Bool
is_complete_core (TheFeeder f) = false
is_complete_core (TheJoiner j) = false
is_complete_core (TheController c) = false
is_complete_core (TheCollector c) = is_complete c

-- the same of a machine that may not be there
abbrev pub is_complete_at : Option Core → Bool
is_complete_at None = false
is_complete_at (Some core) = is_complete_core core

-- the collector among these machines is complete
abbrev pub is_complete_among : Cast → List Core → Bool
is_complete_among cast cores = is_complete_at (core_in cast cores Collector)

-- these lists and this journal are a family of the task that agrees and is finished
pub record IsFinishedFamily (task : Task) (journal : List TurnLine) (lists : Actor → ActorLists) : Type 0 where
  pub agrees : Agrees task (family_of journal lists)
  pub finished : IsFinished task.input task.setting task.rest (family_of journal lists) agrees
