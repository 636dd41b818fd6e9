-- All actors of a run: their machines, their lists, and what is under way.
use Rattle.std.specs.Prelude.{◌≡◌, ◌^◌, ◌<◌, ⊤, ◌&&◌, Option, None, List, [], ◌∷◌, ◌++◌, slice_get, if◌then◌else◌}
use Rattle.row_cells.specs.Lists.{IsPrefix}
use Rattle.epoch_tags.specs.declared.actor.Actor.{Actor}
use Rattle.epoch_tags.specs.declared.actor.Actor.TheVariants.{Feeder, Joiner, Controller, Collector}
use Rattle.epoch_tags.specs.declared.message.Msg.{Msg}
use Rattle.epoch_tags.specs.declared.message.Post.{Post}
use Rattle.load_controller.specs.Journal.{begun}
use Rattle.load_controller.specs.declared.line.TurnLine.{TurnLine}
use Rattle.trace_law.specs.declared.setting.Setting.{Setting}
use Rattle.trace_law.specs.Family.{Family, feeder_start, joiner_start, rules_of}
use Rattle.actor_core.specs.declared.cast.Cast.{Cast}
use Rattle.actor_core.specs.Lists.{ActorLists, Cause, Took, Began, same_actor, posted_to, feeder_lists, joiner_lists}
use Rattle.actor_core.specs.Lists.{controller_lists, collector_lists, with_event}
use Rattle.actor_core.specs.Numbers.{number, at_number}
use Rattle.actor_core.specs.Standing.{Start, OfFeeder, OfJoiner, OfController, OfCollector}
use Rattle.actor_core.specs.Tasks.{Task}
use Rattle.actor_core.specs.declared.machines.Core.{Core}
use Rattle.actor_core.specs.declared.machines.Core.TheVariants.{Feeder as TheFeeder, Joiner as TheJoiner}
use Rattle.actor_core.specs.declared.machines.Core.TheVariants.{Controller as TheController, Collector as TheCollector}

-- how each actor begins
abbrev pub start_for : Task → Actor → Start
start_for task (Feeder p) = OfFeeder p task.setting.feeders (feeder_start task.input task.setting task.rest p)
start_for task (Joiner j) = OfJoiner (joiner_start task.input task.setting task.rest j)
start_for task Controller = OfController (record {
  rules = rules_of task.setting;
  first = begun task.rest.line;
})
start_for task Collector = OfCollector (2 ^ task.setting.k)

-- the actor is one of the run
abbrev pub IsActor : Setting → Actor → Type 0
IsActor setting (Feeder p) = p < setting.feeders
IsActor setting (Joiner j) = j < 2 ^ setting.k
IsActor setting Controller = ⊤
IsActor setting Collector = ⊤

-- the machine of an actor that takes part in the run
abbrev pub core_in : Cast → List Core → Actor → Option Core
core_in cast cores a = at_number None (number cast a) (λ n. slice_get cores n)

-- the journal that the machine holds
abbrev pub journal_of : Core → List TurnLine
journal_of (TheFeeder f) = []
journal_of (TheJoiner j) = []
journal_of (TheController c) = c.journal
journal_of (TheCollector c) = []

-- the lists of all actors as a family with this journal
abbrev pub family_of : List TurnLine → (Actor → ActorLists) → Family
family_of journal f = record {
  feeder = λ p. feeder_lists (f (Feeder p));
  joiner = λ j. joiner_lists (f (Joiner j));
  controller = controller_lists journal (f Controller);
  collector = collector_lists (f Collector);
}

-- what was received is a front of what was sent, from whomever to whomever
abbrev pub AreFronts : (Actor → ActorLists) → Type 0
AreFronts f = (from to : Actor) → IsPrefix ((f to).received from) ((f from).sent to)

-- what was received, and then what is left, is what was sent
abbrev pub IsBalanced : (Actor → ActorLists) → (Actor → Actor → List Msg) → Type 0
IsBalanced f left = (from to : Actor) → (f to).received from ++ left from to ≡ (f from).sent to

-- ---- one event of one actor

-- the function with this value at this actor
abbrev pub changed : {X : Type 0} → Actor → X → (Actor → X) → Actor → X
changed at x f a = if same_actor at a then x else f a

-- all lists after an event of one actor
abbrev pub after_event : Actor → Cause → List Post → (Actor → ActorLists) → Actor → ActorLists
after_event self cause posts f = changed self (with_event cause posts (f self)) f

-- what is left, where this rest is left from one actor to another
abbrev pub taken_off : Actor → Actor → List Msg → (Actor → Actor → List Msg) → Actor → Actor → List Msg
taken_off from to rest left x y = if same_actor from x && same_actor to y then rest else left x y

-- what is left, with the posts of this actor
abbrev pub put_on : Actor → List Post → (Actor → Actor → List Msg) → Actor → Actor → List Msg
put_on self posts left x y = if same_actor self x then left x y ++ posted_to y posts else left x y

-- a message taken off its link, and what its receiver sends put on, keep the balance
abbrev pub DeliveryBalances : Type 0
DeliveryBalances = (from to : Actor) (m : Msg) (rest : List Msg) (posts : List Post)
    (f : Actor → ActorLists) (left : Actor → Actor → List Msg)
    → IsBalanced f left → left from to ≡ m ∷ rest
    → IsBalanced (after_event to (Took from m) posts f) (put_on to posts (taken_off from to rest left))

-- what a feeder sends at a beginning keeps the balance
abbrev pub BeginningBalances : Type 0
BeginningBalances = (self : Actor) (posts : List Post) (f : Actor → ActorLists) (left : Actor → Actor → List Msg)
    → IsBalanced f left → IsBalanced (after_event self Began posts f) (put_on self posts left)
