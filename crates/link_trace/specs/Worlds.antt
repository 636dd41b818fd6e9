-- A world: its machines, and what is left on each link.
use Rattle.std.specs.Prelude.{◌≡◌, ℕ, ◌<◌, All, Option, Some, List, [], ◌∷◌, ◌++◌, map, slice_get}
use Rattle.std.specs.Prelude.{slice_index_or, slice_set, length, drop, ◌&&◌, false, None, if◌then◌else◌}
use Rattle.epoch_tags.specs.declared.actor.Actor.{Actor}
use Rattle.epoch_tags.specs.declared.actor.Actor.TheVariants.{Feeder}
use Rattle.epoch_tags.specs.Links.{HasLink}
use Rattle.load_controller.specs.declared.line.TurnLine.{TurnLine}
use Rattle.epoch_tags.specs.declared.message.Msg.{Msg}
use Rattle.epoch_tags.specs.declared.message.Post.{Post}
use Rattle.theta_pred.specs.Formula.{Meaning}
use Rattle.trace_law.specs.declared.setting.Setting.{Setting}
use Rattle.actor_core.specs.declared.cast.Cast.{Cast}
use Rattle.actor_core.specs.Lists.{ActorLists, Cause, Took, Began, same_actor}
use Rattle.actor_core.specs.Effects.{core_after, core_posts}
use Rattle.actor_core.specs.Players.{AllStand, journal_among}
use Rattle.actor_core.specs.Elements.{IsAllAt}
use Rattle.actor_core.specs.Standing.{Event, GoOut, Asks, JoinsBy, Waits}
use Rattle.actor_core.specs.Families.{start_for, IsActor, IsBalanced, after_event, core_in, family_of}
use Rattle.actor_core.specs.Numbers.{at_number, number}
use Rattle.actor_core.specs.Tasks.{Task, Agrees}
use Rattle.actor_core.specs.declared.machines.Core.{Core}
use Rattle.link_trace.specs.declared.places.Place.{Place}

-- ---- what is kept, by the numbers of actors

-- the machines
abbrev pub cores_of : List Place → List Core
cores_of places = map (λ place. place.core) places

-- what waits at an actor, sender by sender
abbrev pub waiting_at : Place → List (List Msg)
waiting_at place = map (λ queue. queue.items) place.waiting.items

-- what waits at each actor
abbrev pub waiting_of : List Place → List (List (List Msg))
waiting_of places = map waiting_at places

-- what waits at one actor of one sender
abbrev pub waits : List (List (List Msg)) → ℕ → ℕ → List Msg
waits waiting receiver sender = slice_index_or (slice_index_or waiting receiver []) sender []

-- the same with this list there
abbrev pub with_waiting : List (List (List Msg)) → ℕ → ℕ → List Msg → List (List (List Msg))
with_waiting waiting receiver sender ms =
    slice_set waiting receiver (slice_set (slice_index_or waiting receiver []) sender ms)

-- there is a place for what this actor sends to that one
pub record HasRoom (waiting : List (List (List Msg))) (receiver sender : ℕ) : Type 0 where
  pub receiver_is : receiver < length waiting
  pub sender_is : sender < length (slice_index_or waiting receiver [])

-- as many lists wait at each of so many actors
pub record IsSquare (count : ℕ) (waiting : List (List (List Msg))) : Type 0 where
  pub tall : length waiting ≡ count
  pub wide : All (λ queues. length queues ≡ count) waiting

-- the first message that waits there was taken off
pub record TakesOff (receiver sender : ℕ) (m : Msg) (old new : List (List (List Msg))) : Type 0 where
  pub room : HasRoom old receiver sender
  pub rest : List Msg
  pub first : waits old receiver sender ≡ m ∷ rest
  pub left : new ≡ with_waiting old receiver sender rest

-- one message more waits there
pub record PutsOn (receiver sender : ℕ) (m : Msg) (old new : List (List (List Msg))) : Type 0 where
  pub room : HasRoom old receiver sender
  pub left : new ≡ with_waiting old receiver sender (waits old receiver sender ++ m ∷ [])

-- one machine made an event, which had these posts
pub record OccursAt (at : ℕ) (cause : Cause) (old new : List Core) (posts : List Post) : Type 0 where
  pub core : Core
  pub next : Core
  pub was : slice_get old at ≡ Some core
  pub now : new ≡ slice_set old at next
  pub event : Event cause core next posts

-- ---- the same by actors

-- the actor takes part
abbrev pub HasNumber : Cast → Actor → Type 0
HasNumber cast a = ¬ (number cast a ≡ None)

-- who takes part, the machines, and what waits
pub record WorldState : Type 0 where
  pub cast : Cast
  pub cores : List Core
  pub waiting : List (List (List Msg))

-- what is left on the link from one actor to another
abbrev pub left_in : Cast → List (List (List Msg)) → Actor → Actor → List Msg
left_in cast waiting from to =
    at_number [] (number cast to)
    (λ receiver. at_number [] (number cast from) (λ sender. waits waiting receiver sender))

-- the machine of an actor of the world
abbrev pub core_of : WorldState → Actor → Option Core
core_of w a = core_in w.cast w.cores a

-- what is left on a link of the world
abbrev pub left_of : WorldState → Actor → Actor → List Msg
left_of w from to = left_in w.cast w.waiting from to

-- the world of these with these places
abbrev pub state_among : Cast → List Place → WorldState
state_among cast places = record {
  cast = cast;
  cores = cores_of places;
  waiting = waiting_of places;
}

-- one message more on the link between them
abbrev pub put_one : Actor → Actor → Msg → (Actor → Actor → List Msg) → Actor → Actor → List Msg
put_one from to m left x y = if same_actor from x && same_actor to y then left x y ++ m ∷ [] else left x y

-- of the task: these lists are what its actors have received and sent, each machine stands for those of its actor, and
-- on each link what was received, and then what is left, is what was sent
pub record StandsFor (task : Task) (w : WorldState) (f : Actor → ActorLists) : Type 0 where
  pub machines : AllStand task w.cast w.cores f
  pub balanced : IsBalanced f (left_of w)

-- it is a world of some task
pub record StandsForSome (w : WorldState) : Type 0 where
  pub task : Task
  pub lists : Actor → ActorLists
  pub stands : StandsFor task w lists

-- each joiner's machine joins by this predicate
abbrev pub AllJoinBy : Meaning → WorldState → Type 0
AllJoinBy theta w = IsAllAt (JoinsBy theta) w.cores

-- ---- what an event leaves, as a function of the world and of the cause

-- what waits, with what is left on the link from one actor to another changed so; the same where one of them isn't
-- there
abbrev pub with_left : Cast → Actor → Actor → (List Msg → List Msg) → List (List (List Msg)) → List (List (List Msg))
with_left cast from to change waiting =
    at_number waiting (number cast from)
    (λ sender. at_number waiting (number cast to)
    (λ receiver. with_waiting waiting receiver sender (change (waits waiting receiver sender))))

-- the post of an actor comes behind what is left on its link
abbrev pub with_post : Cast → Actor → Post → List (List (List Msg)) → List (List (List Msg))
with_post cast from post waiting =
    with_left cast from post.to (λ ms. ms ++ post.msg ∷ []) waiting

-- so do its posts, one after another
abbrev pub with_posts : Cast → Actor → List Post → List (List (List Msg)) → List (List (List Msg))
with_posts cast from [] waiting = waiting
with_posts cast from (post ∷ posts) waiting =
    with_posts cast from posts (with_post cast from post waiting)

-- the machine at this number is the one after the event, and what the event posts is on its links
abbrev pub with_event_at : Actor → Cause → WorldState → ℕ → Option Core → WorldState
with_event_at self cause w n None = w
with_event_at self cause w n (Some core) = record w {
  cores = slice_set w.cores n (core_after cause core);
  waiting = with_posts w.cast self (core_posts cause core) w.waiting;
}

-- the world after this actor's event, which changes its machine and puts its posts on their links, in order; the same
-- world where it has no machine. A message that the event took isn't taken off here
abbrev pub world_after : Actor → Cause → WorldState → WorldState
world_after self cause w =
    at_number w (number w.cast self)
    (λ n. with_event_at self cause w n (slice_get w.cores n))

-- the world without the first message of a link
abbrev pub without_first : Actor → Actor → WorldState → WorldState
without_first from to w = record w { waiting = with_left w.cast from to (drop 1) w.waiting }

-- the world without what its actor acts on: a message that it took is the first of its link, and at a beginning there
-- is none
abbrev pub without_cause : Actor → Cause → WorldState → WorldState
without_cause self (Took from m) w = without_first from self w
without_cause self Began w = w

-- the world after its receiver took the first of these messages, which are those left on the link
abbrev pub delivered_first : Actor → Actor → List Msg → WorldState → WorldState
delivered_first from to [] w = w
delivered_first from to (m ∷ rest) w = world_after to (Took from m) (without_first from to w)

-- the world after the first message of a link was delivered: it is off the link, and its receiver made its event; the
-- same world where nothing is left there
abbrev pub world_delivered : Actor → Actor → WorldState → WorldState
world_delivered from to w = delivered_first from to (left_of w from to) w

-- ---- events

-- every other actor has the machine that it had, and where nothing was left of what it sends, nothing is
pub record KeepsOthers (self : Actor) (old new : WorldState) : Type 0 where
  pub machines : (a : Actor) → same_actor self a ≡ false → core_of new a ≡ core_of old a
  pub links : (from to : Actor) → same_actor self from ≡ false → left_of old from to ≡ [] → left_of new from to ≡ []

-- one event of the actor `self`: the new world is a function of the old one and of the cause. Whatever the lists were,
-- they are the same with the event at their ends; it is one of the run's actors, and its posts go over its links;
-- joiners keep their predicate
pub record MakesEvent (self : Actor) (cause : Cause) (old new : WorldState) : Type 0 where
  pub posts : List Post
  pub stands : (task : Task) (f : Actor → ActorLists) → StandsFor task old f
      → StandsFor task new (after_event self cause posts f)
  pub over : (task : Task) (f : Actor → ActorLists) → StandsFor task old f
      → IsActor task.setting self × GoOut (start_for task self) posts
  pub joins : (theta : Meaning) → AllJoinBy theta old → AllJoinBy theta new
  pub asks : Asks cause posts
  pub others : KeepsOthers self old new
  pub after : new ≡ world_after self cause (without_cause self cause old)

-- the first message of a link was handed to its receiver; the new world is a function of the old one and of the link
pub record Delivers (from to : Actor) (old new : WorldState) : Type 0 where
  pub m : Msg
  pub rest : List Msg
  pub first : left_of old from to ≡ m ∷ rest
  pub event : MakesEvent to (Took from m) old new
  pub after : new ≡ world_delivered from to old

-- nothing is left on any link of the run, and no feeder would begin
pub record IsStill (setting : Setting) (w : WorldState) : Type 0 where
  pub links : (from to : Actor) → HasLink setting.k setting.feeders from to → left_of w from to ≡ []
  pub waits : (p : ℕ) → p < setting.feeders → (core : Core) → core_of w (Feeder p) ≡ Some core → Waits core

-- the journal of the controller's machine
abbrev pub journal_in : WorldState → List TurnLine
journal_in w = journal_among w.cast w.cores

-- the lists for which a world stands are an agreeing family
abbrev pub WorldAgrees : Type 0
WorldAgrees = (task : Task) (w : WorldState) (lists : Actor → ActorLists) → StandsFor task w lists
    → Agrees task (family_of (journal_in w) lists)
