-- What the machines stand for, and one event.
use Rattle.std.specs.Prelude.{◌≡◌, ◌<◌, ℕ, ⊤, true, false, List, [], ◌++◌, length, slice_index}
use Rattle.epoch_tags.specs.declared.actor.Actor.TheVariants.{Feeder, Joiner, Controller}
use Rattle.epoch_tags.specs.declared.message.Post.{Post}
use Rattle.epoch_tags.specs.Posts.{AllGoOver, posted_to_controller}
use Rattle.reshuffler_core.specs.Law.{FeederStart}
use Rattle.reshuffler_core.specs.Standing.{StandsFor as FeederStands, IsWaiting}
use Rattle.joiner_law.specs.Law.{JoinerStart, JoinerLists, IsFinished}
use Rattle.joiner_core.specs.Standing.{StandsFor as JoinerStands, theta_of}
use Rattle.theta_pred.specs.Formula.{Meaning}
use Rattle.load_controller.specs.Standing.{ControllerStart, StandsFor as ControllerStands}
use Rattle.pair_collector.specs.Standing.{StandsFor as CollectorStands, is_complete}
use Rattle.actor_core.specs.Lists.{ActorLists, Cause, Took, Began, feeder_lists, joiner_lists, controller_lists}
use Rattle.actor_core.specs.Lists.{collector_lists, with_event}
use Rattle.actor_core.specs.Effects.{core_after, core_posts}
use Rattle.actor_core.specs.declared.machines.Core.{Core}
use Rattle.actor_core.specs.declared.machines.Core.TheVariants.{Feeder as TheFeeder, Joiner as TheJoiner}
use Rattle.actor_core.specs.declared.machines.Core.TheVariants.{Controller as TheController, Collector as TheCollector}

-- how an actor begins: a feeder with its number and that of all feeders, a collector with the number of joiners
pub data Start : Type 0 where
  OfFeeder : ℕ → ℕ → FeederStart → Start
  OfJoiner : JoinerStart → Start
  OfController : ControllerStart → Start
  OfCollector : ℕ → Start

-- the machine is of this kind, began so, and stands for the typed lists read off these
abbrev pub Stands : Start → ActorLists → Core → Type 0
Stands (OfFeeder p feeders s) ls (TheFeeder f) = FeederStands s (feeder_lists ls) f
Stands (OfFeeder p feeders s) ls (TheJoiner j) = ⊥
Stands (OfFeeder p feeders s) ls (TheController c) = ⊥
Stands (OfFeeder p feeders s) ls (TheCollector c) = ⊥
Stands (OfJoiner s) ls (TheFeeder f) = ⊥
Stands (OfJoiner s) ls (TheJoiner j) = JoinerStands s (joiner_lists ls) j
Stands (OfJoiner s) ls (TheController c) = ⊥
Stands (OfJoiner s) ls (TheCollector c) = ⊥
Stands (OfController s) ls (TheFeeder f) = ⊥
Stands (OfController s) ls (TheJoiner j) = ⊥
Stands (OfController s) ls (TheController c) = ControllerStands s (controller_lists c.journal ls) c
Stands (OfController s) ls (TheCollector c) = ⊥
Stands (OfCollector joiners) ls (TheFeeder f) = ⊥
Stands (OfCollector joiners) ls (TheJoiner j) = ⊥
Stands (OfCollector joiners) ls (TheController c) = ⊥
Stands (OfCollector joiners) ls (TheCollector c) = CollectorStands joiners (collector_lists ls) c

-- the posts of an actor that began so: each over one of its links, and of that link's kind
abbrev pub GoOut : Start → List Post → Type 0
GoOut (OfFeeder p feeders s) posts = p < feeders → AllGoOver s.k feeders (Feeder p) posts
GoOut (OfJoiner s) posts = AllGoOver s.k s.feeders (Joiner s.id) posts
GoOut (OfController s) posts = AllGoOver s.rules.k s.rules.feeders Controller posts
GoOut (OfCollector joiners) posts = posts ≡ []

-- a beginning sends the controller one message
abbrev pub Asks : Cause → List Post → Type 0
Asks (Took from m) posts = ⊤
Asks Began posts = length (posted_to_controller posts) ≡ 1

-- a joiner's machine joins by this predicate
abbrev pub JoinsBy : Meaning → Core → Type 0
JoinsBy theta (TheFeeder f) = ⊤
JoinsBy theta (TheJoiner j) = theta_of j ≡ theta
JoinsBy theta (TheController c) = ⊤
JoinsBy theta (TheCollector c) = ⊤

-- one event: what it leaves and posts are functions of the machine and the cause. For whatever lists the machine stood,
-- it stands for them with the cause received and the posts sent, and the posts go over its links; a joiner keeps its
-- predicate
pub record Event (cause : Cause) (old new : Core) (posts : List Post) : Type 0 where
  pub stands : (s : Start) (ls : ActorLists) → Stands s ls old → Stands s (with_event cause posts ls) new
  pub over : (s : Start) (ls : ActorLists) → Stands s ls old → GoOut s posts
  pub asks : Asks cause posts
  pub joins : (theta : Meaning) → JoinsBy theta old → JoinsBy theta new
  pub state : new ≡ core_after cause old
  pub posted : posts ≡ core_posts cause old

-- an event that turned the posts `before` into `after`
pub record Occurs (cause : Cause) (old new : Core) (before after : List Post) : Type 0 where
  pub added : List Post
  pub sends : after ≡ before ++ added
  pub event : Event cause old new added

-- ---- the end of its work

-- whatever its lists are, they show that its work is over
abbrev pub IsOver : Core → Type 0
IsOver (TheFeeder f) = f.stopped ≡ true
IsOver (TheJoiner j) =
    (s : JoinerStart) (lists : JoinerLists) (stands : JoinerStands s lists j) → IsFinished s lists stands.taken
IsOver (TheController c) = ⊤
IsOver (TheCollector c) = is_complete c ≡ true

-- whatever they are, they show that it isn't
abbrev pub GoesOn : Core → Type 0
GoesOn (TheFeeder f) = f.stopped ≡ false
GoesOn (TheJoiner j) =
    (s : JoinerStart) (lists : JoinerLists) (stands : JoinerStands s lists j) → ¬ IsFinished s lists stands.taken
GoesOn (TheController c) = ⊥
GoesOn (TheCollector c) = is_complete c ≡ false

-- ---- beginnings

-- it would not begin: its last batch isn't granted, or it has drained; no other actor begins
abbrev pub Waits : Core → Type 0
Waits (TheFeeder f) = IsWaiting f
Waits (TheJoiner j) = ⊤
Waits (TheController c) = ⊤
Waits (TheCollector c) = ⊤

-- it is no feeder for which a call found no memory
abbrev pub IsLive : Core → Type 0
IsLive (TheFeeder f) = f.spent ≡ false
IsLive (TheJoiner j) = ⊤
IsLive (TheController c) = ⊤
IsLive (TheCollector c) = ⊤

-- ---- what a collector gave

-- how many pairs of each joiner a collector's machine gave; another machine gives none
abbrev pub given_by : Core → List ℕ
given_by (TheFeeder f) = []
given_by (TheJoiner j) = []
given_by (TheController c) = []
given_by (TheCollector c) = c.given

-- it gave no pair of any of so many joiners
abbrev pub HasGivenNone : ℕ → Core → Type 0
HasGivenNone joiners core = (j : ℕ) → j < joiners → slice_index (given_by core) j ≡ 0
