-- What an event leaves and posts, as functions of the machine and of the cause.
use Rattle.std.specs.Prelude.{false, List, [], ◌∷◌, ◌++◌, drop, length, reverse}
use Rattle.epoch_tags.specs.declared.actor.Actor.{Actor}
use Rattle.epoch_tags.specs.declared.message.Msg.{Msg}
use Rattle.epoch_tags.specs.declared.message.Msg.TheVariants.{Joiner, Feeder, Controller, Collector}
use Rattle.epoch_tags.specs.declared.message.Post.{Post}
use Rattle.reshuffler_core.specs.Standing.{FeederState, after_held, posts_of_held, state_begun, next_request}
use Rattle.reshuffler_core.specs.Standing.{to_controller}
use Rattle.joiner_core.specs.Standing.{JoinerState}
use Rattle.joiner_core.specs.Calls.{state_after as joiner_state_after, posts_after as joiner_posts_after}
use Rattle.load_controller.specs.Standing.{ControllerState, posts_by, state_after as controller_state_after}
use Rattle.pair_collector.specs.Standing.{CollectorState, state_after as collector_state_after}
use Rattle.actor_core.specs.Lists.{Cause, Took, Began}
use Rattle.actor_core.specs.declared.machines.Core.{Core}
use Rattle.actor_core.specs.declared.machines.Core.TheVariants.{Feeder as TheFeeder, Joiner as TheJoiner}
use Rattle.actor_core.specs.declared.machines.Core.TheVariants.{Controller as TheController, Collector as TheCollector}

-- ---- a feeder

-- a feeder tries a message behind those that it holds
abbrev pub feeder_after : Msg → FeederState → FeederState
feeder_after (Feeder m) f = record (after_held f (f.held ++ m ∷ [])) { spent = false }
feeder_after (Joiner m) f = f
feeder_after (Controller m) f = f
feeder_after (Collector m) f = f

-- and posts what it does for those that it takes
abbrev pub feeder_posts : Msg → FeederState → List Post
feeder_posts (Feeder m) f = posts_of_held f (f.held ++ m ∷ [])
feeder_posts (Joiner m) f = []
feeder_posts (Controller m) f = []
feeder_posts (Collector m) f = []

-- a feeder that begins asks for its next batch, or says that none is left, and tries what it holds
abbrev pub feeder_begun : FeederState → FeederState
feeder_begun f = record (after_held (state_begun f f.to_come) f.held) { spent = false }

-- and posts that request, and then what it does for those that it takes
abbrev pub begun_posts : FeederState → List Post
begun_posts f = to_controller (next_request f.to_come) ∷ posts_of_held (state_begun f f.to_come) f.held

-- ---- a joiner

-- a joiner takes a message or holds it, and tries what it holds
abbrev pub joiner_after : Actor → Msg → JoinerState → JoinerState
joiner_after from (Joiner m) j = record { machine = joiner_state_after from m j.machine; spent = false }
joiner_after from (Feeder m) j = j
joiner_after from (Controller m) j = j
joiner_after from (Collector m) j = j

-- and posts what it does for those that it takes, then the pairs, then its last message
abbrev pub joiner_posts : Actor → Msg → JoinerState → List Post
joiner_posts from (Joiner m) j = joiner_posts_after from m j.machine
joiner_posts from (Feeder m) j = []
joiner_posts from (Controller m) j = []
joiner_posts from (Collector m) j = []

-- ---- the controller

-- the controller counts a message or holds it, and tries what it holds
abbrev pub controller_after : Actor → Msg → ControllerState → ControllerState
controller_after from (Controller m) c = controller_state_after from m c
controller_after from (Joiner m) c = c
controller_after from (Feeder m) c = c
controller_after from (Collector m) c = c

-- the posts for the lines of its journal
abbrev pub journal_posts : ControllerState → List Post
journal_posts c = posts_by c.rules (reverse c.journal)

-- it posts those for its new lines
abbrev pub new_posts : ControllerState → ControllerState → List Post
new_posts old new = drop (length (journal_posts old)) (journal_posts new)

-- ---- the collector

-- the collector keeps what a joiner's message carries, and posts nothing
abbrev pub collector_after : Actor → Msg → CollectorState → CollectorState
collector_after from (Collector m) c = collector_state_after from m c
collector_after from (Joiner m) c = c
collector_after from (Feeder m) c = c
collector_after from (Controller m) c = c

-- ---- an event

-- the machine after it took a message of this sender
abbrev pub after_message : Actor → Msg → Core → Core
after_message from msg (TheFeeder f) = TheFeeder (feeder_after msg f)
after_message from msg (TheJoiner j) = TheJoiner (joiner_after from msg j)
after_message from msg (TheController c) = TheController (controller_after from msg c)
after_message from msg (TheCollector c) = TheCollector (collector_after from msg c)

-- what it posts
abbrev pub message_posts : Actor → Msg → Core → List Post
message_posts from msg (TheFeeder f) = feeder_posts msg f
message_posts from msg (TheJoiner j) = joiner_posts from msg j
message_posts from msg (TheController c) = new_posts c (controller_after from msg c)
message_posts from msg (TheCollector c) = []

-- the machine after it began: a feeder alone begins
abbrev pub after_beginning : Core → Core
after_beginning (TheFeeder f) = TheFeeder (feeder_begun f)
after_beginning (TheJoiner j) = TheJoiner j
after_beginning (TheController c) = TheController c
after_beginning (TheCollector c) = TheCollector c

-- what it posts
abbrev pub beginning_posts : Core → List Post
beginning_posts (TheFeeder f) = begun_posts f
beginning_posts (TheJoiner j) = []
beginning_posts (TheController c) = []
beginning_posts (TheCollector c) = []

-- the machine after an event
abbrev pub core_after : Cause → Core → Core
core_after (Took from msg) core = after_message from msg core
core_after Began core = after_beginning core

-- and what the event posts
abbrev pub core_posts : Cause → Core → List Post
core_posts (Took from msg) core = message_posts from msg core
core_posts Began core = beginning_posts core
