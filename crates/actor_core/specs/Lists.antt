-- What one actor received and sent, link by link, and the typed lists read off.
use Rattle.std.specs.Prelude.{◌==◌, Bool, true, false, Some, None, List, [], ◌∷◌, ◌++◌, filter_map, if◌then◌else◌}
use Rattle.epoch_tags.specs.declared.actor.Actor.{Actor}
use Rattle.epoch_tags.specs.declared.actor.Actor.TheVariants.{Feeder, Joiner, Controller, Collector}
use Rattle.epoch_tags.specs.declared.message.Msg.{Msg}
use Rattle.epoch_tags.specs.declared.message.Post.{Post}
use Rattle.epoch_tags.specs.Posts.{joiner_msg, feeder_msg, controller_msg, collector_msg}
use Rattle.reshuffler_core.specs.Law.{FeederLists}
use Rattle.joiner_law.specs.Law.{JoinerLists}
use Rattle.load_controller.specs.declared.line.TurnLine.{TurnLine}
use Rattle.load_controller.specs.Law.{ControllerLists}
use Rattle.pair_collector.specs.Law.{CollectorLists}

-- what one actor received, sender by sender, and what it sent, receiver by receiver
pub record ActorLists : Type 0 where
  pub received : Actor → List Msg
  pub sent : Actor → List Msg

-- nothing was received and nothing sent
abbrev pub no_lists : ActorLists
no_lists = record { received = λ a. []; sent = λ a. [] }

-- ---- the typed lists

-- of a feeder: what the controller sent it, and what it sent the controller and each joiner
abbrev pub feeder_lists : ActorLists → FeederLists
feeder_lists ls = record {
  received = filter_map feeder_msg (ls.received Controller);
  to_controller = filter_map controller_msg (ls.sent Controller);
  to_joiner = λ j. filter_map joiner_msg (ls.sent (Joiner j));
}

-- of a joiner: what each feeder and each joiner sent it, and what it sent joiners, controller and collector
abbrev pub joiner_lists : ActorLists → JoinerLists
joiner_lists ls = record {
  from_feeder = λ p. filter_map joiner_msg (ls.received (Feeder p));
  from_joiner = λ q. filter_map joiner_msg (ls.received (Joiner q));
  to_joiner = λ j. filter_map joiner_msg (ls.sent (Joiner j));
  to_controller = filter_map controller_msg (ls.sent Controller);
  to_collector = filter_map collector_msg (ls.sent Collector);
}

-- of the controller: what each feeder and joiner sent it, and what it sent each feeder; the journal is the machine's
abbrev pub controller_lists : List TurnLine → ActorLists → ControllerLists
controller_lists journal ls = record {
  from_feeder = λ p. filter_map controller_msg (ls.received (Feeder p));
  from_joiner = λ j. filter_map controller_msg (ls.received (Joiner j));
  to_feeder = λ p. filter_map feeder_msg (ls.sent (Feeder p));
  journal = journal;
}

-- of the collector: what each joiner sent it
abbrev pub collector_lists : ActorLists → CollectorLists
collector_lists ls = record { from_joiner = λ j. filter_map collector_msg (ls.received (Joiner j)) }

-- ---- one event more

-- whether two names are one actor's
abbrev pub same_actor : Actor → Actor → Bool
same_actor (Feeder p) (Feeder q) = p == q
same_actor (Feeder p) (Joiner q) = false
same_actor (Feeder p) Controller = false
same_actor (Feeder p) Collector = false
same_actor (Joiner p) (Feeder q) = false
same_actor (Joiner p) (Joiner q) = p == q
same_actor (Joiner p) Controller = false
same_actor (Joiner p) Collector = false
same_actor Controller (Feeder q) = false
same_actor Controller (Joiner q) = false
same_actor Controller Controller = true
same_actor Controller Collector = false
same_actor Collector (Feeder q) = false
same_actor Collector (Joiner q) = false
same_actor Collector Controller = false
same_actor Collector Collector = true

-- of the posts, the messages to this actor
abbrev pub posted_to : Actor → List Post → List Msg
posted_to a posts = filter_map (λ post. if same_actor post.to a then Some post.msg else None) posts

-- what an actor acts on: a message from that sender, or nothing, where it begins
pub data Cause : Type 0 where
  Took : Actor → Msg → Cause
  Began : Cause

-- what was received, with the message of this cause
abbrev pub with_cause : Cause → (Actor → List Msg) → Actor → List Msg
with_cause (Took from m) f a = if same_actor from a then f a ++ m ∷ [] else f a
with_cause Began f a = f a

-- the lists with the cause received and the posts sent
abbrev pub with_event : Cause → List Post → ActorLists → ActorLists
with_event cause posts ls = record {
  received = with_cause cause ls.received;
  sent = λ a. ls.sent a ++ posted_to a posts;
}
