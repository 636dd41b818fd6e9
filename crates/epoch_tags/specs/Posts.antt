-- Of what a machine answers, what goes to whom.
use Rattle.std.specs.Prelude.{◌==◌, ℕ, ⊤, Option, Some, None, List, All, filter_map, if◌then◌else◌}
use Rattle.epoch_tags.specs.declared.actor.Actor.{Actor}
use Rattle.epoch_tags.specs.declared.actor.Actor.TheVariants.{Feeder as Feeder', Joiner as Joiner'}
use Rattle.epoch_tags.specs.declared.actor.Actor.TheVariants.{Controller as Controller', Collector as Collector'}
use Rattle.epoch_tags.specs.declared.message.Msg.{Msg}
use Rattle.epoch_tags.specs.declared.message.Msg.TheVariants.{Joiner, Feeder, Controller, Collector}
use Rattle.epoch_tags.specs.declared.message.Post.{Post}
use Rattle.epoch_tags.specs.declared.message.ToFeeder.{ToFeeder}
use Rattle.epoch_tags.specs.declared.message.ToJoiner.{ToJoiner}
use Rattle.epoch_tags.specs.declared.message.ToController.{ToController}
use Rattle.epoch_tags.specs.declared.message.ToCollector.{ToCollector}
use Rattle.epoch_tags.specs.Links.{HasLink}

-- the message, where it is one to a joiner
abbrev pub joiner_msg : Msg → Option ToJoiner
joiner_msg (Joiner m) = Some m
joiner_msg (Feeder m) = None
joiner_msg (Controller m) = None
joiner_msg (Collector m) = None

-- where it is one to the controller
abbrev pub controller_msg : Msg → Option ToController
controller_msg (Joiner m) = None
controller_msg (Feeder m) = None
controller_msg (Controller m) = Some m
controller_msg (Collector m) = None

-- the message of a post to this actor, where it is for joiner j
abbrev pub for_joiner : ℕ → Actor → Msg → Option ToJoiner
for_joiner j (Feeder' p) m = None
for_joiner j (Joiner' id) m = if id == j then joiner_msg m else None
for_joiner j Controller' m = None
for_joiner j Collector' m = None

-- and where it is for the controller
abbrev pub for_controller : Actor → Msg → Option ToController
for_controller (Feeder' p) m = None
for_controller (Joiner' id) m = None
for_controller Controller' m = controller_msg m
for_controller Collector' m = None

-- what the posts carry to joiner j, in their order
abbrev pub posted_to_joiner : ℕ → List Post → List ToJoiner
posted_to_joiner j posts = filter_map (λ post. for_joiner j post.to post.msg) posts

-- what they carry to the controller
abbrev pub posted_to_controller : List Post → List ToController
posted_to_controller posts = filter_map (λ post. for_controller post.to post.msg) posts

-- the message, where it is one to the collector
abbrev pub collector_msg : Msg → Option ToCollector
collector_msg (Joiner m) = None
collector_msg (Feeder m) = None
collector_msg (Controller m) = None
collector_msg (Collector m) = Some m

-- the message of a post to this actor, where it is for the collector
abbrev pub for_collector : Actor → Msg → Option ToCollector
for_collector (Feeder' p) m = None
for_collector (Joiner' id) m = None
for_collector Controller' m = None
for_collector Collector' m = collector_msg m

-- what the posts carry to the collector
abbrev pub posted_to_collector : List Post → List ToCollector
posted_to_collector posts = filter_map (λ post. for_collector post.to post.msg) posts

-- the message, where it is one to a feeder
abbrev pub feeder_msg : Msg → Option ToFeeder
feeder_msg (Joiner m) = None
feeder_msg (Feeder m) = Some m
feeder_msg (Controller m) = None
feeder_msg (Collector m) = None

-- the message of a post to this actor, where it is for feeder p
abbrev pub for_feeder : ℕ → Actor → Msg → Option ToFeeder
for_feeder p (Feeder' id) m = if id == p then feeder_msg m else None
for_feeder p (Joiner' id) m = None
for_feeder p Controller' m = None
for_feeder p Collector' m = None

-- what the posts carry to feeder p
abbrev pub posted_to_feeder : ℕ → List Post → List ToFeeder
posted_to_feeder p posts = filter_map (λ post. for_feeder p post.to post.msg) posts

-- ---- over which links

-- the message is of the kind that this actor takes
abbrev pub IsOfKind : Actor → Msg → Type 0
IsOfKind (Feeder' p) (Joiner m) = ⊥
IsOfKind (Feeder' p) (Feeder m) = ⊤
IsOfKind (Feeder' p) (Controller m) = ⊥
IsOfKind (Feeder' p) (Collector m) = ⊥
IsOfKind (Joiner' j) (Joiner m) = ⊤
IsOfKind (Joiner' j) (Feeder m) = ⊥
IsOfKind (Joiner' j) (Controller m) = ⊥
IsOfKind (Joiner' j) (Collector m) = ⊥
IsOfKind Controller' (Joiner m) = ⊥
IsOfKind Controller' (Feeder m) = ⊥
IsOfKind Controller' (Controller m) = ⊤
IsOfKind Controller' (Collector m) = ⊥
IsOfKind Collector' (Joiner m) = ⊥
IsOfKind Collector' (Feeder m) = ⊥
IsOfKind Collector' (Controller m) = ⊥
IsOfKind Collector' (Collector m) = ⊤

-- the post goes over a link of this actor, one of 2 ^ k joiners and so many feeders, and is of that link's kind
pub record GoesOver (k feeders : ℕ) (self : Actor) (post : Post) : Type 0 where
  pub link : HasLink k feeders self post.to
  pub kind : IsOfKind post.to post.msg

-- so does each of the posts
abbrev pub AllGoOver : ℕ → ℕ → Actor → List Post → Type 0
AllGoOver k feeders self posts = All (GoesOver k feeders self) posts
