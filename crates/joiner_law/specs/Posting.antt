-- What a joiner posts.
use Rattle.std.specs.Prelude.{ℕ}
use Rattle.epoch_tags.specs.declared.actor.Actor.TheVariants.{Joiner as Joiner', Controller as Controller'}
use Rattle.epoch_tags.specs.declared.message.Msg.TheVariants.{Joiner, Controller}
use Rattle.epoch_tags.specs.declared.message.Post.{Post}
use Rattle.epoch_tags.specs.declared.tuple.Tuple.{Tuple}
use Rattle.epoch_tags.specs.declared.message.ToJoiner.TheVariants.{Moved, MovedEnd}
use Rattle.epoch_tags.specs.declared.message.ToController.TheVariants.{Settled}

-- the post of a tuple that is moved in a step
abbrev pub moved_post : ℕ → ℕ → Tuple → Post
moved_post to epoch x = record { to = Joiner' to; msg = Joiner (Moved epoch x) }

-- the post that ends what is moved in a step
abbrev pub moved_end_post : ℕ → ℕ → Post
moved_end_post to epoch = record { to = Joiner' to; msg = Joiner (MovedEnd epoch) }

-- the post that says that a step is settled
abbrev pub settled_post : ℕ → Post
settled_post epoch = record { to = Controller'; msg = Controller (Settled epoch) }
