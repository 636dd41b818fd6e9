use Rattle.std.proofs.Common.{◌≡◌}
use Rattle.epoch_tags.specs.declared.message.Post.{Post}
use Rattle.actor_core.specs.Elements.{IsAllAt}
use Rattle.actor_core.specs.Numbers.{count_of}
use Rattle.link_trace.specs.Worlds.{HasNumber, IsSquare, waiting_of, cores_of, with_posts}
use Rattle.link_trace.proofs.sending.send_all.Given as goal

abbrev pub invariant-loop-post : goal.invariant-loop-post
invariant-loop-post l = record {
  cores : cores_of l.places.items ≡ cores_of l.initial.places.items;
  square : IsSquare (count_of l.cast) (waiting_of l.places.items);
  receivers : IsAllAt (λ (post : Post). HasNumber l.cast post.to) l.post-iterator.rest.items;
  waiting : with_posts l.cast l.from l.post-iterator.rest.items (waiting_of l.places.items)
      ≡ with_posts l.cast l.from l.fn.sends (waiting_of l.initial.places.items);
}
