use Rattle.std.proofs.Common.{◌≡◌, ◌++◌, map}
use Rattle.epoch_tags.specs.declared.actor.Actor.{Actor}
use Rattle.actor_core.specs.Lists.{posted_to}
use Rattle.join_runtime.specs.Views.{address_of, sent_through}
use Rattle.join_runtime.proofs.mouths.put_all.Given as goal

abbrev pub invariant-loop-post : goal.invariant-loop-post
invariant-loop-post g l = record {
  left : l.yielded ++ l.post-iterator.rest.items ≡ l.fn.sends;
  same : map address_of l.mouths.items ≡ map address_of l.initial.mouths.items;
  sent : (a : Actor) → sent_through l.cast l.mouths.items a
      ≡ sent_through l.cast l.initial.mouths.items a ++ posted_to a l.yielded;
}
