use Rattle.std.proofs.Common.{◌≡◌, ◌++◌, map}
use Rattle.epoch_tags.specs.declared.actor.Actor.{Actor}
use Rattle.actor_core.specs.Lists.{posted_to}
use Rattle.ring_runtime.specs.Seats.{out_address, sent_through}
use Rattle.ring_runtime.proofs.outlets.Outlets.post_all.Given as goal

abbrev pub invariant-loop-post : goal.invariant-loop-post
invariant-loop-post l = record {
  same : map out_address l.self ≡ map out_address l.initial.self;
  sent : (a : Actor) → sent_through l.cast l.self a
      ≡ sent_through l.cast l.initial.self a ++ posted_to a l.yielded;
}
