use Rattle.std.proofs.Common.{◌≡◌}
use Rattle.link_trace.specs.States.{state_of}
use Rattle.link_trace.specs.Marks.{AreMarked}
use Rattle.link_trace.specs.Starving.{AreIdleBelow}
use Rattle.link_trace.proofs.starving.make_least.Given as goal

abbrev pub invariant-loop-at : goal.invariant-loop-at
invariant-loop-at l = record {
  marked : AreMarked l.slots l.marks.items (state_of l.world);
  same : state_of l.world ≡ state_of l.initial.world;
  idle : AreIdleBelow l.all l.starved l.slots l.at (state_of l.initial.world);
}
