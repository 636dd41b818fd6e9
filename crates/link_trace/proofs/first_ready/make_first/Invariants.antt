use Rattle.std.proofs.Common.{◌≡◌}
use Rattle.link_trace.specs.States.{state_of}
use Rattle.link_trace.specs.Order.{AreIdleFrom}
use Rattle.link_trace.specs.Marks.{AreMarked}
use Rattle.link_trace.proofs.first_ready.make_first.Given as goal

abbrev pub invariant-loop-i : goal.invariant-loop-i
invariant-loop-i l = record {
  marked : AreMarked l.slots l.marks.items (state_of l.world);
  same : state_of l.world ≡ state_of l.initial.world;
  idle : AreIdleFrom l.slots l.word l.i (state_of l.initial.world);
}
