use Rattle.ring_runtime.specs.Wiring.{AreWiredBelow}
use Rattle.ring_runtime.proofs.wiring.wire_all.Given as goal

abbrev pub invariant-loop-from : goal.invariant-loop-from
invariant-loop-from l = AreWiredBelow l.cast l.from l.initial.seats.items l.seats.items
