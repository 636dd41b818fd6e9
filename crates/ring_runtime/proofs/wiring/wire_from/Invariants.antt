use Rattle.ring_runtime.specs.Wiring.{WiresRow}
use Rattle.ring_runtime.proofs.wiring.wire_from.Given as goal

abbrev pub invariant-loop-to : goal.invariant-loop-to
invariant-loop-to l = WiresRow l.cast l.from l.to l.initial.seats.items l.seats.items
