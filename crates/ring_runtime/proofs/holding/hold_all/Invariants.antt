use Rattle.ring_runtime.specs.Joins.{HoldsBelow}
use Rattle.ring_runtime.proofs.holding.hold_all.Given as goal

abbrev pub invariant-loop-sender : goal.invariant-loop-sender
invariant-loop-sender l = HoldsBelow l.sender l.initial.seats l.seats
