use Rattle.ring_runtime.proofs.FlushedRows.{FlushesSome}
use Rattle.ring_runtime.proofs.outlets.flush_each.Given as goal

abbrev pub invariant-loop-place : goal.invariant-loop-place
invariant-loop-place l = FlushesSome l.place l.moved l.initial.slots l.slots
