use Rattle.join_runtime.proofs.Awake.{AreAwakeBelow}
use Rattle.join_runtime.proofs.seating.wake_all.Given as goal

abbrev pub invariant-loop-place : goal.invariant-loop-place
invariant-loop-place l = AreAwakeBelow l.place l.initial.seats.items l.seats.items
