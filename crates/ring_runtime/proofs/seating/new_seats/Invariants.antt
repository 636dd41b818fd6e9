use Rattle.actor_core.specs.Tasks.{task_of}
use Rattle.ring_runtime.specs.Wiring.{AreNewSeats}
use Rattle.ring_runtime.proofs.seating.new_seats.Given as goal

abbrev pub invariant-loop-n : goal.invariant-loop-n
invariant-loop-n l = AreNewSeats (task_of l.input l.setting) l.n l.seats.items
