use Rattle.ring_runtime.proofs.SeatTurns.{Progress}
use Rattle.ring_runtime.proofs.seat.RingSeat.turns.Given as goal

abbrev pub invariant-loop-round : goal.invariant-loop-round
invariant-loop-round g l = Progress l.round l.initial.self l.self
