use Rattle.std.proofs.Common.{rules}
use Rattle.ring_runtime.proofs.SeatTurns.{progress_took, progress_moved}
use Rattle.ring_runtime.proofs.seat.RingSeat.turns.Goals.{in-Ok-Took, in-Ok-Moved}
use Rattle.ring_runtime.proofs.seat.RingSeat.turns.Goals as goal

pub loop-round-preserved : goal.loop-round-preserved
loop-round-preserved g c = elim c.match-turn-2.branch [
  | in-Ok-Took w ↦
      progress_took c.loop-round.round c.args.self.now c.loop-round.self c.turn.new.self c.loop-round.invariant
      (c.turn.ensures.took (search rules)).event c.turn.ensures.frame
  | in-Ok-Moved w ↦
      progress_moved c.loop-round.round c.args.self.now c.loop-round.self c.turn.new.self c.loop-round.invariant
      (c.turn.ensures.moved (search rules)) (search rules) c.turn.ensures.frame
]
