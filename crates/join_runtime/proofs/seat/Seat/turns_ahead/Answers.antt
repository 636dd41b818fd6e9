use Rattle.std.proofs.Common.{◌∙◌, Ok, ap}
use Rattle.join_runtime.proofs.SeatTurns.{steps_more}
use Rattle.join_runtime.proofs.seat.Seat.turns_ahead.Goals as goal

pub loop-round-preserved : goal.loop-round-preserved
loop-round-preserved g c =
    let is = ap Ok c.in-Ok-Took.field-0-is in
    record {
      steps = steps_more c.args.self.now c.loop-round.self c.turn.new.self c.loop-round.invariant.steps
          (c.in-Ok-Took.ensures.took is);
      frame = c.in-Ok-Took.ensures.frame ∙ c.loop-round.invariant.frame;
    }
