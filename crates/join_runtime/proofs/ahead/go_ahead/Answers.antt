use Rattle.std.proofs.Common.{◌∙◌}
use Rattle.join_runtime.proofs.SeatBouts.{all_stepped}
use Rattle.join_runtime.proofs.ahead.go_ahead.Goals as goal

pub loop-preserved : goal.loop-preserved
loop-preserved g c = record {
  steps = all_stepped c.args.seats.now c.loop.seats c.round_ahead.new.seats c.loop.auto.seats c.loop.invariant.steps
      c.in_ok-round_ahead.ensures.ok;
  frames = c.round_ahead.ensures.frames ∙ c.loop.invariant.frames;
}
