use Rattle.std.proofs.Common.{◌∙◌, ◌<◌, length, arith}
use Rattle.join_runtime.proofs.SeatBouts.{all_stepped, frames_at, steps_at}
use Rattle.join_runtime.proofs.ahead.round_ahead.Goals as goal

pub returns-in_err-turns_ahead-clause-frames : goal.returns-in_err-turns_ahead-clause-frames
returns-in_err-turns_ahead-clause-frames g c =
    frames_at c.loop-place.seats c.loop-place.place (omega (arith, c.loop-place-test.true, c.loop-place.auto.seats))
    c.index-seats-place.result c.turns_ahead.new.self c.in_err-turns_ahead.ensures.frame
    ∙ c.loop-place.invariant.frames

pub loop-place-preserved : goal.loop-place-preserved
loop-place-preserved g c =
    let seats = c.loop-place.seats in
    let place = c.loop-place.place in
    let low : place < length seats = omega (arith, c.loop-place-test.true, c.loop-place.auto.seats) in
    let s = c.index-seats-place.result in
    let t = c.turns_ahead.new.self in
    record {
      steps = all_stepped c.args.seats.now seats _ c.loop-place.auto.seats c.loop-place.invariant.steps
          (steps_at seats place low s t c.in_ok-turns_ahead.ensures.ok);
      frames = frames_at seats place low s t c.in_ok-turns_ahead.ensures.frame ∙ c.loop-place.invariant.frames;
    }
