use Rattle.std.proofs.Common.{◌∙◌, rules, sym}
use Rattle.ring_runtime.specs.Seats.{RingSeatView}
use Rattle.ring_runtime.proofs.SeatTurns.{turn_flushed}
use Rattle.ring_runtime.proofs.seat.RingSeat.turn.Goals.{in-true-default, in-false-true, in-false-false}
use Rattle.ring_runtime.proofs.seat.RingSeat.turn.Goals as goal

pub returns-clause-took : goal.returns-clause-took
returns-clause-took g c is =
    let own = c.self.inside in
    let then = c.self-2.inside in
    let old : RingSeatView = record {
      cast = own.cast;
      actor = own.actor;
      core = own.core;
      ins = own.ins;
      outs = own.outs;
      spent = own.spent;
    } in
    let new : RingSeatView = record {
      cast = then.cast;
      actor = then.actor;
      core = then.core;
      ins = then.ins;
      outs = then.outs;
      spent = then.spent;
    } in
    elim c.if-took.branch [
      | in-true-default w ↦
          let made = c.in_ok-took.ensures.took (search rules) in
          rw (← c.self.view_is)
          (turn_flushed old c.flush-moved.new.self new c.flush-moved.ensures.same (rw (← c.self-2.view_is) at made))
      | in-false-true w ↦ let never = sym w.result-is ∙ is in absurd (cc never)
      | in-false-false w ↦ let never = sym w.result-is ∙ is in absurd (cc never)
    ]
