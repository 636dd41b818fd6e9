use Rattle.ring_runtime.specs.Seats.{RingSeatView}
use Rattle.ring_runtime.proofs.SeatTurns.{made_turn}
use Rattle.ring_runtime.proofs.seat.RingSeat.event.Goals as goal

pub returns-in_ok-post_all-clause-took : goal.returns-in_ok-post_all-clause-took
returns-in_ok-post_all-clause-took c is =
    let own = c.self.inside in
    let caused = rw c.if-took.true at c.in_ok-took.ensures.opens in
    let v : RingSeatView = record {
      cast = own.cast;
      actor = own.actor;
      core = own.core;
      ins = own.ins;
      outs = own.outs;
      spent = own.spent;
    } in
    rw (← c.self.view_is)
    (made_turn v c.open.new.core c.open.new.ins c.post_all.new.self c.new-sends.result c.open.new.sends caused
    c.new-sends.ensures c.in_ok-post_all.ensures.sent)
