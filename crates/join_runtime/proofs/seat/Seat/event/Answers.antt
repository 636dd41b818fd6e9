use Rattle.std.proofs.Common.{rules}
use Rattle.join_runtime.specs.Views.{SeatView}
use Rattle.join_runtime.proofs.SeatTurns.{made_turn}
use Rattle.join_runtime.proofs.Served.{posts_served, served_after}
use Rattle.join_runtime.proofs.seat.Seat.event.Goals as goal

pub put_all-requires : goal.put_all-requires
put_all-requires g c =
    let own = c.self.inside in
    let caused = rw c.in-Took.is at c.in_ok-open.ensures.opens in
    let served = rw (← c.self.view_is) at c.requires.served in
    posts_served own.cast own.mouths.items caused.cause own.core c.open.new.core caused.occurs.added
    c.new-sends.result c.open.new.sends c.new-sends.ensures caused.occurs.sends caused.occurs.event served

pub returns-in_ok-put_all-in-Took-clause-served : goal.returns-in_ok-put_all-in-Took-clause-served
returns-in_ok-put_all-in-Took-clause-served g c =
    let own = c.self.inside in
    let caused = rw c.in-Took.is at c.in_ok-open.ensures.opens in
    let served = rw (← c.self.view_is) at c.requires.served in
    served_after own.cast own.mouths.items c.put_all.new.mouths.items
    c.in_ok-put_all-in-Took.ensures.same
    caused.cause own.core c.open.new.core caused.occurs.added caused.occurs.event served

pub returns-in_ok-put_all-in-Took-clause-took : goal.returns-in_ok-put_all-in-Took-clause-took
returns-in_ok-put_all-in-Took-clause-took g c is =
    let own = c.self.inside in
    let caused = rw c.in-Took.is at c.in_ok-open.ensures.opens in
    let v : SeatView = record {
      cast = own.cast;
      actor = own.actor;
      core = own.core;
      inbox = own.inbox;
      mouths = own.mouths.items;
      spent = own.spent;
    } in
    let sent = c.in_ok-put_all-in-Took.ensures.sent in
    rw (← c.self.view_is)
    (made_turn v c.open.new.core c.open.new.inbox c.put_all.new.mouths.items c.new-sends.result c.open.new.sends caused
    c.new-sends.ensures sent (search rules))
