use Rattle.join_runtime.proofs.seat.Seat.turn.Goals as goal

pub returns-clause-took : goal.returns-clause-took
returns-clause-took g c is =
    let turn = rw (← c.self-2.view_is) at (c.in_ok-step.ensures.took is) in
    rw (← c.self.view_is) (record { event = turn.event; heard = turn.heard; frame = turn.frame })
