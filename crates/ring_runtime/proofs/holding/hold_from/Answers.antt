use Rattle.std.proofs.Common.{length, set, subst}
use Rattle.ring_runtime.specs.Joins.{AllHoldIn}
use Rattle.ring_runtime.proofs.HeldRows.{held_from}
use Rattle.ring_runtime.proofs.holding.hold_from.Goals as goal

pub returns : goal.returns
returns c =
    let seats = c.args.seats.now in
    let sender = c.args.sender in
    rw c.give_outs.ensures
    (held_from seats c.hold_row.new.seats sender c.index-seats-sender.result c.index-seats-sender-2.result
    c.requires.sender c.take_outs-outs.result.items c.hold_row.new.outs.items
    c.take_outs-outs.ensures.outs
    (subst (λ s. AllHoldIn sender (length (set seats sender s)) c.take_outs-outs.result.items (set seats sender s)
    c.hold_row.new.outs.items c.hold_row.new.seats) c.take_outs-outs.ensures.rest c.hold_row.ensures))
