use Rattle.std.proofs.Common.{arith}
use Rattle.ring_runtime.proofs.HeldRows.{below_more, ends_still, many_still}
use Rattle.ring_runtime.proofs.holding.hold_all.Goals as goal

pub hold_from-requires-clause-many : goal.hold_from-requires-clause-many
hold_from-requires-clause-many c = many_still c.loop-sender.sender c.args.seats.now c.loop-sender.seats (omega arith)
    c.loop-sender.invariant c.requires.many

pub hold_from-requires-clause-ends : goal.hold_from-requires-clause-ends
hold_from-requires-clause-ends c = ends_still c.loop-sender.sender c.args.seats.now c.loop-sender.seats (omega arith)
    c.loop-sender.invariant c.requires.ends

pub loop-sender-preserved : goal.loop-sender-preserved
loop-sender-preserved c = below_more c.loop-sender.sender c.args.seats.now c.loop-sender.seats c.hold_from.new.seats
    (omega arith) c.loop-sender.invariant c.hold_from.ensures
