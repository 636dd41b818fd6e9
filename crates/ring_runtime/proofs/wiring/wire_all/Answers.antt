use Rattle.ring_runtime.proofs.NewRings.{all_more}
use Rattle.ring_runtime.proofs.wiring.wire_all.Goals as goal

pub loop-from-preserved : goal.loop-from-preserved
loop-from-preserved c =
    all_more c.args.cast c.loop-from.from c.args.seats.now.items c.loop-from.seats.items
    c.wire_from.new.seats.items
    c.loop-from.invariant c.in_ok-wire_from.ensures
