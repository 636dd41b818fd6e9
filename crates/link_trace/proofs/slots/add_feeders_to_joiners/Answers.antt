use Rattle.link_trace.specs.Order.{to_joiners}
use Rattle.link_trace.proofs.NumberedLists.{more}
use Rattle.link_trace.proofs.slots.add_feeders_to_joiners.Goals as goal

pub loop-p-preserved : goal.loop-p-preserved
loop-p-preserved c = more (to_joiners c.args.joiners) c.args.slots.now.items c.loop-p.slots.items _ c.loop-p.p
    c.loop-p.invariant c.in_ok-add_to_joiners.ensures
