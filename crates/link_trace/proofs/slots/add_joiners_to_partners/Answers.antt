use Rattle.link_trace.specs.Order.{to_partners}
use Rattle.link_trace.proofs.NumberedLists.{more}
use Rattle.link_trace.proofs.slots.add_joiners_to_partners.Goals as goal

pub loop-i-preserved : goal.loop-i-preserved
loop-i-preserved c = more (to_partners c.args.k) c.args.slots.now.items c.loop-i.slots.items _ c.loop-i.i
    c.loop-i.invariant c.in_ok-add_to_partners.ensures
