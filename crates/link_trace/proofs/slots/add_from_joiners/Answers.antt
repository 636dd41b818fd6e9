use Rattle.epoch_tags.specs.declared.actor.Actor.TheVariants.{Joiner}
use Rattle.link_trace.specs.declared.slots.Slot.TheVariants.{Link}
use Rattle.link_trace.proofs.NumberedLists.{one_more}
use Rattle.link_trace.proofs.slots.add_from_joiners.Goals as goal

pub loop-i-preserved : goal.loop-i-preserved
loop-i-preserved c = one_more (λ i. Link (Joiner i) c.args.to)
    c.args.slots.now.items c.loop-i.slots.items _ c.loop-i.i c.loop-i.invariant c.in_ok-push.ensures.items
