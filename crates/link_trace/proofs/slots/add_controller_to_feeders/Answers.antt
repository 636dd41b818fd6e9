use Rattle.epoch_tags.specs.declared.actor.Actor.TheVariants.{Feeder, Controller}
use Rattle.link_trace.specs.declared.slots.Slot.TheVariants.{Link}
use Rattle.link_trace.proofs.NumberedLists.{one_more}
use Rattle.link_trace.proofs.slots.add_controller_to_feeders.Goals as goal

pub loop-p-preserved : goal.loop-p-preserved
loop-p-preserved c = one_more (λ p. Link Controller (Feeder p))
    c.args.slots.now.items c.loop-p.slots.items _ c.loop-p.p c.loop-p.invariant c.in_ok-push.ensures.items
