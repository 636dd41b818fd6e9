use Rattle.epoch_tags.specs.declared.actor.Actor.TheVariants.{Feeder, Joiner}
use Rattle.link_trace.specs.declared.slots.Slot.TheVariants.{Link}
use Rattle.link_trace.proofs.NumberedLists.{one_more}
use Rattle.link_trace.proofs.slots.add_to_joiners.Goals as goal

pub loop-j-preserved : goal.loop-j-preserved
loop-j-preserved c = one_more (λ j. Link (Feeder c.args.p) (Joiner j))
    c.args.slots.now.items c.loop-j.slots.items _ c.loop-j.j c.loop-j.invariant c.in_ok-push.ensures.items
