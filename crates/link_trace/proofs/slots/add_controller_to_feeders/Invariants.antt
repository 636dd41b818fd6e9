use Rattle.std.proofs.Common.{◌≡◌, ◌++◌, map}
use Rattle.std.specs.List.{range_with_len}
use Rattle.epoch_tags.specs.declared.actor.Actor.TheVariants.{Feeder, Controller}
use Rattle.link_trace.specs.declared.slots.Slot.TheVariants.{Link}
use Rattle.link_trace.proofs.slots.add_controller_to_feeders.Given as goal

abbrev pub invariant-loop-p : goal.invariant-loop-p
invariant-loop-p l = l.slots.items ≡ l.initial.slots.items ++ map (λ p. Link Controller (Feeder p))
    (range_with_len 0 l.p)
