use Rattle.std.proofs.Common.{◌≡◌, ◌++◌, map}
use Rattle.std.specs.List.{range_with_len}
use Rattle.link_trace.specs.declared.slots.Slot.TheVariants.{Begin}
use Rattle.link_trace.proofs.slots.add_begins.Given as goal

abbrev pub invariant-loop-p : goal.invariant-loop-p
invariant-loop-p l = l.slots.items ≡ l.initial.slots.items ++ map Begin (range_with_len 0 l.p)
