use Rattle.std.proofs.Common.{◌≡◌, ◌++◌}
use Rattle.link_trace.specs.Order.{from_joiners}
use Rattle.link_trace.proofs.slots.add_from_joiners.Given as goal

abbrev pub invariant-loop-i : goal.invariant-loop-i
invariant-loop-i l = l.slots.items ≡ l.initial.slots.items ++ from_joiners l.i l.to
