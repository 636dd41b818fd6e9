use Rattle.std.proofs.Common.{◌≡◌, ◌++◌}
use Rattle.link_trace.specs.Order.{to_joiners}
use Rattle.link_trace.proofs.slots.add_to_joiners.Given as goal

abbrev pub invariant-loop-j : goal.invariant-loop-j
invariant-loop-j l = l.slots.items ≡ l.initial.slots.items ++ to_joiners l.j l.p
