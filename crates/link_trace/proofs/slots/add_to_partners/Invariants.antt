use Rattle.std.proofs.Common.{◌≡◌, ◌++◌}
use Rattle.link_trace.specs.Order.{to_partners}
use Rattle.link_trace.proofs.slots.add_to_partners.Given as goal

abbrev pub invariant-loop-bit : goal.invariant-loop-bit
invariant-loop-bit l = l.slots.items ≡ l.initial.slots.items ++ to_partners l.bit l.i
