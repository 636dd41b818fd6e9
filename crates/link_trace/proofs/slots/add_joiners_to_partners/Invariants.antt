use Rattle.std.proofs.Common.{◌≡◌, ◌++◌}
use Rattle.std.specs.Prelude.{flat_map}
use Rattle.std.specs.List.{range_with_len}
use Rattle.link_trace.specs.Order.{to_partners}
use Rattle.link_trace.proofs.slots.add_joiners_to_partners.Given as goal

abbrev pub invariant-loop-i : goal.invariant-loop-i
invariant-loop-i l = l.slots.items ≡ l.initial.slots.items ++ flat_map (to_partners l.k) (range_with_len 0 l.i)
