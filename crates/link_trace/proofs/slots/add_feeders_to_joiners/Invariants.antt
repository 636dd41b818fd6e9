use Rattle.std.proofs.Common.{◌≡◌, ◌++◌}
use Rattle.std.specs.Prelude.{flat_map}
use Rattle.std.specs.List.{range_with_len}
use Rattle.link_trace.specs.Order.{to_joiners}
use Rattle.link_trace.proofs.slots.add_feeders_to_joiners.Given as goal

abbrev pub invariant-loop-p : goal.invariant-loop-p
invariant-loop-p l = l.slots.items ≡ l.initial.slots.items ++ flat_map (to_joiners l.joiners) (range_with_len 0 l.p)
