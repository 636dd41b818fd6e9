use Rattle.std.proofs.Common.{◌≡◌, ◌++◌}
use Rattle.std.specs.Prelude.{filter, flat_map}
use Rattle.std.specs.Ordering.{int_cmp}
use Rattle.std.specs.BTreeMap.Range.{range_contains}
use Rattle.store_parts.specs.Places.{start_of, end_of}
use Rattle.store_parts.proofs.ordered.gather_ordered.Given as goal

abbrev pub invariant-loop-entry : goal.invariant-loop-entry
invariant-loop-entry l =
    l.found ++ flat_map (λ e. e.1) l.entry-iterator
    ≡ flat_map (λ e. e.1) (filter (λ e. range_contains int_cmp (start_of l.fn.from) (end_of l.fn.to) e.0)
    l.map.entries)
