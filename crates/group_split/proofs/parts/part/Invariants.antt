use Rattle.std.proofs.Common.{◌≡◌}
use Rattle.std.specs.Prelude.{filter, slice_index}
use Rattle.std.specs.List.{range_with_len}
use Rattle.group_split.specs.Sizes.{is_of}
use Rattle.group_split.proofs.parts.part.Given as goal

abbrev pub invariant-loop-index : goal.invariant-loop-index
invariant-loop-index l =
    l.indices ≡ filter (λ i. is_of l.joiners l.group (slice_index l.numbers i)) (range_with_len 0 l.index)
