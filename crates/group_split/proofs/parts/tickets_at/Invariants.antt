use Rattle.std.proofs.Common.{◌≡◌, map, take}
use Rattle.std.specs.Prelude.{slice_index}
use Rattle.group_split.proofs.parts.tickets_at.Given as goal

abbrev pub invariant-loop-index : goal.invariant-loop-index
invariant-loop-index l = l.chosen ≡ map (slice_index l.tickets) (take l.index-index l.index-items)
