use Rattle.std.proofs.Common.{◌≡◌, ◌<◌, ℕ, None, slice_index_or}
use Rattle.ring_runtime.specs.Seats.{known_at}
use Rattle.ring_runtime.proofs.inlets.any_known.Given as goal

abbrev pub invariant-loop-slot : goal.invariant-loop-slot
invariant-loop-slot l = (n : ℕ) → n < l.slot-index → known_at (slice_index_or l.slots n None) ≡ 0
