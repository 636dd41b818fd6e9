use Rattle.std.proofs.Common.{◌≡◌, ◌<◌, ℕ, None, slice_index_or}
use Rattle.ring_runtime.specs.Seats.{waiting_at}
use Rattle.ring_runtime.proofs.outlets.any_waits.Given as goal

abbrev pub invariant-loop-slot : goal.invariant-loop-slot
invariant-loop-slot l = (n : ℕ) → n < l.slot-index → waiting_at (slice_index_or l.slots n None) ≡ 0
