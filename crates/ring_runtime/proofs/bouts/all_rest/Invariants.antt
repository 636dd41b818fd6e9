use Rattle.std.proofs.Common.{ℕ, ◌<◌, slice_index_or}
use Rattle.ring_runtime.specs.Seats.{RingSeatView}
use Rattle.ring_runtime.specs.Bouts.{IsAtRest}
use Rattle.ring_runtime.proofs.bouts.all_rest.Given as goal

abbrev pub invariant-loop-seat : goal.invariant-loop-seat
invariant-loop-seat l = (n : ℕ) (d : RingSeatView) → n < l.seat-index → IsAtRest (slice_index_or l.seats n d)
