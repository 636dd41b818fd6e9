use Rattle.std.proofs.Common.{◌≡◌, ℕ, ◌<◌, false, slice_index_or}
use Rattle.ring_runtime.specs.Seats.{RingSeatView}
use Rattle.ring_runtime.proofs.bouts.any_spent.Given as goal

abbrev pub invariant-loop-seat : goal.invariant-loop-seat
invariant-loop-seat l = (n : ℕ) (d : RingSeatView) → n < l.seat-index → (slice_index_or l.seats n d).spent ≡ false
