use Rattle.std.proofs.Common.{◌≡◌, ℕ, ◌<◌, false, slice_index_or}
use Rattle.join_runtime.specs.Views.{SeatView}
use Rattle.join_runtime.proofs.bouts.any_spent.Given as goal

abbrev pub invariant-loop-seat : goal.invariant-loop-seat
invariant-loop-seat l = (n : ℕ) (d : SeatView) → n < l.seat-index → (slice_index_or l.seats n d).spent ≡ false
