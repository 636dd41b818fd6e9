use Rattle.std.proofs.Common.{ℕ, ◌<◌, slice_index_or}
use Rattle.join_runtime.specs.Views.{SeatView}
use Rattle.join_runtime.specs.Turns.{Rests}
use Rattle.join_runtime.proofs.bouts.all_rest.Given as goal

abbrev pub invariant-loop-seat : goal.invariant-loop-seat
invariant-loop-seat l = (n : ℕ) (d : SeatView) → n < l.seat-index
    → Rests (slice_index_or l.seats n d).core (slice_index_or l.seats n d).inbox
