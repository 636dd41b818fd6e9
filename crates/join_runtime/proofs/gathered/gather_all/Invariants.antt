use Rattle.std.proofs.Common.{◌≡◌, ℕ, ◌<◌, length, map, slice_index_or}
use Rattle.join_runtime.specs.Views.{SeatView, frame_of}
use Rattle.join_runtime.specs.Turns.{IsAlike}
use Rattle.join_runtime.specs.Joins.{AreGatheredBelow}
use Rattle.join_runtime.specs.Bouts.{NoneSpent}
use Rattle.join_runtime.proofs.gathered.gather_all.Given as goal

abbrev pub invariant-loop-sender : goal.invariant-loop-sender
invariant-loop-sender g l = record {
  frames : map frame_of l.seats ≡ map frame_of l.initial.seats;
  alike : (n : ℕ) (d : SeatView) → n < length l.initial.seats
      → IsAlike (slice_index_or l.initial.seats n d) (slice_index_or l.seats n d);
  gathered : AreGatheredBelow l.sender l.seats;
  none_spent : NoneSpent l.seats;
}
