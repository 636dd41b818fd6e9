use Rattle.std.proofs.Common.{◌≡◌, ℕ, ◌<◌, ◌≤◌, None, slice_index_or}
use Rattle.join_runtime.specs.Views.{SeatView}
use Rattle.join_runtime.specs.Joins.{Tells}
use Rattle.join_runtime.proofs.gathered.gather_row.Given as goal

abbrev pub invariant-loop-place : goal.invariant-loop-place
invariant-loop-place g l = record {
  mouths : l.mouths.items ≡ l.initial.mouths.items;
  told : (r : ℕ) (d : SeatView) → r < l.place → Tells (slice_index_or l.initial.mouths.items r None)
      (slice_index_or l.initial.seats r d) (slice_index_or l.seats r d);
  rest : (r : ℕ) (d : SeatView) → l.place ≤ r → slice_index_or l.seats r d ≡ slice_index_or l.initial.seats r d;
}
