use Rattle.std.proofs.Common.{◌≡◌, ◌<◌, ◌≤◌, ℕ, None, slice_index_or}
use Rattle.ring_runtime.specs.Seats.{known_at}
use Rattle.ring_runtime.proofs.inlets.take_between.Given as goal

abbrev pub invariant-loop-place : goal.invariant-loop-place
invariant-loop-place l = record {
  same : l.slots ≡ l.initial.slots;
  none : (n : ℕ) → l.low ≤ n → n < l.place → known_at (slice_index_or l.initial.slots n None) ≡ 0;
}
