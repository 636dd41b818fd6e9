use Rattle.std.proofs.Common.{◌≡◌, ◌≤◌, ℕ, None, slice_index_or}
use Rattle.ring_runtime.specs.Seats.{RingSeatView}
use Rattle.ring_runtime.specs.Joins.{AllHoldIn}
use Rattle.ring_runtime.proofs.holding.hold_row.Given as goal

abbrev pub invariant-loop-place : goal.invariant-loop-place
invariant-loop-place l = record {
  done : AllHoldIn l.sender l.place l.initial.outs.items l.initial.seats l.outs.items l.seats;
  rest : (r : ℕ) (d : RingSeatView) → l.place ≤ r → slice_index_or l.seats r d ≡ slice_index_or l.initial.seats r d;
  rest_out : (r : ℕ) → l.place ≤ r → slice_index_or l.outs.items r None ≡ slice_index_or l.initial.outs.items r None;
}
