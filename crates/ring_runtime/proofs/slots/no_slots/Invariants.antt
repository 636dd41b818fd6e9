use Rattle.std.proofs.Common.{◌≡◌, ℕ, None, length, slice_index_or}
use Rattle.ring_runtime.proofs.slots.no_slots.Given as goal

abbrev pub invariant-loop : goal.invariant-loop
invariant-loop g l = record {
  none : (n : ℕ) → slice_index_or l.slots.items n None ≡ None;
  long : length l.slots.items ≡ l.counter;
}
