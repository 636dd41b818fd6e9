use Rattle.std.proofs.Common.{◌≡◌, ℕ, None, length, slice_index_or}
use Rattle.join_runtime.proofs.seat.no_mouths.Given as goal

abbrev pub invariant-loop : goal.invariant-loop
invariant-loop l = record {
  many : length l.mouths.items ≡ l.counter;
  none : (n : ℕ) → slice_index_or l.mouths.items n None ≡ None;
}
