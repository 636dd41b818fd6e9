use Rattle.std.proofs.Common.{◌≡◌, ℕ, ◌≤◌, [], length, slice_index_or}
use Rattle.join_runtime.specs.Seating.{AreFilled}
use Rattle.join_runtime.proofs.seating.give_all.Given as goal

abbrev pub invariant-loop-receiver : goal.invariant-loop-receiver
invariant-loop-receiver l = record {
  filled : AreFilled l.cast l.receiver l.initial.mouths.items l.initial.seats.items l.seats.items;
  long : length l.mouths.items ≡ length l.initial.mouths.items;
  rest : (r : ℕ) → l.receiver ≤ r → slice_index_or l.mouths.items r [] ≡ slice_index_or l.initial.mouths.items r [];
}
