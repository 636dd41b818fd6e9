use Rattle.std.proofs.Common.{◌≡◌, ◌++◌, length}
use Rattle.join_runtime.specs.Seating.{AreNew}
use Rattle.join_runtime.proofs.seating.new_seats.Given as goal

abbrev pub invariant-loop-core : goal.invariant-loop-core
invariant-loop-core l = record {
  left : l.yielded ++ l.core-iterator.rest.items ≡ l.fn.cores.items;
  number : l.n ≡ length l.yielded;
  new : AreNew l.cast (length l.yielded) l.yielded l.seats.items l.all_mouths.items;
}
