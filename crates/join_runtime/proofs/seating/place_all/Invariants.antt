use Rattle.std.proofs.Common.{◌≡◌, ◌++◌}
use Rattle.join_runtime.specs.Seating.{Places}
use Rattle.join_runtime.proofs.seating.place_all.Given as goal

abbrev pub invariant-loop-mouth : goal.invariant-loop-mouth
invariant-loop-mouth l = record {
  left : l.yielded ++ l.mouth-iterator.rest.items ≡ l.fn.mouths;
  placed : Places l.cast l.receiver l.yielded l.initial.seats.items l.seats.items;
}
