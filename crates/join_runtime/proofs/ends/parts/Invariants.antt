use Rattle.std.proofs.Common.{◌≡◌, map}
use Rattle.join_runtime.specs.Views.{SeatView}
use Rattle.join_runtime.specs.Endings.{end_of}
use Rattle.join_runtime.proofs.ends.parts.Given as goal

abbrev pub invariant-loop-seat : goal.invariant-loop-seat
invariant-loop-seat l = record {
  cores : l.cores.items ≡ map (λ (s : SeatView). s.core) l.yielded;
  ends : l.ends.items ≡ map end_of l.yielded;
}
