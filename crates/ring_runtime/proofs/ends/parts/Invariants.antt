use Rattle.std.proofs.Common.{◌≡◌, map}
use Rattle.ring_runtime.specs.Seats.{RingSeatView}
use Rattle.ring_runtime.specs.Endings.{end_of}
use Rattle.ring_runtime.proofs.ends.parts.Given as goal

abbrev pub invariant-loop-seat : goal.invariant-loop-seat
invariant-loop-seat l = record {
  cores : l.cores.items ≡ map (λ (s : RingSeatView). s.core) l.yielded;
  ends : l.ends.items ≡ map end_of l.yielded;
}
