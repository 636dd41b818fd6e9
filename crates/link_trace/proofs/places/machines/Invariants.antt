use Rattle.std.proofs.Common.{◌≡◌}
use Rattle.link_trace.specs.Worlds.{cores_of}
use Rattle.link_trace.proofs.places.machines.Given as goal

abbrev pub invariant-loop-place : goal.invariant-loop-place
invariant-loop-place l = l.cores.items ≡ cores_of l.yielded
