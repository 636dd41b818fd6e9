use Rattle.std.proofs.Common.{◌≡◌, map, take}
use Rattle.trace_law.specs.Family.{tuple_of}
use Rattle.actor_core.proofs.start.load.Given as goal

abbrev pub invariant-loop-place : goal.invariant-loop-place
invariant-loop-place l = l.tuples ≡ map (tuple_of l.input 0) (take l.place-index l.place-items)
