use Rattle.std.proofs.Common.{◌≡◌, map, take}
use Rattle.std.specs.Prelude.{filter, not}
use Rattle.trace_law.specs.Family.{is_old, tuple_of}
use Rattle.actor_core.proofs.waves.load_of_wave.Given as goal

abbrev pub invariant-loop-place : goal.invariant-loop-place
invariant-loop-place l =
    l.tuples ≡ map (tuple_of l.input 0) (filter (λ place. not (is_old l.line place)) (take l.place-index l.place-items))
