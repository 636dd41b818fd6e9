use Rattle.actor_core.specs.Rests.{AreMade, task_upto}
use Rattle.actor_core.proofs.waves.feeders_in_wave.Given as goal

abbrev pub invariant-loop-p : goal.invariant-loop-p
invariant-loop-p l = AreMade (task_upto l.end l.input l.setting l.rest) l.p l.cores.items
