use Rattle.actor_core.specs.Tasks.{task_of}
use Rattle.join_runtime.specs.Seating.{AreFresh}
use Rattle.join_runtime.proofs.seating.first_cores.Given as goal

abbrev pub invariant-loop-n : goal.invariant-loop-n
invariant-loop-n l = AreFresh (task_of l.input l.setting) l.n l.cores.items
