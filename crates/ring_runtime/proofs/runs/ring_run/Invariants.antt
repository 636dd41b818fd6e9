use Rattle.actor_core.specs.Tasks.{task_of}
use Rattle.ring_runtime.proofs.UnderWay.{IsUnderWay}
use Rattle.ring_runtime.proofs.runs.ring_run.Given as goal

abbrev pub invariant-loop-bouts : goal.invariant-loop-bouts
invariant-loop-bouts g l = IsUnderWay (task_of l.input l.setting) l.seats l.bouts
