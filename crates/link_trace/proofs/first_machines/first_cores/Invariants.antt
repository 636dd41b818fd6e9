use Rattle.actor_core.specs.Tasks.{task_of}
use Rattle.link_trace.specs.FirstWorlds.{AreNew, HaveBegun}
use Rattle.link_trace.proofs.first_machines.first_cores.Given as goal

abbrev pub invariant-loop-n : goal.invariant-loop-n
invariant-loop-n l = record {
  new : AreNew (task_of l.input l.setting) l.n l.cores.items;
  begun : HaveBegun (task_of l.input l.setting) l.n l.cores.items;
}
