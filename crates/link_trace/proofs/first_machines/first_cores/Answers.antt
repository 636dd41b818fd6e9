use Rattle.std.proofs.Common.{◌+◌, subst, sym}
use Rattle.actor_core.specs.Tasks.{task_of}
use Rattle.link_trace.specs.FirstWorlds.{AreNew, HaveBegun}
use Rattle.link_trace.proofs.Beginnings.{one_each}
use Rattle.link_trace.proofs.first_machines.first_cores.Goals as goal

pub loop-n-preserved : goal.loop-n-preserved
loop-n-preserved c =
    let task = task_of c.args.input.now c.args.setting.now in
    let items = sym c.in_ok-push.ensures.items in
    let n = c.loop-n.n in
    record {
      new = subst (AreNew task (n + 1)) items
          (one_each _ n c.loop-n.cores.items c.in_ok-core.core c.loop-n.invariant.new c.in_ok-core.ensures.stands);
      begun = subst (HaveBegun task (n + 1)) items
          (one_each _ n c.loop-n.cores.items c.in_ok-core.core c.loop-n.invariant.begun c.in_ok-core.ensures.first);
    }
