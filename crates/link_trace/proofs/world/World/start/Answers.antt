use Rattle.std.proofs.Common.{subst, sym}
use Rattle.std.proofs.lemmas.Result.{IfOk-weaker}
use Rattle.actor_core.specs.Lists.{no_lists}
use Rattle.actor_core.specs.Tasks.{task_of}
use Rattle.link_trace.specs.FirstWorlds.{IsFirstWorld}
use Rattle.link_trace.specs.Worlds.{StandsFor}
use Rattle.link_trace.proofs.Beginnings.{new_stand, new_stands, world_begun}
use Rattle.link_trace.proofs.world.World.start.Goals as goal

pub of_cores-requires-clause-new : goal.of_cores-requires-clause-new
of_cores-requires-clause-new c =
    let task = task_of c.args.input.now c.args.setting.now in
    record {
      task = task;
      stand = new_stand task c.of-cast.result _ c.in_ok-cores.cores.items c.of-cast.ensures.of c.count-count.ensures
          c.in_ok-cores.ensures.new;
    }

pub returns-clause-fresh : goal.returns-clause-fresh
returns-clause-fresh c =
    let task = task_of c.args.input.now c.args.setting.now in
    let cores = c.in_ok-cores.cores.items in
    let stand = new_stand task c.of-cast.result _ cores c.of-cast.ensures.of c.count-count.ensures
    c.in_ok-cores.ensures.new in
    IfOk-weaker c.of_cores.result _ _
    (λ world is. subst (λ w. StandsFor task w (λ actor. no_lists)) (sym is)
    (new_stands task c.of-cast.result cores stand)) c.of_cores.ensures.state

pub returns-clause-first : goal.returns-clause-first
returns-clause-first c =
    let task = task_of c.args.input.now c.args.setting.now in
    IfOk-weaker c.of_cores.result _ _
    (λ world is. subst (IsFirstWorld task) (sym is)
    (world_begun task c.of-cast.result _ c.in_ok-cores.cores.items c.of-cast.ensures.of c.count-count.ensures
    c.in_ok-cores.ensures.begun)) c.of_cores.ensures.state
