use Rattle.std.proofs.Common.{subst, sym}
use Rattle.std.proofs.lemmas.Result.{IfOk-weaker}
use Rattle.actor_core.specs.Lists.{no_lists}
use Rattle.actor_core.specs.Players.{AllStand}
use Rattle.actor_core.specs.Rests.{task_upto}
use Rattle.actor_core.proofs.LaterEnds.{stands_upto}
use Rattle.link_trace.specs.Worlds.{AllJoinBy, StandsFor}
use Rattle.link_trace.proofs.Beginnings.{new_stands}
use Rattle.link_trace.proofs.world.World.start_at.Goals as goal

pub cores_in_wave-requires-clause-end : goal.cores_in_wave-requires-clause-end
cores_in_wave-requires-clause-end c = c.requires.end.within

pub cores_in_wave-requires-clause-rest : goal.cores_in_wave-requires-clause-rest
cores_in_wave-requires-clause-rest c =
    stands_upto c.args.end c.args.input.now c.args.setting.now c.args.rest c.requires.end c.requires.rest

pub of_cores-requires-clause-new : goal.of_cores-requires-clause-new
of_cores-requires-clause-new c =
    let task = task_upto c.args.end c.args.input.now c.args.setting.now c.args.rest in
    record {
      task = task;
      stand = subst (λ cast. AllStand task cast c.in_ok-cores.cores.items (λ actor. no_lists))
          (sym c.of-cast.ensures.of) c.in_ok-cores.ensures.stands;
    }

pub returns-clause-fresh : goal.returns-clause-fresh
returns-clause-fresh c =
    let task = task_upto c.args.end c.args.input.now c.args.setting.now c.args.rest in
    let cores = c.in_ok-cores.cores.items in
    let stand = subst (λ cast. AllStand task cast cores (λ actor. no_lists)) (sym c.of-cast.ensures.of)
    c.in_ok-cores.ensures.stands in
    IfOk-weaker c.of_cores.result _ _
    (λ world is. subst (λ w. StandsFor task w (λ actor. no_lists)) (sym is)
    (new_stands task c.of-cast.result cores stand)) c.of_cores.ensures.state

pub returns-clause-joins : goal.returns-clause-joins
returns-clause-joins c =
    IfOk-weaker c.of_cores.result _ _
    (λ world is. subst (AllJoinBy c.args.input.now.theta) (sym is)
    (λ n core there. (c.in_ok-cores.ensures.made.each n core there).joins)) c.of_cores.ensures.state
