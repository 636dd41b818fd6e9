use Rattle.std.proofs.lemmas.Result.{IfOk-weaker}
use Rattle.actor_core.specs.Rests.{rest_of, task_upto, upto}
use Rattle.actor_core.proofs.LastLines.{from_three}
use Rattle.actor_core.proofs.LaterEnds.{stands_beyond, stands_upto}
use Rattle.actor_core.proofs.Tasks.{upto_is_task}
use Rattle.actor_core.proofs.UptoEnd.{valid_upto}
use Rattle.link_trace.specs.Order.{MakesDrawn, slots_of}
use Rattle.link_trace.specs.States.{state_of}
use Rattle.link_trace.proofs.Bounds.{bounded}
use Rattle.link_trace.proofs.ReplayLoop.{all_join, drawn_happens, driven, replay_reached}
use Rattle.link_trace.proofs.waves.replay_wave.Goals as goal

pub drive-requires-clause-fresh : goal.drive-requires-clause-fresh
drive-requires-clause-fresh g c =
    let input = c.args.input.now in
    let setting = c.args.setting.now in
    record {
      input = upto c.args.end input;
      rest = rest_of c.args.rest;
      of_input = valid_upto c.args.end input c.requires.end.within c.requires.input;
      begins = (stands_upto c.args.end input setting c.args.rest c.requires.end c.requires.rest).stands;
      stands = c.in_ok-world.ensures.fresh;
    }

pub returns-clause-run : goal.returns-clause-run
returns-clause-run g c =
    let input = c.args.input.now in
    let setting = c.args.setting.now in
    let task = task_upto c.args.end input setting c.args.rest in
    let is_task = upto_is_task c.args.end input setting c.args.rest c.requires.end.within c.requires.input
    c.requires.setting (stands_upto c.args.end input setting c.args.rest c.requires.end c.requires.rest) in
    let by = replay_reached task c.args.seed (state_of c.in_ok-world.world) c.in_ok-world.ensures.fresh
    c.in_ok-events.events (state_of c.drive.new.world) c.in_ok-events.ensures.drives in
    IfOk-weaker c.finish_wave.result _ _ (λ wave is. is task by.lists is_task by.stands) c.finish_wave.ensures.run

pub returns-clause-rest : goal.returns-clause-rest
returns-clause-rest g c =
    let input = c.args.input.now in
    let setting = c.args.setting.now in
    let task = task_upto c.args.end input setting c.args.rest in
    let is_task = upto_is_task c.args.end input setting c.args.rest c.requires.end.within c.requires.input
    c.requires.setting (stands_upto c.args.end input setting c.args.rest c.requires.end c.requires.rest) in
    let first = state_of c.in_ok-world.world in
    let last = state_of c.drive.new.world in
    let events = c.in_ok-events.events in
    let drives = c.in_ok-events.ensures.drives in
    let by = replay_reached task c.args.seed first c.in_ok-world.ensures.fresh events last drives in
    let slots = slots_of setting in
    let joins = all_join (MakesDrawn slots c.args.seed) (drawn_happens slots c.args.seed) first input.theta
    c.in_ok-world.ensures.joins events last drives in
    IfOk-weaker c.finish_wave.result _ _
    (λ wave is. stands_beyond c.args.end input setting wave.rest c.requires.end.within
    (is task by.lists is_task by.stands joins))
    c.finish_wave.ensures.rest

pub returns-clause-line : goal.returns-clause-line
returns-clause-line g c =
    IfOk-weaker c.finish_wave.result _ _ (λ wave is. is c.args.rest.line) c.finish_wave.ensures.line

pub returns-clause-order : goal.returns-clause-order
returns-clause-order g c =
    let task = task_upto c.args.end c.args.input.now c.args.setting.now c.args.rest in
    from_three c.finish_wave.result _ _ _ _ c.finish_wave.ensures.run c.finish_wave.ensures.journal
    c.finish_wave.ensures.bouts
    (λ wave is told bouts. driven (MakesDrawn (slots_of task.setting) c.args.seed) (state_of c.in_ok-world.world) task
    c.in_ok-world.ensures.fresh c.in_ok-events.events (state_of c.drive.new.world) c.in_ok-events.ensures.drives
    c.in_ok-events.ensures.over wave.run told bouts)

pub returns-clause-bound : goal.returns-clause-bound
returns-clause-bound g c =
    let input = c.args.input.now in
    let setting = c.args.setting.now in
    let task = task_upto c.args.end input setting c.args.rest in
    let is_task = upto_is_task c.args.end input setting c.args.rest c.requires.end.within c.requires.input
    c.requires.setting (stands_upto c.args.end input setting c.args.rest c.requires.end c.requires.rest) in
    let by = replay_reached task c.args.seed (state_of c.in_ok-world.world) c.in_ok-world.ensures.fresh
    c.in_ok-events.events (state_of c.drive.new.world) c.in_ok-events.ensures.drives in
    from_three c.finish_wave.result _ _ _ _ c.finish_wave.ensures.run c.finish_wave.ensures.journal
    c.finish_wave.ensures.bouts
    (λ wave is told bouts. bounded task is_task c.events_are_few.ensures c.in_ok-events.events
    (state_of c.drive.new.world) by wave.run told bouts)
