use Rattle.std.proofs.Common.{subst, sym}
use Rattle.std.proofs.lemmas.Result.{IfOk-weaker}
use Rattle.trace_law.proofs.First.{stands as first_stands}
use Rattle.trace_law.proofs.Validity.{within_limits}
use Rattle.trace_law.specs.Family.{first_rest}
use Rattle.actor_core.specs.Tasks.{task_of}
use Rattle.actor_core.proofs.LastLines.{from_three}
use Rattle.actor_core.proofs.Tasks.{first_is_task}
use Rattle.link_trace.specs.Order.{Drives, MakesDrawn, slots_of}
use Rattle.link_trace.specs.States.{state_of}
use Rattle.link_trace.proofs.Bounds.{bounded, run_bounded}
use Rattle.link_trace.proofs.ReplayLoop.{replay_reached}
use Rattle.link_trace.proofs.replays.replay.Goals as goal

pub drive-requires-clause-fresh : goal.drive-requires-clause-fresh
drive-requires-clause-fresh g c =
    let input = c.args.input.now in
    let setting = c.args.setting.now in
    record {
      input = input;
      rest = first_rest setting;
      of_input = c.requires.input;
      begins = first_stands input setting (within_limits input setting c.requires.input c.requires.setting);
      stands = c.in_ok-world.ensures.fresh;
    }

pub returns-clause-run : goal.returns-clause-run
returns-clause-run g c =
    let input = c.args.input.now in
    let setting = c.args.setting.now in
    let task = task_of input setting in
    let by = replay_reached task c.args.seed (state_of c.in_ok-world.world) c.in_ok-world.ensures.fresh
    c.in_ok-events.events (state_of c.drive.new.world) c.in_ok-events.ensures.drives in
    IfOk-weaker c.finish.result _ _
    (λ run is. is task by.lists
    (first_is_task input setting (within_limits input setting c.requires.input c.requires.setting)) by.stands)
    c.finish.ensures.run

pub returns-clause-order : goal.returns-clause-order
returns-clause-order g c =
    let slots = slots_of c.args.setting.now in
    let first = state_of c.in_ok-world.world in
    let last = state_of c.drive.new.world in
    from_three c.finish.result _ _ _ _ c.finish.ensures.run c.finish.ensures.journal c.finish.ensures.bouts
    (λ run is told bouts. record {
      replay = record {
        first = first;
        last = last;
        fresh = c.in_ok-world.ensures.fresh;
        drives = subst (λ n. Drives (MakesDrawn slots c.args.seed) first n last) (sym bouts)
            c.in_ok-events.ensures.drives;
        over = c.in_ok-events.ensures.over;
        journal = told;
      };
      begun = c.in_ok-world.ensures.first;
    })

pub returns-clause-bound : goal.returns-clause-bound
returns-clause-bound g c =
    let input = c.args.input.now in
    let setting = c.args.setting.now in
    let task = task_of input setting in
    let valid = within_limits input setting c.requires.input c.requires.setting in
    let by = replay_reached task c.args.seed (state_of c.in_ok-world.world) c.in_ok-world.ensures.fresh
    c.in_ok-events.events (state_of c.drive.new.world) c.in_ok-events.ensures.drives in
    from_three c.finish.result _ _ _ _ c.finish.ensures.run c.finish.ensures.journal c.finish.ensures.bouts
    (λ run is told bouts. run_bounded input setting run.journal run.bouts
    (bounded task (first_is_task input setting valid) c.events_are_few.ensures c.in_ok-events.events
    (state_of c.drive.new.world) by run told bouts))
