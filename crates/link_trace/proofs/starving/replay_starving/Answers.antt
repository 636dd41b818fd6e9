use Rattle.std.proofs.Common.{◌∙◌, arith, refl, subst}
use Rattle.std.proofs.lemmas.Result.{IfOk-weaker}
use Rattle.trace_law.proofs.Validity.{within_limits}
use Rattle.actor_core.specs.Tasks.{task_of}
use Rattle.actor_core.proofs.LastLines.{from_three}
use Rattle.actor_core.proofs.Tasks.{first_is_task}
use Rattle.link_trace.specs.Marks.{AreMarked}
use Rattle.link_trace.specs.Order.{slots_of}
use Rattle.link_trace.specs.Starving.{MakesStarving}
use Rattle.link_trace.specs.States.{state_of}
use Rattle.link_trace.proofs.AllSlots.{some_has_one}
use Rattle.link_trace.proofs.Bounds.{bounded, counts_on, run_bounded}
use Rattle.link_trace.proofs.ReplayLoop.{all_unsure, driven, one_more, starving_reached}
use Rattle.link_trace.proofs.starving.replay_starving.Goals as goal

pub loop-events-init : goal.loop-events-init
loop-events-init c = record {
  drives = refl;
  marked = all_unsure c.in_ok-slots.slots.items (slots_of c.args.setting.now) c.in_ok-marks.marks.items
      (state_of c.in_ok-world.world) c.in_ok-slots.ensures
      (c.in_ok-marks.ensures.each ∙ (c.len.ensures ∙ c.in_ok-slots.slots.ok.0)) c.in_ok-marks.ensures.marked;
}

pub make_starving-requires-clause-ready : goal.make_starving-requires-clause-ready
make_starving-requires-clause-ready c =
    let input = c.args.input.now in
    let setting = c.args.setting.now in
    let task = task_of input setting in
    let by = starving_reached task c.args.starved (state_of c.in_ok-world.world) c.in_ok-world.ensures.fresh
    c.loop-events.events (state_of c.loop-events.world) c.loop-events.invariant.drives in
    some_has_one task (state_of c.loop-events.world) by.lists
    (first_is_task input setting (within_limits input setting c.requires.input c.requires.setting)) by.stands
    c.deref.result.now (c.deref.ensures.value ∙ c.in_ok-slots.ensures)
    c.done.result c.done.ensures.still c.if-done.false

pub loop-events-preserved : goal.loop-events-preserved
loop-events-preserved c =
    let slots = slots_of c.args.setting.now in
    let starved = c.args.starved in
    let old = state_of c.loop-events.world in
    let new = state_of c.make_starving.new.world in
    let is = c.deref.ensures.value ∙ c.in_ok-slots.ensures in
    record {
      drives = one_more (λ n old new. MakesStarving starved slots old new) (state_of c.in_ok-world.world)
          c.loop-events.events old new c.loop-events.invariant.drives (c.done.ensures.goes_on c.if-done.false)
          (subst (λ s. MakesStarving starved s old new) is c.in_ok-make_starving.ensures.made);
      marked = subst (λ s. AreMarked s c.make_starving.new.marks.items new) is c.in_ok-make_starving.ensures.marks;
    }

pub returns-then-done-clause-run : goal.returns-then-done-clause-run
returns-then-done-clause-run c =
    let input = c.args.input.now in
    let setting = c.args.setting.now in
    let task = task_of input setting in
    let by = starving_reached task c.args.starved (state_of c.in_ok-world.world) c.in_ok-world.ensures.fresh
    c.loop-events.events (state_of c.loop-events.world) c.loop-events.invariant.drives in
    IfOk-weaker c.finish.result _ _
    (λ run is. is task by.lists
    (first_is_task input setting (within_limits input setting c.requires.input c.requires.setting)) by.stands)
    c.finish.ensures.run

pub returns-then-done-clause-order : goal.returns-then-done-clause-order
returns-then-done-clause-order c =
    let task = task_of c.args.input.now c.args.setting.now in
    from_three c.finish.result _ _ _ _ c.finish.ensures.run c.finish.ensures.journal c.finish.ensures.bouts
    (λ run is told bouts. driven (λ n old new. MakesStarving c.args.starved (slots_of task.setting) old new)
    (state_of c.in_ok-world.world) task c.in_ok-world.ensures.fresh c.loop-events.events (state_of c.loop-events.world)
    c.loop-events.invariant.drives (c.done.ensures.done c.if-done.true) run told bouts)

pub returns-then-done-clause-bound : goal.returns-then-done-clause-bound
returns-then-done-clause-bound c =
    let input = c.args.input.now in
    let setting = c.args.setting.now in
    let task = task_of input setting in
    let valid = within_limits input setting c.requires.input c.requires.setting in
    let by = starving_reached task c.args.starved (state_of c.in_ok-world.world) c.in_ok-world.ensures.fresh
    c.loop-events.events (state_of c.loop-events.world) c.loop-events.invariant.drives in
    from_three c.finish.result _ _ _ _ c.finish.ensures.run c.finish.ensures.journal c.finish.ensures.bouts
    (λ run is told bouts. run_bounded input setting run.journal run.bouts
    (bounded task (first_is_task input setting valid) c.events_are_few.ensures c.loop-events.events
    (state_of c.loop-events.world) by run told bouts))

pub unreachable-requires : goal.unreachable-requires
unreachable-requires c =
    let end = c.loop-events-test.false in
    let input = c.args.input.now in
    let setting = c.args.setting.now in
    let task = task_of input setting in
    let valid = within_limits input setting c.requires.input c.requires.setting in
    let by = starving_reached task c.args.starved (state_of c.in_ok-world.world) c.in_ok-world.ensures.fresh
    c.loop-events.events (state_of c.loop-events.world) c.loop-events.invariant.drives in
    let few = counts_on task (first_is_task input setting valid) c.events_are_few.ensures c.loop-events.events
    (state_of c.loop-events.world) by c.events_fit.ensures c.requires.input c.requires.setting in
    omega arith
