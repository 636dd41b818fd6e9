use Rattle.std.proofs.Common.{◌≡◌, ◌∙◌, true, false, refl}
use Rattle.link_trace.specs.Order.{slots_of}
use Rattle.link_trace.specs.States.{state_of}
use Rattle.link_trace.proofs.AllSlots.{some_has_one}
use Rattle.link_trace.proofs.Bounds.{counts_on}
use Rattle.link_trace.proofs.ReplayLoop.{all_unsure, goes_on, is_task, none_drawn, replay_reached, task_in}
use Rattle.link_trace.proofs.replays.drive.Goals as goal
use Rattle.link_trace.proofs.replays.drive.Goals.{in-None, in-Some+then-done}

differ : false ≡ true → ⊥
differ e = cc

pub loop-init : goal.loop-init
loop-init g c = record {
  drives = refl;
  draws_are = none_drawn c.args.seed c.new-draws.result c.new-draws.ensures;
  marked = all_unsure c.in_ok-slots.slots.items (slots_of c.args.setting.now) c.in_ok-marks.marks.items
      (state_of c.args.world.now) c.in_ok-slots.ensures
      (c.in_ok-marks.ensures.each ∙ (c.len.ensures ∙ c.in_ok-slots.slots.ok.0)) c.in_ok-marks.ensures.marked;
}

pub make_next-requires-clause-ready : goal.make_next-requires-clause-ready
make_next-requires-clause-ready g c =
    let setting = c.args.setting.now in
    let first = state_of c.args.world.now in
    let fresh = c.requires.fresh in
    let task = task_in setting first fresh in
    let by = replay_reached task c.args.seed first fresh.stands c.loop.events (state_of c.loop.world)
    c.loop.invariant.drives in
    some_has_one task (state_of c.loop.world) by.lists (is_task setting first fresh c.requires.setting) by.stands
    c.deref.result.now (c.deref.ensures.value ∙ c.in_ok-slots.ensures) c.done.result c.done.ensures.still
    c.if-done.false

pub make_next-requires-clause-few : goal.make_next-requires-clause-few
make_next-requires-clause-few g c =
    let setting = c.args.setting.now in
    let first = state_of c.args.world.now in
    let fresh = c.requires.fresh in
    let task = task_in setting first fresh in
    let by = replay_reached task c.args.seed first fresh.stands c.loop.events (state_of c.loop.world)
    c.loop.invariant.drives in
    counts_on task (is_task setting first fresh c.requires.setting) c.events_are_few.ensures c.loop.events
    (state_of c.loop.world) by c.events_fit.ensures fresh.of_input c.requires.setting

pub loop-preserved : goal.loop-preserved
loop-preserved g c =
    goes_on c.args.setting.now c.args.seed (state_of c.args.world.now) c.deref.result.now
    (c.deref.ensures.value ∙ c.in_ok-slots.ensures) c.loop.marks.items c.loop.draws c.loop.events
    (state_of c.loop.world) c.loop.invariant c.make_next.new.marks.items c.make_next.new.draws c.make_next.new.events
    (state_of c.make_next.new.world) (c.done.ensures.goes_on c.if-done.false)
    c.in_ok-make_next.ensures.marks c.in_ok-make_next.ensures.made c.in_ok-make_next.ensures.drawn
    c.in_ok-make_next.ensures.counted

pub returns-clause-over : goal.returns-clause-over
returns-clause-over g c =
    elim c.match-next.branch [
      | in-None w ↦ absurd (differ w.in-None.ensures.steps)
      | in-Some+then-done w ↦ w.done.ensures.done w.if-done.true
    ]
