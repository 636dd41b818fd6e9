use Rattle.std.proofs.Common.{◌≡◌, ◌≤◌, ◌-◌, ◌∙◌, subst, sym, arith}
use Rattle.std.proofs.lemmas.Result.{IfOk-weaker}
use Rattle.load_controller.specs.Journal.{last_epoch}
use Rattle.actor_core.specs.Tasks.{task_of}
use Rattle.actor_core.proofs.LastLines.{from_three}
use Rattle.actor_core.proofs.Tasks.{first_is_task}
use Rattle.ring_runtime.specs.Endings.{lists_left}
use Rattle.ring_runtime.specs.Runs.{most_bouts, orders_in}
use Rattle.ring_runtime.proofs.UnderWay.{begun, counts_on, few_bouts, from_two, goes_on, left_linked}
use Rattle.ring_runtime.proofs.UnderWay.{left_orders, one_bout_more}
use Rattle.ring_runtime.proofs.runs.ring_run.Goals as goal

pub loop-bouts-init : goal.loop-bouts-init
loop-bouts-init g c =
    let task = task_of c.args.input.now c.args.setting.now in
    let is_task = first_is_task c.args.input.now c.args.setting.now
    (c.limits_suffice.ensures _ _ c.requires.input c.requires.setting) in
    let said = c.in_ok-seats.ensures in
    begun task c.in_ok-seats.seats is_task.valid.some said.stands said.empty

pub loop-bouts-preserved : goal.loop-bouts-preserved
loop-bouts-preserved g c =
    let task = task_of c.args.input.now c.args.setting.now in
    let said = c.in_ok-ring_bout.ensures in
    let way = c.loop-bouts.invariant in
    let is_task = first_is_task c.args.input.now c.args.setting.now
    (c.limits_suffice.ensures _ _ c.requires.input c.requires.setting) in
    let went = goes_on c.in_ok-ring_bout.field-0 _ (λ rested. said.collected rested task is_task way.stands)
    (sym c.complete.ensures ∙ c.if-complete.false) in
    one_bout_more task c.loop-bouts.seats c.ring_bout.new.seats c.loop-bouts.bouts (said.went went) said.agrees
    (said.stands task) way (said.event went) (said.moves went)

pub returns-then-complete-clause-family : goal.returns-then-complete-clause-family
returns-then-complete-clause-family g c =
    let task = task_of c.args.input.now c.args.setting.now in
    let way = c.loop-bouts.invariant in
    let is_task = first_is_task c.args.input.now c.args.setting.now
    (c.limits_suffice.ensures _ _ c.requires.input c.requires.setting) in
    IfOk-weaker c.finish.result _ _ (λ told is. is task is_task way.stands way.fronts) c.finish.ensures.family

pub returns-then-complete-clause-run : goal.returns-then-complete-clause-run
returns-then-complete-clause-run g c =
    let task = task_of c.args.input.now c.args.setting.now in
    let way = c.loop-bouts.invariant in
    let is_task = first_is_task c.args.input.now c.args.setting.now
    (c.limits_suffice.ensures _ _ c.requires.input c.requires.setting) in
    IfOk-weaker c.finish.result _ _ (λ told is. is task is_task way.stands way.fronts) c.finish.ensures.run

pub returns-then-complete-clause-linked : goal.returns-then-complete-clause-linked
returns-then-complete-clause-linked g c =
    IfOk-weaker c.finish.result _ _ (λ told same. left_linked
    (task_of c.args.input.now c.args.setting.now) c.loop-bouts.seats
    c.loop-bouts.bouts c.loop-bouts.invariant (lists_left told.ends) same) c.finish.ensures.ends

pub returns-then-complete-clause-bound : goal.returns-then-complete-clause-bound
returns-then-complete-clause-bound g c =
    let task = task_of c.args.input.now c.args.setting.now in
    let way = c.loop-bouts.invariant in
    let is_task = first_is_task c.args.input.now c.args.setting.now
    (c.limits_suffice.ensures _ _ c.requires.input c.requires.setting) in
    from_three c.finish.result _ _ _ _ c.finish.ensures.family c.finish.ensures.ends c.finish.ensures.bouts
    (λ told family same bouts.
    subst (λ n. n ≤ most_bouts task (orders_in (lists_left told.ends))) (sym bouts)
    (few_bouts task c.loop-bouts.seats c.loop-bouts.bouts way c.events_are_few.ensures is_task told.run.journal
    (lists_left told.ends) same (family task is_task way.stands way.fronts)))

pub returns-then-complete-clause-orders : goal.returns-then-complete-clause-orders
returns-then-complete-clause-orders g c =
    let task = task_of c.args.input.now c.args.setting.now in
    let way = c.loop-bouts.invariant in
    let is_task = first_is_task c.args.input.now c.args.setting.now
    (c.limits_suffice.ensures _ _ c.requires.input c.requires.setting) in
    from_two c.finish.result _ _ _ c.finish.ensures.family c.finish.ensures.ends
    (λ told family same.
    let from_none : last_epoch told.run.journal - 0 ≡ last_epoch told.run.journal = omega arith in
    left_orders task c.loop-bouts.seats c.loop-bouts.bouts way c.events_are_few.ensures is_task told.run.journal
    (lists_left told.ends) same (family task is_task way.stands way.fronts) ∙ from_none)

pub unreachable-requires : goal.unreachable-requires
unreachable-requires g c =
    let end = c.loop-bouts-test.false in
    let task = task_of c.args.input.now c.args.setting.now in
    let is_task = first_is_task c.args.input.now c.args.setting.now
    (c.limits_suffice.ensures _ _ c.requires.input c.requires.setting) in
    let few = counts_on task c.loop-bouts.seats c.loop-bouts.bouts c.loop-bouts.invariant
    c.events_are_few.ensures is_task c.keeps_a_lawful_journal.ensures c.lawful_is_bounded.ensures c.requires.input
    c.requires.setting in
    omega arith
