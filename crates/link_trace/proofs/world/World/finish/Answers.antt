use Rattle.std.proofs.Common.{◌∙◌, ◌+◌, subst, sym}
use Rattle.std.proofs.lemmas.Result.{IfOk-weaker}
use Rattle.actor_core.specs.Endings.{AreLast, HaveLast}
use Rattle.actor_core.specs.Numbers.{count_of}
use Rattle.actor_core.specs.declared.machines.Core.TheVariants.{Collector as TheCollector}
use Rattle.actor_core.proofs.CompleteAnswer.{journal_named}
use Rattle.link_trace.specs.States.{state_of}
use Rattle.link_trace.proofs.SomeTask.{last_there}
use Rattle.link_trace.proofs.Squares.{machines_there}
use Rattle.link_trace.proofs.WorldAnswer.{ends}
use Rattle.link_trace.proofs.world.World.finish.Goals as goal

pub last_two-controller-requires : goal.last_two-controller-requires
last_two-controller-requires c =
    subst (λ cs. ∥ HaveLast cs ∥₁) (sym c.in_ok-cores.ensures)
    (last_there (state_of c.args.self) (c.args.self.stands c.if-self.false))

pub answer-requires : goal.answer-requires
answer-requires c =
    let (controller, collector) = c.last_two-controller.result in
    let last = subst (λ cs. AreLast cs controller collector) c.in_ok-cores.ensures c.last_two-controller.ensures in
    c.requires (last.before + 1) (TheCollector collector) last.collector_is

pub returns-clause-run : goal.returns-clause-run
returns-clause-run c =
    let (controller, collector) = c.last_two-controller.result in
    let last = subst (λ cs. AreLast cs controller collector) c.in_ok-cores.ensures c.last_two-controller.ensures in
    IfOk-weaker c.answer.result _ _
    (λ run answers task lists is_task stands.
    ends task (state_of c.args.self) lists stands controller collector last c.finished_answers.ensures is_task
    c.requires c.args.bouts run answers)
    c.answer.ensures.run

pub returns-clause-journal : goal.returns-clause-journal
returns-clause-journal c =
    let self = c.args.self in
    let (controller, collector) = c.last_two-controller.result in
    let last = subst (λ cs. AreLast cs controller collector) c.in_ok-cores.ensures c.last_two-controller.ensures in
    let there = machines_there (count_of self.cast) self.places.items (self.square c.if-self.false) in
    IfOk-weaker c.answer.result _ _
    (λ run same. same ∙ sym (journal_named self.cast (state_of self).cores there controller collector last))
    c.answer.ensures.journal
