use Rattle.std.proofs.Common.{◌∙◌, ◌+◌, ap, subst, sym}
use Rattle.std.proofs.lemmas.Result.{IfOk-weaker}
use Rattle.actor_core.specs.declared.cast.Cast.{Cast}
use Rattle.actor_core.specs.Leavings.{AreLeft}
use Rattle.actor_core.specs.Numbers.{count_of}
use Rattle.actor_core.specs.declared.machines.Core.TheVariants.{Collector as TheCollector}
use Rattle.actor_core.proofs.CompleteAnswer.{journal_named}
use Rattle.actor_core.proofs.LastLines.{from_three}
use Rattle.actor_core.proofs.LastTwo.{last_two}
use Rattle.link_trace.specs.States.{state_of}
use Rattle.link_trace.proofs.Squares.{machines_there}
use Rattle.link_trace.proofs.WorldAnswer.{ends, leaves}
use Rattle.link_trace.proofs.world.World.finish_wave.Goals as goal

pub wave_run-requires : goal.wave_run-requires
wave_run-requires c =
    let left = c.in_ok-left.left in
    let are = subst (λ cs. AreLeft c.args.self.cast.feeders cs left.0 left.1 left.2) c.in_ok-cores.ensures
    c.in_ok-left.ensures in
    let last = last_two (state_of c.args.self).cores are.front left.1 left.2 are.all in
    c.requires (last.before + 1) (TheCollector left.2) last.collector_is

pub returns-clause-run : goal.returns-clause-run
returns-clause-run c =
    let left = c.in_ok-left.left in
    let are = subst (λ cs. AreLeft c.args.self.cast.feeders cs left.0 left.1 left.2) c.in_ok-cores.ensures
    c.in_ok-left.ensures in
    let last = last_two (state_of c.args.self).cores are.front left.1 left.2 are.all in
    IfOk-weaker c.wave_run.result _ _
    (λ wave is task lists is_task stands. ends task (state_of c.args.self) lists stands left.1 left.2 last
    c.finished_answers.ensures is_task c.requires c.args.bouts wave.run is)
    c.wave_run.ensures.run

pub returns-clause-rest : goal.returns-clause-rest
returns-clause-rest c =
    let left = c.in_ok-left.left in
    let are = subst (λ cs. AreLeft c.args.self.cast.feeders cs left.0 left.1 left.2) c.in_ok-cores.ensures
    c.in_ok-left.ensures in
    let last = last_two (state_of c.args.self).cores are.front left.1 left.2 are.all in
    from_three c.wave_run.result _ _ _ _ c.wave_run.ensures.k c.wave_run.ensures.line c.wave_run.ensures.stores
    (λ wave is_k is_line is_stores task lists is_task stands joins. leaves task (state_of c.args.self) lists stands
    left.1 left.2 last c.answers_in_the_end.ensures is_task c.requires joins
    wave.rest.k wave.rest.line wave.rest.stores
    (subst (λ stores. AreLeft c.args.self.cast.feeders (state_of c.args.self).cores stores left.1 left.2)
    (sym is_stores)
    are)
    (is_k task.setting.k is_task.valid.small (ap (λ (cast : Cast). cast.joiners) stands.machines.cast_is)) is_line)

pub returns-clause-journal : goal.returns-clause-journal
returns-clause-journal c =
    let self = c.args.self in
    let left = c.in_ok-left.left in
    let are = subst (λ cs. AreLeft self.cast.feeders cs left.0 left.1 left.2) c.in_ok-cores.ensures
    c.in_ok-left.ensures in
    let last = last_two (state_of self).cores are.front left.1 left.2 are.all in
    let there = machines_there (count_of self.cast) self.places.items (self.square c.if-self.false) in
    IfOk-weaker c.wave_run.result _ _
    (λ wave same. same ∙ sym (journal_named self.cast (state_of self).cores there left.1 left.2 last))
    c.wave_run.ensures.journal
