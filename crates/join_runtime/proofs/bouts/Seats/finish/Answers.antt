use Rattle.std.proofs.Common.{◌≡◌, subst, sym, true}
use Rattle.actor_core.specs.Endings.{AreLast, HaveLast}
use Rattle.join_runtime.specs.Bouts.{SeatsView, lists_in}
use Rattle.join_runtime.specs.Endings.{EndsView, is_collected, lists_left}
use Rattle.join_runtime.proofs.Ended.{complete_there, ends_keep, told_family, told_journal, told_run}
use Rattle.join_runtime.proofs.LastMachines.{have_last}
use Rattle.join_runtime.proofs.bouts.Seats.finish.Goals as goal

pub last_two-controller-requires : goal.last_two-controller-requires
last_two-controller-requires c =
    let own = c.self.inside in
    let v : SeatsView = record {
      cast = own.cast;
      seats = own.seats.items;
      spent = own.spent;
    } in
    ∣ subst HaveLast (sym c.in_ok-cores.ensures.cores)
    (have_last v c.self.invariant.0 (c.self.invariant.1 c.if-spent.false)) ∣₁

pub answer-requires : goal.answer-requires
answer-requires c =
    let own = c.self.inside in
    let v : SeatsView = record {
      cast = own.cast;
      seats = own.seats.items;
      spent = own.spent;
    } in
    let two = c.last_two-controller.result in
    let last = subst (λ cores. AreLast cores two.0 two.1) c.in_ok-cores.ensures.cores c.last_two-controller.ensures in
    let done : is_collected v ≡ true = rw (← c.self.view_is) at c.requires in
    complete_there v c.self.invariant.0 two.0 two.1 last done

pub returns : goal.returns
returns c =
    let own = c.self.inside in
    let v : SeatsView = record {
      cast = own.cast;
      seats = own.seats.items;
      spent = own.spent;
    } in
    let joined = c.self.invariant.0 in
    let two = c.last_two-controller.result in
    let last = subst (λ cores. AreLast cores two.0 two.1) c.in_ok-cores.ensures.cores c.last_two-controller.ensures in
    let done : is_collected v ≡ true = rw (← c.self.view_is) at c.requires in
    let law = c.complete_is_finished.ensures in
    let said = c.in_ok-run.ensures in
    let e : EndsView = record { cast = own.cast; ends = c.in_ok-cores.ends.items } in
    let ends : (a : _) → lists_left e a ≡ lists_in v a = λ a.
    subst (λ es. lists_left (record { cast = own.cast; ends = es }) a ≡ lists_in v a)
    (sym c.in_ok-cores.ensures.ends) (ends_keep v a) in
    rw (← c.self.view_is)
    (record {
      family = λ task is_task stands fronts. told_family v joined two.0 two.1 last law done task is_task stands fronts
          c.in_ok-run.run' said.journal e ends;
      run = λ task is_task stands fronts. told_run v joined two.0 two.1 last law done task is_task stands fronts
          c.in_ok-run.run' c.finished_answers.ensures c.args.bouts said.run;
      ends = ends;
      journal = told_journal v joined two.0 two.1 last c.in_ok-run.run' said.journal;
      bouts = said.bouts;
    })
