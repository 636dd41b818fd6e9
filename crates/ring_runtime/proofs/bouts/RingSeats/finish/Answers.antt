use Rattle.std.proofs.Common.{◌≡◌, subst, sym, true}
use Rattle.std.proofs.Math.Logic.{∥∥₁_map}
use Rattle.actor_core.specs.Endings.{AreLast, HaveLast}
use Rattle.actor_core.proofs.LastTwo.{have_last}
use Rattle.ring_runtime.specs.Bouts.{RingSeatsView, StandsForSome, cores_in, is_collected, lists_in}
use Rattle.ring_runtime.specs.Endings.{RingEndsView, lists_left}
use Rattle.ring_runtime.proofs.Ended.{complete_there, ends_keep, told_family, told_journal, told_run}
use Rattle.ring_runtime.proofs.bouts.RingSeats.finish.Goals as goal

pub last_two-controller-requires : goal.last_two-controller-requires
last_two-controller-requires c =
    let own = c.self.inside in
    let v : RingSeatsView = record {
      cast = own.cast;
      seats = own.seats.items;
      spent = own.spent;
    } in
    subst (λ cs. ∥ HaveLast cs ∥₁) (sym c.in_ok-cores.ensures.cores)
    (∥∥₁_map (c.self.invariant.2 c.if-spent.false) (λ (is : StandsForSome v).
    have_last is.task v.cast (cores_in v) (lists_in v) is.stands))

pub answer-requires : goal.answer-requires
answer-requires c =
    let own = c.self.inside in
    let v : RingSeatsView = record {
      cast = own.cast;
      seats = own.seats.items;
      spent = own.spent;
    } in
    let two = c.last_two-controller.result in
    let last = subst (λ cores. AreLast cores two.0 two.1) c.in_ok-cores.ensures.cores c.last_two-controller.ensures in
    let done : is_collected v ≡ true = rw (← c.self.view_is) at c.requires in
    complete_there v c.self.invariant.0 two.0 two.1 last done

pub returns-clause-family : goal.returns-clause-family
returns-clause-family c =
    let own = c.self.inside in
    let v : RingSeatsView = record {
      cast = own.cast;
      seats = own.seats.items;
      spent = own.spent;
    } in
    let two = c.last_two-controller.result in
    let last = subst (λ cores. AreLast cores two.0 two.1) c.in_ok-cores.ensures.cores c.last_two-controller.ensures in
    let done : is_collected v ≡ true = rw (← c.self.view_is) at c.requires in
    let e : RingEndsView = record { cast = own.cast; ends = c.in_ok-cores.ends.items } in
    rw (← c.self.view_is)
    (λ task is_task stands fronts.
    told_family v c.self.invariant.0 two.0 two.1 last c.complete_is_finished.ensures done task
    is_task stands fronts c.in_ok-run.run' c.in_ok-run.ensures.journal e
    (λ a. subst (λ es. lists_left (record { cast = own.cast; ends = es }) a ≡ lists_in v a)
    (sym c.in_ok-cores.ensures.ends) (ends_keep v a)))

pub returns-clause-run : goal.returns-clause-run
returns-clause-run c =
    let own = c.self.inside in
    let v : RingSeatsView = record {
      cast = own.cast;
      seats = own.seats.items;
      spent = own.spent;
    } in
    let two = c.last_two-controller.result in
    let last = subst (λ cores. AreLast cores two.0 two.1) c.in_ok-cores.ensures.cores c.last_two-controller.ensures in
    let done : is_collected v ≡ true = rw (← c.self.view_is) at c.requires in
    rw (← c.self.view_is)
    (λ task is_task stands fronts.
    told_run v c.self.invariant.0 two.0 two.1 last c.complete_is_finished.ensures done task
    is_task stands fronts c.in_ok-run.run' c.finished_answers.ensures _ c.in_ok-run.ensures.run)

pub returns-clause-journal : goal.returns-clause-journal
returns-clause-journal c =
    let own = c.self.inside in
    let v : RingSeatsView = record {
      cast = own.cast;
      seats = own.seats.items;
      spent = own.spent;
    } in
    let two = c.last_two-controller.result in
    let last = subst (λ cores. AreLast cores two.0 two.1) c.in_ok-cores.ensures.cores c.last_two-controller.ensures in
    rw (← c.self.view_is)
    (told_journal v c.self.invariant.0 two.0 two.1 last c.in_ok-run.run' c.in_ok-run.ensures.journal)

pub returns-clause-ends : goal.returns-clause-ends
returns-clause-ends c =
    let own = c.self.inside in
    let v : RingSeatsView = record {
      cast = own.cast;
      seats = own.seats.items;
      spent = own.spent;
    } in
    rw (← c.self.view_is)
    (λ a. subst (λ es. lists_left (record { cast = own.cast; ends = es }) a ≡ lists_in v a)
    (sym c.in_ok-cores.ensures.ends) (ends_keep v a))
