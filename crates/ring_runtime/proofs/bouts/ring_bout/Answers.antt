use Rattle.std.proofs.Common.{◌≡◌, ◌∙◌, Ok, ap, false, length, map, subst, sym}
use Rattle.std.proofs.Math.Logic.{∥∥₁_map}
use Rattle.std.proofs.lemmas.List.{length-map, with_items_is}
use Rattle.ring_runtime.specs.Seats.{frame_of}
use Rattle.ring_runtime.specs.Joins.{AreWired}
use Rattle.ring_runtime.specs.Bouts.{RingSeatsView, StandsForSome}
use Rattle.ring_runtime.proofs.RingBouts.{event_made, extends_after, journal_after, linked_after, moves_on}
use Rattle.ring_runtime.proofs.RingBouts.{settled_after, stands_after}
use Rattle.ring_runtime.proofs.RingLists.{busy, fronts, rest_collected, still}
use Rattle.ring_runtime.proofs.bouts.ring_bout.Goals as goal

pub invariant_of-seats-2 : goal.invariant_of-seats-2
invariant_of-seats-2 g c =
    let seats = c.seats.inside.seats in
    let new = c.bout_of.new.seats in
    let value = c.as_mut_slice.ensures.value in
    let long : length new ≡ length seats.items = c.bout_of.auto.seats ∙ ap length value in
    let items = with_items_is seats new (long ∙ sym seats.ok.0) in
    let said = rw value at c.in_ok-went.ensures in
    let wired = subst (AreWired c.seats.inside.cast)
    (sym (c.bout_of.ensures.frames ∙ ap (map frame_of) value)) c.seats.invariant.0 in
    let settled = settled_after c.in_ok-went.went seats.items new long (λ is. said.went (ap Ok is))
    (λ is. said.held (ap Ok is)) (λ is. said.same (ap Ok is)) (c.seats.invariant.1 c.if-seats.false) in
    let all = sym (length-map seats.items frame_of) ∙ c.seats.invariant.0.all in
    let some : ∥ StandsForSome (record { cast = c.seats.inside.cast; seats = new; spent = false }) ∥₁ =
    ∥∥₁_map (c.seats.invariant.2 c.if-seats.false) (λ is. record {
      task = is.task;
      stands = stands_after c.in_ok-went.went c.seats.inside.cast seats.items new long all
          (λ e. said.went (ap Ok e)) (λ e. said.same (ap Ok e)) is.task is.stands;
    }) in
    rw items (wired, λ z. settled, λ z. some)

pub returns-clause-agrees : goal.returns-clause-agrees
returns-clause-agrees g c =
    let seats = c.seats.inside.seats in
    let new = c.bout_of.new.seats in
    let value = c.as_mut_slice.ensures.value in
    let long : length new ≡ length seats.items = c.bout_of.auto.seats ∙ ap length value in
    let items = with_items_is seats new (long ∙ sym seats.ok.0) in
    let said = rw value at c.in_ok-went.ensures in
    let wired = subst (AreWired c.seats.inside.cast)
    (sym (c.bout_of.ensures.frames ∙ ap (map frame_of) value)) c.seats.invariant.0 in
    let settled = settled_after c.in_ok-went.went seats.items new long (λ is. said.went (ap Ok is))
    (λ is. said.held (ap Ok is)) (λ is. said.same (ap Ok is)) (c.seats.invariant.1 c.if-seats.false) in
    rw items (fronts c.seats.inside.cast new wired settled.held)

pub returns-clause-event : goal.returns-clause-event
returns-clause-event g c =
    let seats = c.seats.inside.seats in
    let new = c.bout_of.new.seats in
    let value = c.as_mut_slice.ensures.value in
    let long : length new ≡ length seats.items = c.bout_of.auto.seats ∙ ap length value in
    let items = with_items_is seats new (long ∙ sym seats.ok.0) in
    let said = rw value at c.in_ok-went.ensures in
    λ is. rw (← c.seats.view_is, items)
    (event_made c.seats.inside.cast seats.items new long (said.went is))

pub returns-clause-moves : goal.returns-clause-moves
returns-clause-moves g c =
    let seats = c.seats.inside.seats in
    let new = c.bout_of.new.seats in
    let value = c.as_mut_slice.ensures.value in
    let long : length new ≡ length seats.items = c.bout_of.auto.seats ∙ ap length value in
    let items = with_items_is seats new (long ∙ sym seats.ok.0) in
    let said = rw value at c.in_ok-went.ensures in
    let wired = subst (AreWired c.seats.inside.cast)
    (sym (c.bout_of.ensures.frames ∙ ap (map frame_of) value)) c.seats.invariant.0 in
    λ is.
    rw (← c.seats.view_is, items)
    (moves_on c.seats.inside.cast seats.items new long (said.went is) c.seats.invariant.0
    wired (c.seats.invariant.1 c.if-seats.false).held (said.held is) (said.busy is))

pub returns-clause-still : goal.returns-clause-still
returns-clause-still g c =
    let said = rw c.as_mut_slice.ensures.value at c.in_ok-went.ensures in
    λ is.
    rw (← c.seats.view_is)
    (still (record {
      cast = c.seats.inside.cast;
      seats =
          c.seats.inside.seats.items;
      spent = c.seats.inside.spent;
    }) c.seats.invariant.0
    (c.seats.invariant.1 c.if-seats.false).held (said.rest is))

pub returns-clause-busy : goal.returns-clause-busy
returns-clause-busy g c =
    let said = rw c.as_mut_slice.ensures.value at c.in_ok-went.ensures in
    λ is.
    rw (← c.seats.view_is)
    (busy (record {
      cast = c.seats.inside.cast;
      seats =
          c.seats.inside.seats.items;
      spent = c.seats.inside.spent;
    }) c.seats.invariant.0
    (c.seats.invariant.1 c.if-seats.false).held (said.busy is))

pub returns-clause-collected : goal.returns-clause-collected
returns-clause-collected g c =
    let said = rw c.as_mut_slice.ensures.value at c.in_ok-went.ensures in
    let v : RingSeatsView =
    record {
      cast = c.seats.inside.cast;
      seats =
          c.seats.inside.seats.items;
      spent = c.seats.inside.spent;
    } in
    λ is.
    rw (← c.seats.view_is)
    (λ task is_task stands. rest_collected v c.seats.invariant.0 (c.seats.invariant.1 c.if-seats.false).held
    (said.rest is) c.quiet_is_finished.ensures task is_task stands)

pub returns-clause-extends : goal.returns-clause-extends
returns-clause-extends g c =
    let seats = c.seats.inside.seats in
    let new = c.bout_of.new.seats in
    let value = c.as_mut_slice.ensures.value in
    let long : length new ≡ length seats.items = c.bout_of.auto.seats ∙ ap length value in
    let items = with_items_is seats new (long ∙ sym seats.ok.0) in
    let said = rw value at c.in_ok-went.ensures in
    let all = sym (length-map seats.items frame_of) ∙ c.seats.invariant.0.all in
    rw (← c.seats.view_is, items)
    (extends_after c.in_ok-went.went c.seats.inside.cast seats.items new long all
    (λ is. said.went (ap Ok is)) (λ is. said.same (ap Ok is)))

pub returns-clause-journal : goal.returns-clause-journal
returns-clause-journal g c =
    let seats = c.seats.inside.seats in
    let new = c.bout_of.new.seats in
    let value = c.as_mut_slice.ensures.value in
    let long : length new ≡ length seats.items = c.bout_of.auto.seats ∙ ap length value in
    let items = with_items_is seats new (long ∙ sym seats.ok.0) in
    let said = rw value at c.in_ok-went.ensures in
    let all = sym (length-map seats.items frame_of) ∙ c.seats.invariant.0.all in
    rw (← c.seats.view_is, items)
    (journal_after c.in_ok-went.went c.seats.inside.cast seats.items new long all
    (λ is. said.went (ap Ok is)) (λ is. said.same (ap Ok is)))

pub returns-clause-stands : goal.returns-clause-stands
returns-clause-stands g c =
    let seats = c.seats.inside.seats in
    let new = c.bout_of.new.seats in
    let value = c.as_mut_slice.ensures.value in
    let long : length new ≡ length seats.items = c.bout_of.auto.seats ∙ ap length value in
    let items = with_items_is seats new (long ∙ sym seats.ok.0) in
    let said = rw value at c.in_ok-went.ensures in
    let all = sym (length-map seats.items frame_of) ∙ c.seats.invariant.0.all in
    rw (← c.seats.view_is, items)
    (stands_after c.in_ok-went.went c.seats.inside.cast seats.items new long all
    (λ is. said.went (ap Ok is)) (λ is. said.same (ap Ok is)))

pub returns-clause-linked : goal.returns-clause-linked
returns-clause-linked g c =
    let seats = c.seats.inside.seats in
    let new = c.bout_of.new.seats in
    let value = c.as_mut_slice.ensures.value in
    let long : length new ≡ length seats.items = c.bout_of.auto.seats ∙ ap length value in
    let items = with_items_is seats new (long ∙ sym seats.ok.0) in
    let said = rw value at c.in_ok-went.ensures in
    let all = sym (length-map seats.items frame_of) ∙ c.seats.invariant.0.all in
    let wired = subst (AreWired c.seats.inside.cast)
    (sym (c.bout_of.ensures.frames ∙ ap (map frame_of) value)) c.seats.invariant.0 in
    let settled = settled_after c.in_ok-went.went seats.items new long (λ is. said.went (ap Ok is))
    (λ is. said.held (ap Ok is)) (λ is. said.same (ap Ok is)) (c.seats.invariant.1 c.if-seats.false) in
    rw (← c.seats.view_is, items)
    (λ task stands before. record {
      fronts = fronts c.seats.inside.cast new wired settled.held;
      linked = linked_after c.in_ok-went.went c.seats.inside.cast seats.items new long all
          (λ is. said.went (ap Ok is)) (λ is. said.same (ap Ok is)) task stands before.linked;
    })
