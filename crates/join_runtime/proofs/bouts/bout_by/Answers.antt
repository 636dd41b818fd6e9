use Rattle.std.proofs.Common.{false, subst, sym}
use Rattle.join_runtime.specs.Joins.{AreJoined}
use Rattle.join_runtime.proofs.LinkLists.{busy, fronts, rest_collected, still}
use Rattle.join_runtime.proofs.SeatBouts.{extends_after, joins_after, journal_after, linked_after, settled_after}
use Rattle.join_runtime.proofs.SeatBouts.{stands_after}
use Rattle.join_runtime.proofs.bouts.bout_by.Goals as goal

pub invariant_of-seats-2 : goal.invariant_of-seats-2
invariant_of-seats-2 g c =
    let said = c.in_ok-went.ensures in (
      subst (AreJoined c.seats.inside.cast) (sym c.bout_of.ensures.frames) c.seats.invariant.0,
      λ z. settled_after c.in_ok-went.went c.seats.inside.seats.items c.bout_of.new.seats.items
          c.bout_of.ensures.long said.went said.gathered said.same (c.seats.invariant.1 c.if-seats.false),
    )

pub returns-clause-agrees : goal.returns-clause-agrees
returns-clause-agrees g c =
    let cast = c.seats.inside.cast in
    let new = c.bout_of.new.seats.items in
    let said = c.in_ok-went.ensures in
    fronts (record { cast = cast; seats = new; spent = false })
    (subst (AreJoined cast) (sym c.bout_of.ensures.frames) c.seats.invariant.0)
    (settled_after c.in_ok-went.went c.seats.inside.seats.items new c.bout_of.ensures.long said.went said.gathered
    said.same (c.seats.invariant.1 c.if-seats.false))

pub returns-clause-still : goal.returns-clause-still
returns-clause-still g c is =
    rw (← c.seats.view_is)
    (still (record {
      cast = c.seats.inside.cast;
      seats = c.seats.inside.seats.items;
      spent = c.seats.inside.spent;
    }) c.seats.invariant.0 (c.seats.invariant.1 c.if-seats.false) (c.in_ok-went.ensures.rest is))

pub returns-clause-busy : goal.returns-clause-busy
returns-clause-busy g c is =
    rw (← c.seats.view_is)
    (busy (record {
      cast = c.seats.inside.cast;
      seats = c.seats.inside.seats.items;
      spent = c.seats.inside.spent;
    }) c.seats.invariant.0 (c.seats.invariant.1 c.if-seats.false) (c.in_ok-went.ensures.ready is))

pub returns-clause-collected : goal.returns-clause-collected
returns-clause-collected g c is =
    rw (← c.seats.view_is)
    (rest_collected (record {
      cast = c.seats.inside.cast;
      seats = c.seats.inside.seats.items;
      spent = c.seats.inside.spent;
    }) c.seats.invariant.0 (c.seats.invariant.1 c.if-seats.false) (c.in_ok-went.ensures.rest is)
    c.quiet_is_finished.ensures)

pub returns-clause-extends : goal.returns-clause-extends
returns-clause-extends g c =
    rw (← c.seats.view_is)
    (extends_after c.in_ok-went.went c.seats.inside.cast c.seats.inside.seats.items c.bout_of.new.seats.items
    c.bout_of.ensures.long c.seats.invariant.0 c.in_ok-went.ensures.went c.in_ok-went.ensures.same)

pub returns-clause-journal : goal.returns-clause-journal
returns-clause-journal g c =
    rw (← c.seats.view_is)
    (journal_after c.in_ok-went.went c.seats.inside.cast c.seats.inside.seats.items c.bout_of.new.seats.items
    c.bout_of.ensures.long c.seats.invariant.0 c.in_ok-went.ensures.went c.in_ok-went.ensures.same)

pub returns-clause-stands : goal.returns-clause-stands
returns-clause-stands g c =
    rw (← c.seats.view_is)
    (stands_after c.in_ok-went.went c.seats.inside.cast c.seats.inside.seats.items c.bout_of.new.seats.items
    c.bout_of.ensures.long c.seats.invariant.0 c.in_ok-went.ensures.went c.in_ok-went.ensures.same)

pub returns-clause-joins : goal.returns-clause-joins
returns-clause-joins g c =
    rw (← c.seats.view_is)
    (joins_after c.in_ok-went.went c.seats.inside.cast c.seats.inside.seats.items c.bout_of.new.seats.items
    c.bout_of.ensures.long c.seats.invariant.0 c.in_ok-went.ensures.went c.in_ok-went.ensures.same)

pub returns-clause-linked : goal.returns-clause-linked
returns-clause-linked g c =
    let cast = c.seats.inside.cast in
    let old = c.seats.inside.seats.items in
    let new = c.bout_of.new.seats.items in
    let long = c.bout_of.ensures.long in
    let said = c.in_ok-went.ensures in
    rw (← c.seats.view_is)
    (λ task stands before. record {
      fronts = fronts (record { cast = cast; seats = new; spent = false })
          (subst (AreJoined cast) (sym c.bout_of.ensures.frames) c.seats.invariant.0)
          (settled_after c.in_ok-went.went old new long said.went said.gathered said.same
          (c.seats.invariant.1 c.if-seats.false));
      linked = linked_after c.in_ok-went.went cast old new long c.seats.invariant.0 said.went said.same task stands
          before.linked;
    })
