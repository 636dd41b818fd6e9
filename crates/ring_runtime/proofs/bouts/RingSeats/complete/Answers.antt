use Rattle.std.proofs.Common.{◌∙◌, sym}
use Rattle.actor_core.proofs.Seats.{last_complete}
use Rattle.ring_runtime.specs.Bouts.{RingSeatsView}
use Rattle.ring_runtime.specs.Seats.{RingSeatView}
use Rattle.ring_runtime.proofs.RingLists.{many}
use Rattle.ring_runtime.proofs.bouts.RingSeats.complete.Goals as goal

pub returns-in-Some : goal.returns-in-Some
returns-in-Some c =
    let own = c.self.inside in
    let v : RingSeatsView = record {
      cast = own.cast;
      seats = own.seats.items;
      spent = own.spent;
    } in
    let last = rw c.as_slice.ensures.value at c.in-Some.ensures.value in
    rw (← c.self.view_is) (c.is_complete.ensures ∙ last_complete (λ (s : RingSeatView). s.core) v.cast v.seats
    (many v.cast v.seats c.self.invariant.0) c.in-Some.seat.now (sym last))
