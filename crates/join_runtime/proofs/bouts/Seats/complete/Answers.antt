use Rattle.std.proofs.Common.{◌∙◌, sym}
use Rattle.actor_core.proofs.Seats.{last_complete}
use Rattle.join_runtime.specs.Bouts.{SeatsView}
use Rattle.join_runtime.specs.Views.{SeatView}
use Rattle.join_runtime.proofs.Ended.{many_seats}
use Rattle.join_runtime.proofs.bouts.Seats.complete.Goals as goal

pub returns-in-Some : goal.returns-in-Some
returns-in-Some c =
    let own = c.self.inside in
    let v : SeatsView = record {
      cast = own.cast;
      seats = own.seats.items;
      spent = own.spent;
    } in
    let last = rw c.as_slice.ensures.value at c.in-Some.ensures.value in
    rw (← c.self.view_is) (c.is_complete.ensures ∙ last_complete (λ (s : SeatView). s.core) v.cast v.seats
    (many_seats v c.self.invariant.0) c.in-Some.seat.now (sym last))
