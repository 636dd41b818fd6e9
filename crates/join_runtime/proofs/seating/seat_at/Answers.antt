use Rattle.std.proofs.Common.{sym, subst}
use Rattle.join_runtime.specs.Seating.{IsNewSeat}
use Rattle.join_runtime.proofs.NewSeats.{room_seat}
use Rattle.join_runtime.proofs.seating.seat_at.Goals as goal

pub returns-in-Ok : goal.returns-in-Ok
returns-in-Ok c =
    let mouths = c.in-Ok.mouths in
    let core = c.args.core in
    subst (λ seat. IsNewSeat c.args.cast c.args.n core seat mouths) (sym c.new-seat.ensures)
    (room_seat c.args.cast c.args.n core c.actor_at-actor.result c.in-Ok.inbox mouths
    c.in-Ok.places.items c.actor_at-actor.ensures c.in-Ok.ensures)
