use Rattle.std.proofs.Common.{◌≡◌, ◌+◌, ◌++◌, ◌∷◌, [], ◌∙◌, ap, append_assoc, sym, subst}
use Rattle.std.proofs.lemmas.List.{length-append}
use Rattle.join_runtime.specs.Seating.{IsNewSeat}
use Rattle.join_runtime.proofs.NewSeats.{new_more}
use Rattle.join_runtime.proofs.seating.new_seats.Goals as goal

pub loop-core-preserved : goal.loop-core-preserved
loop-core-preserved c =
    let is = c.loop-core.invariant in
    let core = c.in-Some.core in
    let seat = c.in_ok-seat.seat in
    let mouths = c.in_ok-seat.mouths in
    let first : c.loop-core.core-iterator.rest.items ≡ core ∷ c.next.new.self.rest.items = c.in-Some.ensures.steps.0 in
    record {
      left = append_assoc c.loop-core.yielded (core ∷ []) c.next.new.self.rest.items
          ∙ (ap (λ l. c.loop-core.yielded ++ l) (sym first) ∙ is.left);
      number = ap (λ n. n + 1) is.number ∙ sym (length-append c.loop-core.yielded (core ∷ []));
      new =
          rw (c.in_ok-add_seat.ensures.seats, c.in_ok-add_seat.ensures.mouths)
          (new_more c.args.cast c.loop-core.yielded core c.loop-core.seats.items
          c.loop-core.all_mouths.items seat mouths is.new
          (subst (λ n. IsNewSeat c.args.cast n core seat mouths) is.number c.in_ok-seat.ensures));
    }
