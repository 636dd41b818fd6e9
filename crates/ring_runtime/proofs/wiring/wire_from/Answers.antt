use Rattle.std.proofs.Common.{◌∙◌, sym, true≢false}
use Rattle.ring_runtime.proofs.NewRings.{row_next, row_skip}
use Rattle.ring_runtime.proofs.wiring.wire_from.Goals.{then-has_link+in_ok-wire, else-has_link}
use Rattle.ring_runtime.proofs.wiring.wire_from.Goals as goal

pub loop-to-preserved : goal.loop-to-preserved
loop-to-preserved c =
    let cast = c.args.cast in
    let from = c.args.from in
    let to = c.loop-to.to in
    let first = c.args.seats.now.items in
    let old = c.loop-to.seats.items in
    let sender = c.actor_at-sender.result in
    let receiver = c.actor_at-receiver.result in
    elim c.if-has_link.branch [
      | then-has_link+in_ok-wire w ↦
          rw w.seats-is
          (row_next cast from to first old sender receiver w.wire.new.seats.items c.actor_at-sender.ensures
          c.actor_at-receiver.ensures
          (λ k grid. (c.has_link.ensures k grid).0 w.if-has_link.true) c.loop-to.invariant w.in_ok-wire.ensures)
      | else-has_link w ↦
          rw w.seats-is
          (row_skip cast from to first old sender receiver c.actor_at-sender.ensures
          c.actor_at-receiver.ensures
          (λ k grid link. true≢false (sym ((c.has_link.ensures k grid).1 link) ∙ w.if-has_link.false))
          c.loop-to.invariant)
    ]
