use Rattle.std.proofs.Common.{false}
use Rattle.actor_core.specs.Tasks.{task_of}
use Rattle.ring_runtime.specs.Bouts.{StandsForSome}
use Rattle.ring_runtime.proofs.Built.{start_empty, start_given, start_linked, start_settled, start_stands, start_wired}
use Rattle.ring_runtime.proofs.bouts.RingSeats.start.Goals as goal

pub invariant_of-result : goal.invariant_of-result
invariant_of-result c =
    let task = task_of c.args.input.now c.args.setting.now in
    let cast = c.of-cast.result in
    let first = c.in_ok-seats.seats.items in
    let seats = c.wire_all.new.seats.items in
    let some : StandsForSome (record { cast = cast; seats = seats; spent = false }) = record {
      task = task;
      stands = start_stands task cast first seats c.of-cast.ensures.of c.in_ok-seats.ensures
          c.in_ok-wire_all.ensures false;
    } in (
      start_wired task cast first seats c.of-cast.ensures.of c.in_ok-seats.ensures c.in_ok-wire_all.ensures,
      λ z. start_settled task cast first seats c.of-cast.ensures.of c.in_ok-seats.ensures
          c.in_ok-wire_all.ensures,
      λ z. ∣ some ∣₁,
    )

pub returns-clause-stands : goal.returns-clause-stands
returns-clause-stands c =
    start_stands (task_of c.args.input.now c.args.setting.now) c.of-cast.result c.in_ok-seats.seats.items
    c.wire_all.new.seats.items c.of-cast.ensures.of c.in_ok-seats.ensures c.in_ok-wire_all.ensures
    false

pub returns-clause-empty : goal.returns-clause-empty
returns-clause-empty c =
    start_empty (task_of c.args.input.now c.args.setting.now) c.of-cast.result c.in_ok-seats.seats.items
    c.wire_all.new.seats.items c.of-cast.ensures.of c.in_ok-seats.ensures c.in_ok-wire_all.ensures
    false

pub returns-clause-links : goal.returns-clause-links
returns-clause-links c =
    start_linked (task_of c.args.input.now c.args.setting.now) c.of-cast.result c.in_ok-seats.seats.items
    c.wire_all.new.seats.items c.of-cast.ensures.of c.in_ok-seats.ensures c.in_ok-wire_all.ensures
    false

pub returns-clause-given : goal.returns-clause-given
returns-clause-given c =
    start_given (task_of c.args.input.now c.args.setting.now) c.of-cast.result c.in_ok-seats.seats.items
    c.wire_all.new.seats.items c.of-cast.ensures.of c.in_ok-seats.ensures c.in_ok-wire_all.ensures
    false
