use Rattle.actor_core.specs.Tasks.{task_of}
use Rattle.ring_runtime.proofs.Built.{new_more}
use Rattle.ring_runtime.proofs.seating.new_seats.Goals as goal

pub loop-n-preserved : goal.loop-n-preserved
loop-n-preserved c =
    rw c.in_ok-push.ensures.items
    (new_more (task_of c.args.input.now c.args.setting.now) c.loop-n.n c.loop-n.seats.items c.in_ok-seat_at.field-0
    c.loop-n.invariant c.in_ok-seat_at.ensures)
