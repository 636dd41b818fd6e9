use denote.Param.Send.{sendable}
use Rattle.std.proofs.Crossing as heap
use Rattle.rtrb.proofs.end.End.TheSendSync as ends
use Rattle.kept_threads.proofs.signal.Signals.TheSendSync as links
use Rattle.kept_threads.proofs.pool.Pool.start.Goals as goal

pub spawn-requires-send-F : goal.spawn-requires-send-F
spawn-requires-send-F g c κs within =
    let item = c.type_bounds.send-T in
    let task = c.type_bounds.sync-W in
    let handle = c.type_bounds.sync-R in
    search (sendable, heap.crosses, ends.the_send) depth 60 fits 40000
