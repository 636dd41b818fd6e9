-- A seat may go to another thread, where a predicate may be shared, and an access may go there.
use denote.Param.Send.{IsSend, IsSync, sendable}
use Rattle.std.proofs.Crossing as heap
use Rattle.theta_pred.specs.contracts.agree.Access as access
use Rattle.theta_pred.specs.contracts.theta.Theta as theta
use Rattle.actor_core.proofs.Sent.{core_send}
use Rattle.ring_runtime.proofs.inlets.Inlets.TheSendSync as inlets
use Rattle.ring_runtime.proofs.outlets.Outlets.TheSendSync as outlets
use Rattle.ring_runtime.specs.contracts.seat.RingSeat as seat

-- so it may, since its machine, and the ends of its rings, may
pub seat_send : IsSync theta.the_row → IsSend access.the_row → (κ : _) → IsSend (seat.the_row κ)
seat_send theta_sync access_send κ =
    let core = core_send theta_sync access_send in
    search (sendable, heap.crosses, core, inlets.the_send, outlets.the_send) depth
    40 fits 20000
