-- A seat may go to another thread, where a predicate may be shared, and an access may go there.
use denote.Param.Send.{IsSend, IsSync, sendable}
use Rattle.std.proofs.Crossing as heap
use Rattle.ruled_links.proofs.mailbox.Inbox.TheSendSync as inboxes
use Rattle.ruled_links.proofs.mailbox.Mouth.TheSendSync as mouths
use Rattle.theta_pred.specs.contracts.agree.Access as access
use Rattle.theta_pred.specs.contracts.theta.Theta as theta
use Rattle.actor_core.proofs.Sent.{core_send}
use Rattle.join_runtime.specs.contracts.seat.Seat as seat

-- so it may, since its machine, its inbox and its mouths may
pub seat_send : IsSync theta.the_row → IsSend access.the_row → (κ : _) → IsSend (seat.the_row κ)
seat_send theta_sync access_send κ =
    let core = core_send theta_sync access_send in
    search (sendable, heap.crosses, core, inboxes.the_send, mouths.the_send) depth 40 fits 20000
