use denote.Param.Send.{sendable}
use Rattle.join_runtime.proofs.Sent.{seat_send}
use Rattle.join_runtime.proofs.kept.pool_of.Goals as goal

pub start-requires-send-T : goal.start-requires-send-T
start-requires-send-T g c κs within =
    let seat = seat_send c.shares_predicates.ensures.shared c.shares_predicates.ensures.sent in search sendable depth 40
