use denote.Param.Send.{sendable}
use Rattle.ring_runtime.proofs.Sent.{seat_send}
use Rattle.ring_runtime.proofs.turns_side_by_side.work_as_they_stand.Goals as goal

pub for_each_mut-requires-send-T : goal.for_each_mut-requires-send-T
for_each_mut-requires-send-T g c κs within =
    let seat = seat_send c.shares_predicates.ensures.shared c.shares_predicates.ensures.sent in search sendable depth 40
