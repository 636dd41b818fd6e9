use Rattle.std.proofs.Common.{arith}
use Rattle.ring_runtime.specs.Turns.{Works}
use Rattle.actor_core.proofs.Dealing.{swapped_back}
use Rattle.ring_runtime.proofs.turns_side_by_side.+work_dealt.Goals as goal

pub returns-then-from-count : goal.returns-then-from-count
returns-then-from-count g t c =
    let some = c.if-left-eq0.false in
    let few = c.requires.left in
    swapped_back Works c.args.seats.now c.swap.new.self c.work_dealt.new.seats c.swap-then-from-count.new.self _
    c.standing_at-from.result
    c.swap.ensures.len (omega (arith, some, few)) c.if-from-count.true c.swap.ensures.by_index c.work_dealt.ensures
    c.swap-then-from-count.ensures.by_index
