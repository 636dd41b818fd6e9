use Rattle.std.proofs.Common.{◌∙◌, arith}
use Rattle.actor_core.proofs.Dealing.{swapped_back}
use Rattle.join_runtime.specs.Turns.{Works}
use Rattle.join_runtime.proofs.turns_side_by_side.+work_dealt.Goals as goal

pub returns-then-from-count : goal.returns-then-from-count
returns-then-from-count g t c =
    let some = c.if-left-eq0.false in
    let few = c.requires.left in
    let within = c.if-from-count.true in
    let all = c.args.seats.ok.0 in
    let counted = c.len-count.ensures in
    let worked = c.work_dealt-worked.ensures in
    record {
      len = c.swap-then-from-count.ensures.len ∙ worked.len ∙ c.swap.ensures.len;
      each = swapped_back Works c.args.seats.items c.swap.new.seats.items c.work_dealt-worked.result.items
          c.swap-then-from-count.new.seats.items _ c.standing_at-from.result
          c.swap.ensures.len (omega (arith, some, few, all, counted)) (omega (arith, within, all, counted))
          c.swap.ensures.swapped worked.each c.swap-then-from-count.ensures.swapped;
    }
