use Rattle.std.proofs.Common.{refl}
use Rattle.group_split.proofs.Chosen.{chosen_more}
use Rattle.group_split.proofs.parts.tickets_at.Goals as goal

pub loop-index-preserved : goal.loop-index-preserved
loop-index-preserved c =
    chosen_more c.args.tickets.now 0 c.as_slice-index-items.result.now c.loop-index.index-index c.loop-index.chosen
    c.push.new.self c.at.result.now c.at.result.now c.loop-index-test.true c.loop-index.invariant c.at.ensures refl
    c.in_ok-push.ensures.ok
