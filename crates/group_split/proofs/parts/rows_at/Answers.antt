use Rattle.std.proofs.Common.{[]}
use Rattle.group_split.proofs.Chosen.{chosen_more}
use Rattle.group_split.proofs.parts.rows_at.Goals as goal

pub loop-index-preserved : goal.loop-index-preserved
loop-index-preserved c =
    chosen_more c.args.rows.now [] c.as_slice-index-items.result.now c.loop-index.index-index c.loop-index.chosen
    c.push.new.self c.at.result.now c.in_ok-copy.field-0 c.loop-index-test.true c.loop-index.invariant c.at.ensures
    c.in_ok-copy.ensures c.in_ok-push.ensures.ok
