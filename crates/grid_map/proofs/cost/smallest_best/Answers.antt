use Rattle.std.proofs.Common.{arith}
use Rattle.grid_map.proofs.Best.{is_fewest, is_smallest}
use Rattle.grid_map.proofs.cost.smallest_best.Goals as goal

pub returns-clause-fewest : goal.returns-clause-fewest
returns-clause-fewest c = is_fewest c.args.k c.loop-below.below c.loop-below.best c.args.x c.args.y (omega arith)
    c.loop-below.invariant.0

pub returns-clause-smallest : goal.returns-clause-smallest
returns-clause-smallest c = is_smallest c.args.k c.loop-below.below c.loop-below.best c.args.x c.args.y (omega arith)
    c.loop-below.invariant.0
