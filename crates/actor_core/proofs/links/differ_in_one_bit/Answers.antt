use Rattle.std.proofs.Common.{◌<◌, ◌^◌, arith}
use Rattle.actor_core.proofs.Joined.{below}
use Rattle.actor_core.proofs.links.differ_in_one_bit.Goals as goal

pub returns-clause-down : goal.returns-clause-down
returns-clause-down c same is =
    let small : c.args.joiners < 2 ^ 32 = c.ranges.joiners.fits in
    let high = is.below in
    let few = below is.low 32 (omega arith) in
    let end = c.loop-low-test.false in
    c.loop-low.invariant is.low (omega arith) is.below is.other
