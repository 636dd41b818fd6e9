use Rattle.std.proofs.Common.{◌≤◌, ◌^◌, arith}
use Rattle.std.proofs.Math.Pow.{pow_mono}
use Rattle.group_split.proofs.sizing.size_at.Goals as goal

pub returns-clause-small : goal.returns-clause-small
returns-clause-small c =
    let low : c.args.place ≤ 6 = omega arith in
    let most : 2 ^ c.args.place ≤ 2 ^ 6 = pow_mono low in
    omega arith
