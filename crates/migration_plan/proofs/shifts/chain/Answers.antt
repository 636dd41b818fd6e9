use Rattle.std.proofs.Common.{List, [], subst}
use Rattle.std.proofs.lemmas.List.{append-nil}
use Rattle.migration_plan.specs.Steps.{IsChain}
use Rattle.migration_plan.proofs.shifts.chain.Goals as goal

pub returns : goal.returns
returns c =
    subst (λ (shifts : List _). IsChain c.args.shift c.args.goal shifts) (append-nil c.loop-reached.shifts)
    (c.loop-reached.invariant [] c.loop-reached-test.false)
