use Rattle.std.proofs.Common.{ℕ, ◌+◌, ◌-◌, List, ◌++◌}
use Rattle.migration_plan.specs.Steps.{IsChain}
use Rattle.migration_plan.proofs.shifts.chain.Given as goal

-- what follows to the goal completes the chain
abbrev pub invariant-loop-reached : goal.invariant-loop-reached
invariant-loop-reached l = (rest : List ℕ) → IsChain l.reached l.goal rest
    → IsChain l.fn.shift l.goal (l.shifts ++ rest)

abbrev pub decreases-loop-reached : goal.decreases-loop-reached
decreases-loop-reached l = (l.reached - l.goal) + (l.goal - l.reached)
