use Rattle.std.proofs.Common.{◌≡◌, ◌++◌, drop}
use Rattle.theta_pred.specs.Keys.{columns_of}
use Rattle.theta_pred.proofs.key.add_columns.Given as goal

abbrev pub invariant-loop-term : goal.invariant-loop-term
invariant-loop-term l =
    l.parts.items ++ columns_of l.side l.turned (drop l.term-index l.sum)
    ≡ l.fn.parts.items ++ columns_of l.side l.turned l.sum
