use Rattle.std.proofs.Common.{◌≡◌, drop}
use Rattle.theta_pred.specs.Keys
use Rattle.theta_pred.proofs.key.names_side.Given as goal

abbrev pub invariant-loop-term : goal.invariant-loop-term
invariant-loop-term l = Keys.names_side l.side (drop l.term-index l.sum) ≡ Keys.names_side l.side l.sum
