use Rattle.std.proofs.Common.{◌≡◌, take}
use Rattle.theta_pred.proofs.agree.copy_of.Given as goal

abbrev pub invariant-loop-same : goal.invariant-loop-same
invariant-loop-same l = l.copies.items ≡ take l.same-index l.sames
