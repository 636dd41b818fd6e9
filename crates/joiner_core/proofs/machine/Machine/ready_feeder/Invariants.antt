use Rattle.joiner_core.specs.Machine.{state_of, AreStuckOfFeeders}
use Rattle.joiner_core.proofs.machine.Machine.ready_feeder.Given as goal

abbrev pub invariant-loop-p : goal.invariant-loop-p
invariant-loop-p l = AreStuckOfFeeders l.p (state_of l.self)
