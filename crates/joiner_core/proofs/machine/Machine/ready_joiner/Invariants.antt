use Rattle.joiner_core.specs.Machine.{state_of, AreStuckOfJoiners}
use Rattle.joiner_core.proofs.machine.Machine.ready_joiner.Given as goal

abbrev pub invariant-loop-q : goal.invariant-loop-q
invariant-loop-q l = AreStuckOfJoiners l.q (state_of l.self)
