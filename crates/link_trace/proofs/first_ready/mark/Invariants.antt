use Rattle.link_trace.proofs.ReplayMarks.{AreMarkedBelow}
use Rattle.link_trace.proofs.first_ready.mark.Given as goal

abbrev pub invariant-loop-n : goal.invariant-loop-n
invariant-loop-n l = AreMarkedBelow l.actor l.slots l.initial.marks.items l.marks.items l.n
