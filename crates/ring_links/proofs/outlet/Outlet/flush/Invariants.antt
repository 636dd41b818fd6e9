use Rattle.std.proofs.Common.{length}
use Rattle.ring_links.proofs.Flushing.{Flushes}
use Rattle.ring_links.proofs.outlet.Outlet.flush.Given as goal

abbrev pub invariant-loop-moved : goal.invariant-loop-moved
invariant-loop-moved l = Flushes l.moved l.initial.self l.self

abbrev pub decreases-loop-moved : goal.decreases-loop-moved
decreases-loop-moved l = length l.self.waiting
