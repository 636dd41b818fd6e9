use Rattle.ring_links.specs.Rings.{IsSameIn}
use Rattle.ring_links_tests.proofs.tests.rings.drain.Given as goal

abbrev pub invariant-loop-number : goal.invariant-loop-number
invariant-loop-number l = IsSameIn l.initial.inn l.inn
