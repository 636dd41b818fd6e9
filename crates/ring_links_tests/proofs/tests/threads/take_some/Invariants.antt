use Rattle.ring_links.specs.Rings.{IsSameIn}
use Rattle.ring_links_tests.proofs.tests.threads.take_some.Given as goal

abbrev pub invariant-loop : goal.invariant-loop
invariant-loop l = IsSameIn l.fn.inn l.inn
