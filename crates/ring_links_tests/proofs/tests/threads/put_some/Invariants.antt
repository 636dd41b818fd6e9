use Rattle.ring_links.specs.Rings.{IsSameOut}
use Rattle.ring_links_tests.proofs.tests.threads.put_some.Given as goal

abbrev pub invariant-loop : goal.invariant-loop
invariant-loop l = IsSameOut l.fn.out l.out
