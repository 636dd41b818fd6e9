use Rattle.ring_links.specs.Rings.{IsSameOut}
use Rattle.ring_links_tests.proofs.tests.rings.fill.Given as goal

abbrev pub invariant-loop-number : goal.invariant-loop-number
invariant-loop-number l = IsSameOut l.initial.out l.out
