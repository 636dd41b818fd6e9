use Rattle.ruled_links.specs.Ends.{IsSameOut}
use Rattle.ruled_links_tests.proofs.tests.put_all.Given as goal

abbrev pub invariant-loop-number : goal.invariant-loop-number
invariant-loop-number g l = IsSameOut l.fn.out l.out
