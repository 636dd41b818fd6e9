use Rattle.ruled_links.specs.Ends.{IsSameOut}
use Rattle.ruled_links_tests.proofs.tests.many.carried.Given as goal

abbrev pub invariant-loop-number : goal.invariant-loop-number
invariant-loop-number g l = IsSameOut l.fn.mouth l.mouth
