use Rattle.ruled_links.specs.Ends.{IsSameIn}
use Rattle.ruled_links_tests.proofs.tests.take_up_to.Given as goal

abbrev pub invariant-loop : goal.invariant-loop
invariant-loop g l = IsSameIn l.fn.inn l.inn
