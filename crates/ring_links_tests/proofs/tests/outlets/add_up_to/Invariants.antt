use Rattle.std.proofs.Common.{◌≡◌}
use Rattle.ring_links_tests.proofs.tests.outlets.add_up_to.Given as goal

abbrev pub invariant-loop-number : goal.invariant-loop-number
invariant-loop-number l = l.outlet.out ≡ l.initial.outlet.out
