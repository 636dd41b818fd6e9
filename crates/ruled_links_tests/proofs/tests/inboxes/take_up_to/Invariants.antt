use Rattle.ruled_links.specs.Inboxes.{IsSameInbox}
use Rattle.ruled_links_tests.proofs.tests.inboxes.take_up_to.Given as goal

abbrev pub invariant-loop : goal.invariant-loop
invariant-loop g l = IsSameInbox l.fn.inbox l.inbox
