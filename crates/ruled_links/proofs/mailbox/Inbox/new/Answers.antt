use Rattle.ruled_links.proofs.DeliveryLemmas.{begins}
use Rattle.ruled_links.proofs.mailbox.Inbox.new.Goals as goal

pub with_rule-requires : goal.with_rule-requires
with_rule-requires c = begins
