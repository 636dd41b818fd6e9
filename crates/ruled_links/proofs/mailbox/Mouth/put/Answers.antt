use Rattle.std.proofs.Common.{rules}
use Rattle.ruled_links.proofs.DeliveryLemmas.{puts}
use Rattle.ruled_links.proofs.mailbox.Mouth.put.Goals as goal

pub push_as-requires-clause-rule : goal.push_as-requires-clause-rule
push_as-requires-clause-rule g c n = puts n _ _ _ (search rules) (search rules) (search rules)
