use Rattle.std.proofs.Common.{rules}
use Rattle.ruled_links.proofs.DeliveryLemmas.{opens}
use Rattle.ruled_links.proofs.mailbox.new_pass.Goals as goal

pub another-requires-clause-rule : goal.another-requires-clause-rule
another-requires-clause-rule g c = opens _ _ _ (search rules) (search rules) (search rules)
