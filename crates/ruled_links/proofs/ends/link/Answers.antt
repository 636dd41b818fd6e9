use Rattle.std.proofs.Common.{rules}
use Rattle.ruled_links.proofs.OrderLemmas.{begins, parts}
use Rattle.ruled_links.proofs.ends.link.Goals as goal

pub with_rule-requires : goal.with_rule-requires
with_rule-requires c = begins

pub another-sender-requires-clause-rule : goal.another-sender-requires-clause-rule
another-sender-requires-clause-rule c = parts _ _ (search rules) (search rules)
