use Rattle.std.proofs.Common.{rules}
use Rattle.ruled_links.proofs.OrderLemmas.{puts}
use Rattle.ruled_links.proofs.ends.Out.put.Goals as goal

pub push_as-requires-clause-rule : goal.push_as-requires-clause-rule
push_as-requires-clause-rule g c n = puts n _ _ _ (search rules)
