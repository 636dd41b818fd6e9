use Rattle.std.proofs.Common.{rules}
use Rattle.ruled_links.proofs.OrderLemmas.{takes, leaves}
use Rattle.ruled_links.proofs.ends.In.take.Goals as goal

pub pop_as-popped-requires-clause-rule : goal.pop_as-popped-requires-clause-rule
pop_as-popped-requires-clause-rule g c = (takes _ _ (search rules), leaves _ _ (search rules))
