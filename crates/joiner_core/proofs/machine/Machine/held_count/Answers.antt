use Rattle.joiner_core.proofs.CallerFacts.{cut-sum}
use Rattle.joiner_core.proofs.machine.Machine.held_count.Goals as goal

pub returns : goal.returns
returns c = cut-sum _ _ _ _ _ _ c.count.ensures c.count-2.ensures c.saturating_add.ensures
