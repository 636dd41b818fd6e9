use Rattle.std.proofs.Common.{refl}
use Rattle.reshuffler_core.proofs.WholeCalls.{fresh}
use Rattle.reshuffler_core.proofs.feeder.Feeder.start_at.Goals as goal

pub returns-clause-fresh : goal.returns-clause-fresh
returns-clause-fresh c = fresh _ refl refl refl refl refl refl c.new.ensures.items
