use Rattle.actor_core.proofs.LaterEnds.{stands_upto}
use Rattle.actor_core.proofs.laws.stands_upto.Goals as goal

pub returns : goal.returns
returns c = stands_upto
