use Rattle.actor_core.proofs.LaterEnds.{stands_beyond}
use Rattle.actor_core.proofs.laws.stands_beyond.Goals as goal

pub returns : goal.returns
returns c = stands_beyond
