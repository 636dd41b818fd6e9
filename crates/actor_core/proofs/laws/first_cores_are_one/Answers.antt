use Rattle.actor_core.proofs.OneFirstCore.{one_first}
use Rattle.actor_core.proofs.laws.first_cores_are_one.Goals as goal

pub returns : goal.returns
returns c = one_first
