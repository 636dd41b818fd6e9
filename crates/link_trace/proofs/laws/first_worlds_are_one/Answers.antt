use Rattle.link_trace.proofs.FirstWorlds.{one_world}
use Rattle.link_trace.proofs.laws.first_worlds_are_one.Goals as goal

pub returns : goal.returns
returns c = one_world
