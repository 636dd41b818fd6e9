use Rattle.link_trace.proofs.WorldAnswer.{agree}
use Rattle.link_trace.proofs.laws.world_agrees.Goals as goal

pub returns : goal.returns
returns c = agree
