use Rattle.link_trace.proofs.OneReplay.{one_end}
use Rattle.link_trace.proofs.laws.replays_are_one.Goals as goal

pub returns : goal.returns
returns c = one_end
