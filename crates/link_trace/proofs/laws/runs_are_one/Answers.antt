use Rattle.link_trace.proofs.OneReplay.{one_run}
use Rattle.link_trace.proofs.laws.runs_are_one.Goals as goal

pub returns : goal.returns
returns c = one_run
