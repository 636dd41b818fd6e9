use Rattle.link_trace.proofs.OneReplay.{one_wave_run}
use Rattle.link_trace.proofs.laws.wave_runs_are_one.Goals as goal

pub returns : goal.returns
returns c = one_wave_run
