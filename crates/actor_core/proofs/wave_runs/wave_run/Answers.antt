use Rattle.std.proofs.Common.{◌∙◌, ap, reverse}
use Rattle.actor_core.proofs.wave_runs.wave_run.Goals as goal

pub returns-clause-line : goal.returns-clause-line
returns-clause-line c line past is = c.in-Some.ensures.back line past (ap reverse c.journal.ensures.value ∙ is)
