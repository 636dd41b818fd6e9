use Rattle.trace_law.proofs.Runs.{is_run}
use Rattle.trace_law.proofs.laws.finished_answers.Goals as goal

pub returns : goal.returns
returns c =
    λ input setting rest f valid stands agrees finished collected collects bouts.
    is_run input setting valid rest stands f agrees finished collected collects bouts
