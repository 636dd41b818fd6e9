use Rattle.report_law.proofs.Runs.{reports_read}
use Rattle.report_law.proofs.laws.reports_are_read.Goals as goal

pub returns : goal.returns
returns c = reports_read
