use Rattle.report_law.proofs.Made.{grown_reportable}
use Rattle.report_law.proofs.laws.grown_reports_are_read.Goals as goal

pub returns : goal.returns
returns c = grown_reportable
