use Rattle.report_law.proofs.Made.{reportable}
use Rattle.report_law.proofs.laws.reportable_is_read.Goals as goal

pub returns : goal.returns
returns c = reportable
