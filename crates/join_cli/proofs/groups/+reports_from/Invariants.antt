use Rattle.std.proofs.Common.{length}
use Rattle.join_cli.proofs.groups.+reports_from.Given as goal

abbrev pub decreases-reports_from : goal.decreases-reports_from
decreases-reports_from l = length l.exponents.now
