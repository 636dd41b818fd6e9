use Rattle.std.proofs.Common.{List, ap}
use Rattle.report_lines.specs.declared.report_numbers.Report.{Report}
use Rattle.report_lines.specs.declared.report_numbers.Joiner.{Joiner}
use Rattle.report_picture.proofs.nearest.take_joiner.Goals as goal

pub returns-clause-exact : goal.returns-clause-exact
returns-clause-exact c id =
    let put : List Joiner → Report = λ joiners. record c.args.report.now { joiners = joiners } in
    ap put c.in_ok-push.ensures.ok
