use Rattle.join_report.specs.Report.{AreWithin}
use Rattle.join_report_tests.proofs.runs.push_lines.Given as goal

abbrev pub invariant-loop-epoch : goal.invariant-loop-epoch
invariant-loop-epoch l = AreWithin l.k l.journal
