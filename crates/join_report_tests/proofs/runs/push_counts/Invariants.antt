use Rattle.std.proofs.Common.{◌≡◌, ◌++◌, take}
use Rattle.join_report_tests.proofs.runs.push_counts.Given as goal

abbrev pub invariant-loop-number : goal.invariant-loop-number
invariant-loop-number l = l.counts ≡ l.initial.counts ++ take l.number-index l.numbers
