use Rattle.std.proofs.Common.{◌≡◌, take}
use Rattle.join_report.specs.Report.{steps_told}
use Rattle.join_report.proofs.told.steps_of.Given as goal

abbrev pub invariant-loop-place : goal.invariant-loop-place
invariant-loop-place l = l.steps ≡ steps_told l.first.k l.first.shift l.before l.journal (take l.place l.moved)
