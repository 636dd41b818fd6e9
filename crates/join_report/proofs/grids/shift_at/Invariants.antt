use Rattle.std.proofs.Common.{◌≡◌, drop}
use Rattle.load_controller.specs.Journal.{shift_at}
use Rattle.join_report.proofs.grids.shift_at.Given as goal

abbrev pub invariant-loop-line : goal.invariant-loop-line
invariant-loop-line l = shift_at l.first l.epoch l.journal ≡ shift_at l.first l.epoch (drop l.line-index l.journal)
