use Rattle.std.proofs.Common.{◌≡◌, take}
use Rattle.load_controller.specs.Journal.{last_epoch}
use Rattle.join_report.proofs.grids.last_epoch.Given as goal

abbrev pub invariant-loop-line : goal.invariant-loop-line
invariant-loop-line l = l.epoch ≡ last_epoch (take l.line-index l.journal)
