use Rattle.std.proofs.Common.{◌≡◌, take}
use Rattle.journal_picture.specs.Changes.{waves_of}
use Rattle.journal_picture.proofs.changes.waves.Given as goal

abbrev pub invariant-loop-line : goal.invariant-loop-line
invariant-loop-line l = l.waves ≡ waves_of (take l.line-index l.journal)
