use Rattle.std.proofs.Common.{◌≡◌, ◌++◌, drop}
use Rattle.journal_picture.specs.Curve.{stretches_from, stretches_of}
use Rattle.journal_picture.proofs.curve.stretches.Given as goal

abbrev pub invariant-loop-point : goal.invariant-loop-point
invariant-loop-point l =
    l.stretches ++ stretches_from l.total l.stretch (drop l.point-index l.rest) ≡ stretches_of l.total l.points
