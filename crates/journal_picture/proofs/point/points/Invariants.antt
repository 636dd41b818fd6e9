use Rattle.std.proofs.Common.{◌≡◌, take}
use Rattle.journal_picture.specs.Points.{points_of}
use Rattle.journal_picture.proofs.point.points.Given as goal

abbrev pub invariant-loop-line : goal.invariant-loop-line
invariant-loop-line l = l.points ≡ points_of l.k l.weights (take l.line-index l.journal)
