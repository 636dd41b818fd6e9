use Rattle.std.proofs.Common.{◌≡◌, arith}
use Rattle.std.proofs.lemmas.Grind.{common_steps}
use Rattle.std.proofs.lemmas.List.Elements.{All-same}
use Rattle.journal_picture.specs.Bound.{IsWithin}
use Rattle.journal_picture.specs.Points.{points_of}
use Rattle.journal_picture.proofs.Within.{points_within}
use Rattle.journal_picture.proofs.point.points.Goals as goal

pub returns-clause-near : goal.returns-clause-near
returns-clause-near c near =
    let is : c.loop-line.points ≡ points_of c.args.k c.args.weights c.args.journal.now = grind (arith, common_steps) in
    All-same IsWithin c.loop-line.points (points_of c.args.k c.args.weights c.args.journal.now) is
    (points_within c.args.k c.args.weights c.args.journal.now near)
