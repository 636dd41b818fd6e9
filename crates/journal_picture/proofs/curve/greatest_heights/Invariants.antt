use Rattle.std.proofs.Common.{◌≡◌, take}
use Rattle.journal_picture.specs.Curve.{greatest_still, greatest_moving}
use Rattle.journal_picture.proofs.curve.greatest_heights.Given as goal

abbrev pub invariant-loop-point : goal.invariant-loop-point
invariant-loop-point l =
    let seen = take l.point-index l.points in
    record {
      still : l.still ≡ greatest_still seen;
      moving : l.moving ≡ greatest_moving seen;
    }
