-- What is drawn of points that follow one another in one column of pixels: the highest, and the last.
use Rattle.std.specs.Prelude.{◌≡◌, ◌≤◌, ◌==◌, ℕ, List, [], ◌∷◌, Any, Contains, nat_le, max, if◌then◌else◌}
use Rattle.std.specs.List.{fold}
use Rattle.journal_picture.specs.declared.point.Point.{Point}
use Rattle.journal_picture.specs.declared.curve.Stretch.{Stretch}
use Rattle.journal_picture.specs.Places.{column_of, height_of}

-- the higher of two points, the first where they are as high
abbrev pub higher : Point → Point → Point
higher peak point = if nat_le (height_of point) (height_of peak) then peak else point

-- a stretch with one point more
abbrev pub with_point : Stretch → Point → Stretch
with_point stretch point = record { highest = higher stretch.highest point; last = point }

-- a point alone
abbrev pub alone : Point → Stretch
alone point = record { highest = point; last = point }

-- the stretches from this one on: as many points as follow one another in one column are one
abbrev pub stretches_from : ℕ → Stretch → List Point → List Stretch
stretches_from total stretch [] = stretch ∷ []
stretches_from total stretch (point ∷ points) =
    if column_of total point == column_of total stretch.last then stretches_from total (with_point stretch point) points
    else stretch ∷ stretches_from total (alone point) points

-- the stretches of all points
abbrev pub stretches_of : ℕ → List Point → List Stretch
stretches_of total [] = []
stretches_of total (point ∷ points) = stretches_from total (alone point) points

-- both ends of a stretch are among the points
pub record IsAmong (points : List Point) (stretch : Stretch) : Type 0 where
  pub highest : Contains points stretch.highest
  pub last : Contains points stretch.last

-- a stretch is drawn in the column of a point, and goes up at least as high
pub record StandsFor (total : ℕ) (point : Point) (stretch : Stretch) : Type 0 where
  pub column : column_of total stretch.highest ≡ column_of total point
  pub leaves : column_of total stretch.last ≡ column_of total point
  pub high : height_of point ≤ height_of stretch.highest

-- one of the stretches is
abbrev pub IsCovered : ℕ → List Stretch → Point → Type 0
IsCovered total stretches point = Any (StandsFor total point) stretches

-- the greatest height of a point at which no step is under way, 0 where there is none
abbrev pub greatest_still : List Point → ℕ
greatest_still points = fold (λ most point. if point.moving then most else max most (height_of point)) 0 points

-- and of one at which a step is
abbrev pub greatest_moving : List Point → ℕ
greatest_moving points = fold (λ most point. if point.moving then max most (height_of point) else most) 0 points
