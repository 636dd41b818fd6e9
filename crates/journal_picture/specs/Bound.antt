-- The bound that is drawn, and when it holds.
use Rattle.std.specs.Prelude.{◌≡◌, ◌≤◌, ◌*◌, ℕ, false, None, All, List, reverse}
use Rattle.grid_map.specs.declared.cost.Weights.{Weights}
use Rattle.grid_map.specs.Load.{IsNear}
use Rattle.load_controller.specs.declared.line.TurnLine.{TurnLine}
use Rattle.load_controller.specs.Journal.{Rules, Fits, Follows}
use Rattle.journal_picture.specs.declared.point.Point.{Point}
use Rattle.journal_picture.specs.Points.{points_of}

-- where a line isn't moving it is near the best grid for its counts and these weights
abbrev pub IsNearWhereStill : ℕ → Weights → TurnLine → Type 0
IsNearWhereStill k weights line =
    line.moving ≡ false → IsNear k line.shift (weights.r * line.rows_r) (weights.s * line.rows_s)

-- that is so of each line
abbrev pub AreNear : ℕ → Weights → List TurnLine → Type 0
AreNear k weights journal = All (IsNearWhereStill k weights) journal

-- where a point isn't moving, four times its load is at most five times the best
abbrev pub IsWithin : Point → Type 0
IsWithin point = point.moving ≡ false → 4 * point.load ≤ 5 * point.best

-- where no shift is fixed, each point of a journal that a controller makes is within
abbrev pub StaysWithin : Type 0
StaysWithin =
    (rules : Rules) (first : TurnLine) (journal : List TurnLine) → Fits rules first → rules.fixed ≡ None
    → Follows rules first (reverse journal) → All IsWithin (points_of rules.k rules.weights journal)
