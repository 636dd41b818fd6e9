-- The points of lines near the best grid are within the bound.
use Rattle.std.proofs.Common.{◌≡◌, ◌+◌, ◌≤◌, ◌^◌, ℕ, true, List, get_or}
use Rattle.std.specs.Prelude.{All, ◌&&◌, nat_le, nat_lt, filter}
use Rattle.std.proofs.lemmas.Bool.{and_parts, leb-true}
use Rattle.std.proofs.lemmas.List.Elements.{All-map, All-filter, filter_passes}
use Rattle.grid_map.specs.declared.cost.Weights.{Weights}
use Rattle.grid_map.proofs.Best.{best_within}
use Rattle.load_controller.specs.declared.line.TurnLine.{TurnLine}
use Rattle.journal_picture.specs.Points.{has_point, point_of, points_of, weight_r, weight_s}
use Rattle.grid_map.specs.Load.{best_shift}
use Rattle.journal_picture.specs.Bound.{AreNear, IsNearWhereStill, IsWithin}

-- a line that has a point is of the grid
of_grid : (k : ℕ) (line : TurnLine) → has_point k line ≡ true → line.shift ≤ k
of_grid k line has =
    let shift = nat_le line.shift k in
    let few_r = nat_le line.rows_r (2 ^ 32) in
    let few_s = nat_le line.rows_s (2 ^ 32) in
    let few = and_parts (shift && few_r && few_s) (nat_lt 0 (line.rows_r + line.rows_s)) has in
    leb-true line.shift k (and_parts shift few_r (and_parts (shift && few_r) few_s few.0).0).0

point_within : (k : ℕ) (weights : Weights) (line : TurnLine) → line.shift ≤ k → IsNearWhereStill k weights line
    → IsWithin (point_of k weights line)
point_within k weights line within near still =
    let x = weight_r weights line in
    let y = weight_s weights line in
    (near still).near (best_shift k line.shift x y) (best_within k line.shift x y within)

-- where each line that isn't moving is near the best grid, each point is within the bound
pub points_within : (k : ℕ) (weights : Weights) (journal : List TurnLine) → AreNear k weights journal
    → All IsWithin (points_of k weights journal)
points_within k weights journal near =
    let lines = filter (has_point k) journal in
    let nears : All (IsNearWhereStill k weights) lines =
    All-filter (has_point k) (IsNearWhereStill k weights) journal near in
    let passes : All (λ line. has_point k line ≡ true) lines = filter_passes (has_point k) journal in
    All-map IsWithin (point_of k weights) lines
    (λ i d low. let line = get_or lines i d in
    point_within k weights line (of_grid k line (passes i d low)) (nears i d low))
