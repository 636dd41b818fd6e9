-- The points of a journal: what is drawn of its lines.
use Rattle.std.specs.Prelude.{◌≡◌, ◌+◌, ◌*◌, ◌^◌, ◌≤◌, ℕ, Bool, ◌&&◌, nat_le, nat_lt, All, List, filter, map, reverse}
use Rattle.grid_map.specs.declared.cost.Weights.{Weights}
use Rattle.grid_map.specs.Load.{best_shift, copies}
use Rattle.load_controller.specs.declared.line.TurnLine.{TurnLine}
use Rattle.load_controller.specs.Journal.{Rules, Fits, Follows}
use Rattle.journal_picture.specs.declared.point.Point.{Point}

-- what the rows of R of a line weigh together
abbrev pub weight_r : Weights → TurnLine → ℕ
weight_r weights line = weights.r * line.rows_r

-- and those of S
abbrev pub weight_s : Weights → TurnLine → ℕ
weight_s weights line = weights.s * line.rows_s

-- the load of a line: the copies of weighed rows that all joiners hold at its shift
abbrev pub load_of : ℕ → Weights → TurnLine → ℕ
load_of k weights line = copies k line.shift (weight_r weights line) (weight_s weights line)

-- the least load of a grid of as many joiners for the same rows
abbrev pub best_of : ℕ → Weights → TurnLine → ℕ
best_of k weights line =
    let x = weight_r weights line in
    let y = weight_s weights line in
    copies k (best_shift k line.shift x y) x y

-- the point of a line
abbrev pub point_of : ℕ → Weights → TurnLine → Point
point_of k weights line = record {
  rows = line.rows_r + line.rows_s;
  load = load_of k weights line;
  best = best_of k weights line;
  epoch = line.epoch;
  shift = line.shift;
  moving = line.moving;
}

-- a line is of a grid of 2 ^ k joiners, and counts some rows, at most 2 ^ 32 of a side
abbrev pub has_point : ℕ → TurnLine → Bool
has_point k line =
    nat_le line.shift k && nat_le line.rows_r (2 ^ 32) && nat_le line.rows_s (2 ^ 32)
    && nat_lt 0 (line.rows_r + line.rows_s)

-- the points of a journal, in its order
abbrev pub points_of : ℕ → Weights → List TurnLine → List Point
points_of k weights journal = map (point_of k weights) (filter (has_point k) journal)

-- a line counts at most 2 ^ 32 rows of a side
pub record IsFew (line : TurnLine) : Type 0 where
  pub few_r : line.rows_r ≤ 2 ^ 32
  pub few_s : line.rows_s ≤ 2 ^ 32

-- it counts a row
abbrev pub counts_rows : TurnLine → Bool
counts_rows line = nat_lt 0 (line.rows_r + line.rows_s)

-- each line with rows of a journal that a controller makes of not too many has its point
abbrev pub EachHasItsPoint : Type 0
EachHasItsPoint =
    (rules : Rules) (first : TurnLine) (journal : List TurnLine) → Fits rules first
    → Follows rules first (reverse journal) → All IsFew journal
    → points_of rules.k rules.weights journal ≡ map (point_of rules.k rules.weights) (filter counts_rows journal)
