-- The growth of what a wave leaves.
use Rattle.std.specs.Prelude.{ℕ, ◌+◌, ◌*◌, ◌^◌, Some, List, slice_get}
use Rattle.grid_map.specs.declared.cost.Weights.{Weights}
use Rattle.grid_map.specs.Load.{best_shift}
use Rattle.theta_pred.specs.Formula.{Meaning}
use Rattle.store_parts.specs.Stored.{Stored}
use Rattle.load_controller.specs.declared.line.Cause.TheVariants.{Wave}
use Rattle.load_controller.specs.declared.line.TurnLine.{TurnLine}
use Rattle.trace_law.specs.declared.setting.Setting.{Setting}
use Rattle.elastic_grow.specs.Children.{parent_of}
use Rattle.elastic_grow.specs.Stores.{AreKept, IsWhole}

-- the line with which a wave begins in the grown grid: the same counts and epoch, the counts as those of the last
-- decision, and as shift and goal the best there, one more than the line's where it is among the best
abbrev pub grown_line : Weights → ℕ → TurnLine → TurnLine
grown_line weights k line =
    let shift = best_shift (k + 2) (line.shift + 1) (weights.r * line.rows_r) (weights.s * line.rows_s) in
    record {
      cause = Wave;
      rows_r = line.rows_r;
      rows_s = line.rows_s;
      base_r = line.rows_r;
      base_s = line.rows_s;
      epoch = line.epoch;
      shift = shift;
      goal = shift;
      moving = line.moving;
    }

-- the same setting of a run with four times as many joiners
abbrev pub grown_setting : Setting → Setting
grown_setting setting = record setting { k = setting.k + 2 }

-- the stores of the grown grid at this shift are parts of those of the old one at shift b, each of its parent's
abbrev pub AreOfParents : ℕ → ℕ → ℕ → List Stored → List Stored → Type 0
AreOfParents k b shift old new =
    AreKept (record { k = k + 2; shift = shift }) (λ j. slice_get old (parent_of b j)) (2 ^ (k + 2)) new

-- they are parts of one store with all rows
pub record AreOfOne (theta : Meaning) (k b shift : ℕ) (old new : List Stored) : Type 0 where
  pub whole : Stored
  pub is_whole : IsWhole theta k b old whole
  pub parts : AreKept (record { k = k + 2; shift = shift }) (λ j. Some whole) (2 ^ (k + 2)) new
