-- The next line, by whether a step is still open.
use Rattle.std.specs.Prelude.{ℕ, ◌+◌, ◌*◌, ◌==◌, Bool, not, ◌&&◌, ◌||◌, is_none, Option, if◌then◌else◌}
use Rattle.grid_map.specs.declared.cost.Weights.{Weights}
use Rattle.grid_map.specs.Load.{best_shift}
use Rattle.migration_plan.specs.Steps.{next_step}
use Rattle.load_controller.specs.declared.line.Cause.{Cause}
use Rattle.load_controller.specs.declared.line.TurnLine.{TurnLine}
use Rattle.load_controller.specs.Journal.{has_doubled, counted_r, counted_s}

-- a decision is due
abbrev pub decides_by : Option ℕ → TurnLine → Bool → Cause → Bool
decides_by fixed before opens cause =
    not opens && is_none fixed
    && (has_doubled before.base_r (before.rows_r + counted_r cause)
    || has_doubled before.base_s (before.rows_s + counted_s cause))

-- the goal after it
abbrev pub goal_by : ℕ → Option ℕ → Weights → TurnLine → Bool → Cause → ℕ
goal_by k fixed weights before opens cause =
    if decides_by fixed before opens cause
    then best_shift k before.shift (weights.r * (before.rows_r + counted_r cause))
    (weights.s * (before.rows_s + counted_s cause)) else before.goal

-- a step starts
abbrev pub steps_by : ℕ → Option ℕ → Weights → TurnLine → Bool → Cause → Bool
steps_by k fixed weights before opens cause =
    not opens && not (before.shift == goal_by k fixed weights before opens cause)

-- the line, as `line_after` has it
abbrev pub line_by : ℕ → Option ℕ → Weights → TurnLine → Bool → Cause → TurnLine
line_by k fixed weights before opens cause = record {
  cause = cause;
  rows_r = before.rows_r + counted_r cause;
  rows_s = before.rows_s + counted_s cause;
  base_r = if decides_by fixed before opens cause then before.rows_r + counted_r cause else before.base_r;
  base_s = if decides_by fixed before opens cause then before.rows_s + counted_s cause else before.base_s;
  epoch = if steps_by k fixed weights before opens cause then before.epoch + 1 else before.epoch;
  shift =
      if steps_by k fixed weights before opens cause
      then next_step before.shift (goal_by k fixed weights before opens cause) else before.shift;
  goal = goal_by k fixed weights before opens cause;
  moving = opens || steps_by k fixed weights before opens cause;
}
