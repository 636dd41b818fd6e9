-- The report of a run of this setting, with x rows of R and y of S, and of one whose joiners have split.
use Rattle.std.specs.Prelude.{ℕ, ◌+◌, ◌*◌, ◌^◌, ◌≤◌, ◌<◌, All, List, [], Option, None, Some, length, map}
use Rattle.std.specs.List.{enumerate_from}
use Rattle.std.specs.Simd.Lanes.{zip2}
use Rattle.grid_map.specs.Grid.{rows, columns}
use Rattle.grid_map.specs.declared.cost.Weights.{Weights}
use Rattle.grid_map.specs.declared.shape.Shape.{Shape}
use Rattle.grid_map.specs.Load.{copies, best_shift}
use Rattle.load_controller.specs.declared.line.TurnLine.{TurnLine}
use Rattle.load_controller.specs.Journal.{last_epoch, shift_at}
use Rattle.pair_collector.specs.declared.collected.Held.{Held}
use Rattle.trace_law.specs.declared.setting.Setting.{Setting}
use Rattle.trace_law.specs.declared.run.Run.{Run}
use Rattle.trace_law.specs.Family.{first_rest}
use Rattle.report_lines.specs.declared.report_numbers.Growth.{Growth}
use Rattle.report_lines.specs.declared.report_numbers.Joiner.{Joiner}
use Rattle.report_lines.specs.declared.report_numbers.Report.{Report}
use Rattle.report_lines.specs.declared.report_numbers.Step.{Step}
use Rattle.report_lines.specs.Lines.{report_lines}
use Rattle.join_report.specs.declared.told.GrownRun.{GrownRun}

-- the shifts of a journal are those of a grid of 2 ^ k joiners
abbrev pub AreWithin : ℕ → List TurnLine → Type 0
AreWithin k journal = All (λ line. line.shift ≤ k) journal

-- what is asked of a run whose joiners have split: no shift past its grid, of 2 ^ k joiners before the growth and at
-- most 2 ^ 8 since, and few steps
pub record IsGrownWithin (k : ℕ) (grown : GrownRun) : Type 0 where
  pub before : AreWithin k grown.before.now.journal
  pub shift : grown.shape.shift ≤ grown.shape.k
  pub size : grown.shape.k ≤ 8
  pub after : AreWithin grown.shape.k grown.after.now.journal
  pub steps : length grown.before.now.moved + length grown.after.now.moved < 2 ^ 32

-- ---- what is told

-- the shift of the first epoch
abbrev pub first_shift : Setting → ℕ
first_shift setting = (first_rest setting).line.shift

-- the shift of the last epoch of waves that begin at this one
abbrev pub last_shift_from : ℕ → List TurnLine → ℕ
last_shift_from first journal = shift_at first (last_epoch journal) journal

-- the shift of the last epoch
abbrev pub last_shift : Setting → List TurnLine → ℕ
last_shift setting journal = last_shift_from (first_shift setting) journal

-- the step to an epoch: its grid, that of 2 ^ k joiners at this shift, and how many rows moved
abbrev pub step_at : ℕ → ℕ → ℕ → Step
step_at k b moved = record { n = rows k b; m = columns b; moved = moved }

-- the steps of waves that begin at this shift and behind so many steps
abbrev pub steps_told : ℕ → ℕ → ℕ → List TurnLine → List ℕ → List Step
steps_told k first before journal moved =
    map (λ step. step_at k (shift_at first (step.0 + 1) journal) step.1) (enumerate_from before moved)

-- the grid that joiners have split into, and how many tuples the new ones were given
abbrev pub growth_told : Shape → ℕ → Growth
growth_told shape placed = record { n = rows shape.k shape.shift; m = columns shape.shift; placed = placed }

-- what a joiner holds, and how many pairs it made
abbrev pub joiner_told : Held → ℕ → Joiner
joiner_told held made = record { rows_r = held.rows_r; rows_s = held.rows_s; made = made }

-- all joiners, by their ids
abbrev pub joiners_told : List Held → List ℕ → List Joiner
joiners_told loads made = zip2 joiner_told loads made

-- the fewest copies that the joiners can hold at any shift, x and y being the weights of all rows
abbrev pub least_copies : ℕ → ℕ → ℕ → ℕ → ℕ
least_copies k b x y = copies k (best_shift k b x y) x y

-- what is told of these steps, a growth and the steps since, which end in the grid of 2 ^ k joiners at shift b: its
-- copies, each counting the weight of its side, the fewest, and its joiners
abbrev pub told_at : Weights → (x y : ℕ) → List Step → Option Growth → List Step → (k b : ℕ) → List Joiner → Report
told_at weights x y steps growth later k b joiners = record {
  x = x;
  y = y;
  steps = steps;
  growth = growth;
  later = later;
  n = rows k b;
  m = columns b;
  copies = copies k b (weights.r * x) (weights.s * y);
  best = least_copies k b (weights.r * x) (weights.s * y);
  joiners = joiners;
}

-- what the report of a run tells: the rows of both sides, the steps, the last grid, and the joiners
abbrev pub told : Setting → ℕ → ℕ → Run → Report
told setting x y run =
    told_at setting.weights x y (steps_told setting.k (first_shift setting) 0 run.journal run.moved) None []
    setting.k (last_shift setting run.journal) (joiners_told run.loads run.made)

-- the same of a run whose joiners have split: the steps before, the grid that they split into, and the steps since
abbrev pub grown_told : Setting → ℕ → ℕ → Run → Shape → ℕ → Run → Report
grown_told setting x y before shape placed after =
    told_at setting.weights x y (steps_told setting.k (first_shift setting) 0 before.journal before.moved)
    (Some (growth_told shape placed))
    (steps_told shape.k shape.shift (length before.moved) after.journal after.moved)
    shape.k (last_shift_from shape.shift after.journal) (joiners_told after.loads after.made)

-- ---- its lines

-- those of a run
abbrev pub report_of : Setting → ℕ → ℕ → Run → List ℕ
report_of setting x y run = report_lines (told setting x y run)

-- those of a run whose joiners have split
abbrev pub grown_report_of : Setting → ℕ → ℕ → Run → Shape → ℕ → Run → List ℕ
grown_report_of setting x y before shape placed after = report_lines (grown_told setting x y before shape placed after)
