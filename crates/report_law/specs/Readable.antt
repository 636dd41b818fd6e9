-- When the report of a run can be read back.
use Rattle.std.specs.Prelude.{◌≡◌, ◌<◌, ◌≤◌, ◌^◌, ℕ, All, List, length}
use Rattle.grid_map.specs.declared.shape.Shape.{Shape}
use Rattle.row_cells.specs.declared.table.Side.TheVariants.{R, S}
use Rattle.load_controller.specs.declared.line.TurnLine.{TurnLine}
use Rattle.pair_collector.specs.declared.collected.Held.{Held}
use Rattle.trace_law.specs.declared.input.Input.{Input}
use Rattle.trace_law.specs.declared.run.Run.{Run}
use Rattle.trace_law.specs.declared.setting.Setting.{Setting}
use Rattle.trace_law.specs.Family.{first_rest}
use Rattle.trace_law.specs.Join.{row_count}
use Rattle.trace_law.specs.Runs.{IsRunOf}
use Rattle.trace_law.specs.Validity.{IsValidInput, IsValidSetting}
use Rattle.report_lines.specs.declared.report_numbers.Report.{Report}
use Rattle.report_lines.specs.Grids.{IsWhole}
use Rattle.report_lines.specs.Lines.{report_lines}
use Rattle.join_report.specs.Report.{AreWithin, grown_report_of, grown_told, report_of, told}
use Rattle.report_picture.specs.Reading.{NumbersFit}

-- the text is the lines of this report, which is whole, and whose numbers fit 64 bits: just this is what `read_report`
-- reads from a text that ends with it
pub record IsReadAs (text : List ℕ) (report : Report) : Type 0 where
  pub lines : report_lines report ≡ text
  pub whole : IsWhole report
  pub fit : NumbersFit report

-- a number of rows or pairs fits 64 bits
abbrev pub CountFits : ℕ → Type 0
CountFits count = count < 2 ^ 64

-- so do the two of a joiner's load
abbrev pub LoadFits : Held → Type 0
LoadFits load = CountFits load.rows_r × CountFits load.rows_s

-- no step of waves over this journal leaves the grid of 2 ^ k joiners, and there are at most 2 ^ 16
pub record AreSteps (k : ℕ) (journal : List TurnLine) (moved : List ℕ) : Type 0 where
  pub shifts : AreWithin k journal
  pub few : length moved ≤ 2 ^ 16
  pub fit : All CountFits moved

-- each of 2 ^ k joiners has told its load and how many pairs it made
pub record AreJoiners (k : ℕ) (loads : List Held) (made : List ℕ) : Type 0 where
  pub all_loads : length loads ≡ 2 ^ k
  pub all_made : length made ≡ 2 ^ k
  pub loads_fit : All LoadFits loads
  pub made_fit : All CountFits made

-- what a report asks of a run, to be read back
pub record IsReportable (setting : Setting) (x y : ℕ) (run : Run) : Type 0 where
  pub valid : IsValidSetting setting
  pub few_r : x ≤ 2 ^ 32
  pub few_s : y ≤ 2 ^ 32
  pub steps : AreSteps setting.k run.journal run.moved
  pub joiners : AreJoiners setting.k run.loads run.made

-- what it asks of a run whose joiners have split
pub record IsGrownReportable (setting : Setting) (x y : ℕ) (before : Run) (shape : Shape) (placed : ℕ)
    (after : Run) : Type 0 where
  pub valid : IsValidSetting setting
  pub few_r : x ≤ 2 ^ 32
  pub few_s : y ≤ 2 ^ 32
  pub earlier : AreSteps setting.k before.journal before.moved
  pub small : shape.k ≤ 8
  pub shift : shape.shift ≤ shape.k
  pub few_placed : CountFits placed
  pub later : AreSteps shape.k after.journal after.moved
  pub joiners : AreJoiners shape.k after.loads after.made

-- ---- the laws

-- the report of a run that has what a report asks for can be read back
abbrev pub ReportableIsRead : Type 0
ReportableIsRead = (setting : Setting) (x y : ℕ) (run : Run) → IsReportable setting x y run
    → IsReadAs (report_of setting x y run) (told setting x y run)

-- so can that of a run whose joiners have split
abbrev pub GrownReportableIsRead : Type 0
GrownReportableIsRead = (setting : Setting) (x y : ℕ) (before : Run) (shape : Shape) (placed : ℕ)
    (after : Run) → IsGrownReportable setting x y before shape placed after
    → IsReadAs (grown_report_of setting x y before shape placed after)
    (grown_told setting x y before shape placed after)

-- each run of a valid input and setting has what a report asks for, so its report can be read back
abbrev pub ReportsAreRead : Type 0
ReportsAreRead = (input : Input) (setting : Setting) (run : Run) → IsValidInput input
    → IsValidSetting setting → IsRunOf input setting (first_rest setting).line run.journal run
    → IsReadAs (report_of setting (row_count input R) (row_count input S) run)
    (told setting (row_count input R) (row_count input S) run)
