-- A run of several waves in which the joiners split into four behind one of them, and its output.
use Rattle.std.specs.Prelude.{◌≡◌, ◌++◌, ◌+◌, ℕ, Bool, List, [], Option, None, drop, flat_map, if◌then◌else◌}
use Rattle.std.specs.Prelude.{take}
use Rattle.row_cells.specs.declared.table.Side.TheVariants.{R, S}
use Rattle.grid_map.specs.declared.shape.Shape.{Shape}
use Rattle.grid_map.specs.Load.{copies}
use Rattle.load_controller.specs.declared.line.TurnLine.{TurnLine}
use Rattle.trace_law.specs.declared.input.Input.{Input}
use Rattle.trace_law.specs.declared.run.Run.{Run}
use Rattle.trace_law.specs.declared.setting.Setting.{Setting}
use Rattle.trace_law.specs.Family.{IsRestFor, Rest, first_rest}
use Rattle.trace_law.specs.Join.{row_count}
use Rattle.elastic_grow.specs.Growth.{grown_line, grown_setting}
use Rattle.join_runtime.specs.Endings.{EndsView}
use Rattle.join_report.specs.Report.{grown_report_of}
use Rattle.join_words.specs.Words.{Asked}
use Rattle.join_plan.specs.declared.waves.WaveEnd.{WaveEnd}
use Rattle.join_plan.specs.declared.fitting.Planned.{Planned}
use Rattle.join_cli.specs.Journals.{waves_in}
use Rattle.join_cli.specs.Left.{line_behind}
use Rattle.join_cli.specs.Plan.{input_of, setting_of}
use Rattle.join_cli.specs.Works.{WorkView, grown_work, work_asked}
use Rattle.join_cli.specs.WaveTexts.{lines_of, no_waves, run_of_waves, waves_over}
use Rattle.join_cli.specs.Waves.{WentThrough, no_rows, waves_pairs}

-- ---- how it went

-- the line with which the waves behind the growth begin, where the waves before it have these journals
abbrev pub grown_from : Setting → List (List TurnLine) → TurnLine
grown_from setting journals = grown_line setting.weights setting.k (line_behind (first_rest setting).line journals)

-- so many waves went, then each joiner split into four, and then the others went: the first of them from a rest with
-- the grown line of the last before, which stands for the input in the grown grid
pub record WentGrown (work : WorkView) (wave : ℕ) (ends : List WaveEnd) (journals : List (List TurnLine))
    (before since : List (List EndsView)) : Type 0 where
  pub early : WentThrough work (first_rest work.setting) (take wave ends) (take wave journals) before
  pub grown : Rest
  pub line_is : grown.line ≡ grown_from work.setting (take wave journals)
  pub stands : IsRestFor work.input (grown_setting work.setting) grown
  pub onward : WentThrough (grown_work work) grown (drop wave ends) (drop wave journals) since

-- what is answered of a run of several waves with a growth behind so many of them, as a replay where it has a number:
-- no shift is fixed, the journals of all waves one after the other, and what shows how each went
pub record AreGrownWavesOf (number : Option ℕ) (wave : ℕ) (asked : Asked) (planned : Planned)
    (journal : List TurnLine) (trail : List EndsView) : Type 0 where
  pub free : (setting_of asked).fixed ≡ None
  pub before : List (List EndsView)
  pub since : List (List EndsView)
  pub trail_is : trail ≡ flat_map (λ left. left) (before ++ since)
  pub went : WentGrown (work_asked number asked planned) wave planned.ends (waves_in journal) before since

-- ---- the output

-- the shape of the grid that joiners split into, which begins with this line
abbrev pub grown_shape : Setting → TurnLine → Shape
grown_shape setting line = record { k = setting.k + 2; shift = line.shift }

-- how many tuples its joiners have stored together at that line: each row of R in each of its columns, and each of S in
-- each of its rows
abbrev pub placed_at : Shape → TurnLine → ℕ
placed_at shape line = copies shape.k shape.shift line.rows_r line.rows_s

-- the report of the waves before a growth, of the growth to this line, and of the waves since, where it is asked for
abbrev pub bare_grown_report_of : Bool → Setting → ℕ → ℕ → Run → TurnLine → Run → List ℕ
bare_grown_report_of report setting rows_r rows_s before line since =
    if report then grown_report_of setting rows_r rows_s before (grown_shape setting line)
    (placed_at (grown_shape setting line) line) since else []

-- the waves behind a growth in one, of which the first begins with this line: no joiner of the grown grid has made a
-- pair before
abbrev pub waves_since : Input → Setting → TurnLine → List WaveEnd → List (List TurnLine) → Run
waves_since input setting line ends journals =
    waves_over input (grown_setting setting) line (no_waves (grown_setting setting)) ends journals

-- the report of these waves, and of those with these journals behind a growth
abbrev pub grown_waves_report : Bool → Input → Setting → List WaveEnd → List (List TurnLine) → List WaveEnd
    → List (List TurnLine) → List ℕ
grown_waves_report report input setting ends journals later more =
    bare_grown_report_of report setting (row_count input R) (row_count input S)
    (run_of_waves input setting ends journals) (grown_from setting journals)
    (waves_since input setting (grown_from setting journals) later more)

-- the lines of all waves' pairs, and then the report where it is asked for
abbrev pub grown_text : Asked → Input → Setting → ℕ → List WaveEnd → List (List TurnLine) → List ℕ
grown_text asked input setting wave ends journals =
    lines_of asked.rows input (waves_pairs input no_rows ends)
    ++ grown_waves_report asked.report input setting (take wave ends) (take wave journals) (drop wave ends)
    (drop wave journals)

-- the output that is asked for of a plan of several waves with a growth behind so many, over their journals one after
-- the other
abbrev pub grown_output_of : ℕ → Asked → Planned → List TurnLine → List ℕ
grown_output_of wave asked planned journal =
    grown_text asked (input_of asked.seed planned) (setting_of asked) wave planned.ends (waves_in journal)
