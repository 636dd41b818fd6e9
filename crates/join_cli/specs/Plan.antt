-- What is run of a plan, and what is written of it.
use Rattle.std.specs.Prelude.{◌≡◌, ◌^◌, ◌++◌, ℕ, Bool, true, false, All, List, [], length, map, Option, None, Some}
use Rattle.std.specs.Prelude.{if◌then◌else◌}
use Rattle.std.specs.List.{range_with_len}
use Rattle.join_rows.specs.Records.{IsTable}
use Rattle.row_cells.specs.declared.table.Side.TheVariants.{R, S}
use Rattle.trace_law.specs.declared.input.Input.{Input}
use Rattle.trace_law.specs.declared.run.Run.{Run}
use Rattle.trace_law.specs.declared.setting.Setting.{Setting}
use Rattle.trace_law.specs.Join.{nested_loop, row_count}
use Rattle.trace_law.specs.Batches.{size_of}
use Rattle.trace_law.specs.Family.{batches, first_rest, migrations, rules_of}
use Rattle.trace_law.specs.Runs.{AreNear, StaysAt, load_over, made_over, moved_over}
use Rattle.load_controller.specs.declared.line.TurnLine.{TurnLine}
use Rattle.load_controller.specs.Journal.{IsLawful, begun, last_epoch}
use Rattle.join_report.specs.PairLines.{pair_lines}
use Rattle.join_report.specs.Report.{report_of}
use Rattle.join_report.specs.RowLines.{row_lines}
use Rattle.join_report.specs.Summary.{summary_of}
use Rattle.chain_join.specs.Chains.{tickets_of}
use Rattle.join_words.specs.Words.{Asked, grid_of}
use Rattle.theta_pred.specs.Formula.{Meaning}
use Rattle.join_plan.specs.declared.files.Tables.{Tables}
use Rattle.join_plan.specs.declared.fitting.Planned.{Planned}

-- ---- the run

-- tables and a predicate, with the tickets of a seed
abbrev pub input_with : ℕ → Tables → Meaning → Input
input_with seed tables theta = record {
  table_r = tables.of_r;
  table_s = tables.of_s;
  theta = theta;
  tickets_r = tickets_of seed R tables.of_r.rows;
  tickets_s = tickets_of seed S tables.of_s.rows;
}

-- tables with few rows, each as wide as its header, and a predicate over their headers
pub record FitTables (tables : Tables) (theta : Meaning) : Type 0 where
  pub table_r : IsTable tables.of_r
  pub table_s : IsTable tables.of_s
  pub width_r : theta.width_r ≡ length tables.of_r.names
  pub width_s : theta.width_s ≡ length tables.of_s.names

-- what is joined first of a plan
abbrev pub input_of : ℕ → Planned → Input
input_of seed planned = input_with seed planned.tables planned.theta

-- the setting that the words ask for
abbrev pub setting_of : Asked → Setting
setting_of asked = record {
  k = (grid_of asked.kind).k;
  feeders = asked.feeders;
  workers = asked.workers;
  batch = asked.batch;
  feed = asked.feed;
  fixed = (grid_of asked.kind).fixed;
  weights = asked.weights;
}

-- the journal is that of a lawful controller, which begins with no rows and counts all
abbrev pub IsLawfulFor : Input → Setting → List TurnLine → Type 0
IsLawfulFor input setting journal =
    let first = (first_rest setting).line in
    IsLawful (rules_of setting) (begun first) (λ p. map size_of (batches input setting first p)) journal

-- the journal of a lawful controller of this run; each line that isn't moving is near the best grid for its counts and
-- for what rows weigh, and where the shift is fixed there is one epoch, whose lines all have it
pub record IsJournalOver (input : Input) (setting : Setting) (journal : List TurnLine) : Type 0 where
  pub lawful : IsLawfulFor input setting journal
  pub near : setting.fixed ≡ None → AreNear setting.k setting.weights journal
  pub one_epoch : (shift : ℕ) → setting.fixed ≡ Some shift → last_epoch journal ≡ 0
  pub stays : (shift : ℕ) → setting.fixed ≡ Some shift → All (StaysAt 0 shift) journal

-- that of the run of a plan, of joiners in one grid
abbrev pub IsJournalOf : Asked → Planned → List TurnLine → Type 0
IsJournalOf asked planned journal = IsJournalOver (input_of asked.seed planned) (setting_of asked) journal

-- ---- the output

-- the run with this journal: the nested loop's pairs, and the numbers of the closed formulas over the journal
abbrev pub run_over : Input → Setting → List TurnLine → Run
run_over input setting journal = record {
  pairs = nested_loop input;
  made = map (made_over input setting (first_rest setting).line journal) (range_with_len 0 (2 ^ setting.k));
  loads = map (load_over input setting (first_rest setting).line journal) (range_with_len 0 (2 ^ setting.k));
  moved = map (moved_over input setting (first_rest setting).line journal)
      (range_with_len 0 (migrations (first_rest setting).line journal));
  journal = journal;
  bouts = 0;
}

-- its report
abbrev pub report_over : Input → Setting → List TurnLine → List ℕ
report_over input setting journal = report_of setting (row_count input R) (row_count input S)
    (run_over input setting journal)

-- the nested loop's pairs: the numbers of their rows, or the rows themselves; of made tables a summary of them
abbrev pub answer_of : Option ℕ → Bool → Input → List ℕ
answer_of None false input = pair_lines (nested_loop input)
answer_of None true input = row_lines input.table_r.rows input.table_s.rows (nested_loop input)
answer_of (Some count) rows input = summary_of (row_count input R) (row_count input S) (nested_loop input)

-- the report of a run over so many rows a side, where one is asked for
abbrev pub bare_report_of : Bool → Setting → ℕ → ℕ → Run → List ℕ
bare_report_of report setting rows_r rows_s run = if report then report_of setting rows_r rows_s run else []

-- the report where one is asked for
abbrev pub report_asked : Bool → Input → Setting → List TurnLine → List ℕ
report_asked report input setting journal = if report then report_over input setting journal else []

-- the answer, and then the report
abbrev pub text_of : Asked → Input → Setting → List TurnLine → List ℕ
text_of asked input setting journal = answer_of asked.make asked.rows input
    ++ report_asked asked.report input setting journal

-- the output that is asked for of a plan, over a journal
abbrev pub output_of : Asked → Planned → List TurnLine → List ℕ
output_of asked planned journal = text_of asked (input_of asked.seed planned) (setting_of asked) journal

-- with a fixed shift the output is the same over each such journal
abbrev pub FixedOutputIsOne : Type 0
FixedOutputIsOne = (asked : Asked) (planned : Planned) (shift : ℕ) (one other : List TurnLine)
    → (grid_of asked.kind).fixed ≡ Some shift
    → IsJournalOf asked planned one → IsJournalOf asked planned other
    → output_of asked planned one ≡ output_of asked planned other
