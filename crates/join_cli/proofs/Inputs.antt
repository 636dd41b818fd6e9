-- What is joined is a valid input, and the journal of its run one of a lawful controller.
use Rattle.std.proofs.Common.{◌≡◌, ◌<◌, ◌^◌, ℕ, false, List, Option, All, length, sym, ◌∙◌, ap, subst}
use Rattle.std.proofs.lemmas.List.FromFn.{length-map-range_with_len}
use Rattle.join_rows.specs.Records.{IsTable}
use Rattle.row_cells.specs.declared.table.Side.{Side}
use Rattle.row_cells.specs.declared.table.Side.TheVariants.{R, S}
use Rattle.row_cells.specs.declared.table.Table.{Table}
use Rattle.row_tickets.specs.Tickets.{ticket_of}
use Rattle.theta_pred.specs.Formula.{Meaning}
use Rattle.chain_join.specs.Chains.{tickets_of}
use Rattle.join_plan.specs.declared.files.Tables.{Tables}
use Rattle.trace_law.specs.Family.{first_rest}
use Rattle.trace_law.specs.Validity.{IsFor, IsValid, IsValidInput, IsValidSetting}
use Rattle.trace_law.specs.declared.input.Input.{Input}
use Rattle.trace_law.specs.declared.run.Run.{Run}
use Rattle.trace_law.specs.declared.setting.Setting.{Setting}
use Rattle.trace_law.proofs.First.{stands as first_stands}
use Rattle.trace_law.proofs.FixedShift.{all_stay, no_migration}
use Rattle.trace_law.proofs.Validity.{both_sides, within_limits}
use Rattle.join_words.specs.Words.{Asked}
use Rattle.join_plan.specs.declared.fitting.Planned.{Planned}
use Rattle.join_runtime.specs.Endings.{EndsView}
use Rattle.ring_runtime.specs.Endings.{lists_left}
use Rattle.ring_runtime.specs.declared.ends.RingRun.{RingRun}
use Rattle.actor_core.specs.Players.{IsFinishedFamily}
use Rattle.join_cli.specs.declared.work.Work.{Work}
use Rattle.join_cli.specs.Courses.{IsCourseOf, IsOverRings, WentAs}
use Rattle.join_cli.specs.Plan.{FitTables, IsJournalOf, IsJournalOver, input_of, output_of, text_of}
use Rattle.join_cli.specs.Works.{IsWorkOf}
use Rattle.load_controller.specs.declared.line.TurnLine.{TurnLine}
use Rattle.join_cli.specs.Works.{IsWholeRun, WorkView, view_of, work_asked}
use Rattle.actor_core.specs.Tasks.{task_of, IsRun}

fits : (seed : ℕ) (side : Side) (table : Table) (tickets : List ℕ) (width : ℕ) → IsTable table
    → tickets ≡ tickets_of seed side table.rows
    → width ≡ length table.names → IsFor table tickets width
fits seed side table tickets width is drawn same = record {
  few = is.few;
  each = ap length drawn ∙ length-map-range_with_len (ticket_of seed side) 0 (length table.rows);
  header = sym same;
  rows = subst (λ w. All (λ row. length row ≡ w) table.rows) (sym same) is.wide;
}

-- tables that a predicate fits are a valid input with the tickets of a seed
module _ (seed : ℕ) (tables : Tables) (theta : Meaning) (tickets_r tickets_s : List ℕ) where
  abbrev made : Input
  made = record {
    table_r = tables.of_r;
    table_s = tables.of_s;
    theta = theta;
    tickets_r = tickets_r;
    tickets_s = tickets_s;
  }

  pub valid_input : FitTables tables theta → tickets_r ≡ tickets_of seed R tables.of_r.rows
      → tickets_s ≡ tickets_of seed S tables.of_s.rows → All (λ ticket. ticket < 2 ^ 8) tickets_r
      → All (λ ticket. ticket < 2 ^ 8) tickets_s → IsValidInput made
  valid_input fit drawn_r drawn_s bytes_r bytes_s =
      both_sides made (fits seed R tables.of_r tickets_r theta.width_r fit.table_r drawn_r fit.width_r)
      (fits seed S tables.of_s tickets_s theta.width_s fit.table_s drawn_s fit.width_s) bytes_r bytes_s

-- what a run promises of its journal
pub journal_over : (input : Input) (setting : Setting) (run : Run) → IsValidInput input → IsValidSetting setting
    → IsRun (task_of input setting) run.journal run → IsJournalOver input setting run.journal
journal_over input setting run of_input of_setting is =
    let first = (first_rest setting).line in
    let valid : IsValid input setting = within_limits input setting of_input of_setting in
    let stands = (first_stands input setting valid).line in
    record {
      lawful = is.lawful;
      near = is.near;
      one_epoch = λ shift fixed. no_migration input setting first stands run.journal is.lawful.so_far shift fixed;
      stays = λ shift fixed. all_stay input setting first stands run.journal is.lawful.so_far shift fixed;
    }

-- ---- of what was asked for

-- what runs for a plan is the plan's
pub view_is : (asked : Asked) (planned : Planned) (work : Work) → work.input.now ≡ input_of asked.seed planned
    → IsWorkOf asked work → view_of work ≡ work_asked work.number asked planned
view_is asked planned work input_is of =
    ap (λ (i : Input). record (view_of work) { input = i }) input_is
    ∙ ap (λ (s : Setting). record (view_of work) { input = input_of asked.seed planned; setting = s }) of.setting

module _ (asked : Asked) (planned : Planned) (work : Work) (input_is : work.input.now ≡ input_of asked.seed planned)
    (of : IsWorkOf asked work) where
  abbrev same : view_of work ≡ work_asked work.number asked planned
  same = view_is asked planned work input_is of

  -- the journal of its run
  journal_of_run : (run : Run) → IsWholeRun work run → IsJournalOf asked planned run.journal
  journal_of_run run is =
      subst (λ (w : WorkView). IsJournalOver w.input w.setting run.journal) same
      (journal_over work.input.now work.setting.now run work.valid_input work.valid_setting is)

  -- and what shows how it went, as a replay where it has a number
  pub course_of_run : (number : Option ℕ) (run : Run) (trail : List EndsView) → IsWholeRun work run
      → WentAs number work.input.now work.setting.now run.journal trail
      → IsCourseOf number asked planned run.journal trail
  course_of_run number run trail is went = record {
    lawful = journal_of_run run is;
    went = subst (λ (w : WorkView). WentAs number w.input w.setting run.journal trail) same went;
  }

  -- of a run over rings, which has fallen back or hasn't
  pub course_over_rings : (told : RingRun) → IsWholeRun work told.run → told.fallen ≡ false
      → IsFinishedFamily (task_of work.input.now work.setting.now) told.run.journal (lists_left told.ends)
      → IsOverRings asked planned told.run.journal told.ends told.fallen
  course_over_rings told is kept family = record {
    lawful = journal_of_run told.run is;
    kept = kept;
    family =
        subst (λ (w : WorkView). IsFinishedFamily (task_of w.input w.setting) told.run.journal (lists_left told.ends))
        same family;
  }

  -- the text over an input is the output over a plan that it is of
  pub output_is : (journal : List TurnLine) (text : List ℕ)
      → text ≡ text_of asked work.input.now work.setting.now journal → text ≡ output_of asked planned journal
  output_is journal text is = is ∙ ap (λ (w : WorkView). text_of asked w.input w.setting journal) same
