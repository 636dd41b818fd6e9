-- What was run and made of several waves is what is asked for.
use Rattle.std.proofs.Common.{◌≡◌, ◌∙◌, ℕ, List, ◌++◌, sym, ap, subst}
use Rattle.row_cells.specs.declared.table.Side.TheVariants.{R, S}
use Rattle.trace_law.specs.declared.run.Run.{Run}
use Rattle.trace_law.specs.Family.{first_rest}
use Rattle.trace_law.specs.Join.{row_count}
use Rattle.join_runtime.specs.Endings.{EndsView}
use Rattle.join_words.specs.Words.{Asked}
use Rattle.join_plan.specs.declared.waves.WaveEnd.{WaveEnd}
use Rattle.join_plan.specs.declared.fitting.Planned.{Planned}
use Rattle.join_cli.specs.Journals.{waves_in}
use Rattle.join_cli.specs.declared.work.Work.{Work}
use Rattle.join_cli.specs.Plan.{bare_report_of, input_of}
use Rattle.join_cli.specs.Works.{IsWorkOf}
use Rattle.join_cli.specs.WaveSteps.{AreAllWaves}
use Rattle.join_cli.specs.WaveTexts.{lines_of, waves_output_of, waves_text}
use Rattle.join_cli.specs.Waves.{AreWavesOf, WentThrough, no_rows, waves_pairs}
use Rattle.join_cli.proofs.WaveFacts.{journals_are}
use Rattle.join_cli.specs.Works.{WorkView, view_of}
use Rattle.join_cli.proofs.Inputs.{view_is}

module _ (work : Work) (ends : List WaveEnd) (run : Run) (trail : List EndsView)
    (all : AreAllWaves (view_of work) ends run trail) where
  -- what they have is the journal's
  abbrev parted : waves_in run.journal ≡ all.journals
  parted = journals_are (view_of work) ends run trail all work.valid_setting

  -- the text over all waves in one is that over their journals
  text_is : (asked : Asked) (text : List ℕ) → text ≡ lines_of asked.rows work.input.now run.pairs
      ++ bare_report_of asked.report work.setting.now (row_count work.input.now R) (row_count work.input.now S) run
      → text ≡ waves_text asked work.input.now work.setting.now ends (waves_in run.journal)
  text_is asked text is =
      let input = work.input.now in
      let setting = work.setting.now in
      let x = row_count input R in
      let y = row_count input S in
      let pairs = waves_pairs input no_rows ends in
      is ∙ ap (λ ps. lines_of asked.rows input ps ++ bare_report_of asked.report setting x y run) all.pairs
      ∙ ap (λ r. lines_of asked.rows input pairs ++ bare_report_of asked.report setting x y r) all.run_is
      ∙ ap (λ js. waves_text asked input setting ends js) (sym parted)

  -- they went through the waves of the journal
  went_is : WentThrough (view_of work) (first_rest work.setting.now) ends (waves_in run.journal) all.trails
  went_is =
      subst (λ js. WentThrough (view_of work) (first_rest work.setting.now) ends js all.trails) (sym parted) all.went

-- so they are the waves of what was asked for, and the text is their output
pub waves_are : (asked : Asked) (planned : Planned) (work : Work) (run : Run) (trail : List EndsView)
    (text : List ℕ) → work.input.now ≡ input_of asked.seed planned → IsWorkOf asked work
    → AreAllWaves (view_of work) planned.ends run trail
    → text ≡ lines_of asked.rows work.input.now run.pairs
    ++ bare_report_of asked.report work.setting.now (row_count work.input.now R) (row_count work.input.now S) run
    → AreWavesOf work.number asked planned run.journal trail × (text ≡ waves_output_of asked planned run.journal)
waves_are asked planned work run trail text input_is of all is =
    let same = view_is asked planned work input_is of in
    let journals = waves_in run.journal in (
      record {
        trails = all.trails;
        trail_is = all.trail_is;
        went =
            subst (λ (w : WorkView). WentThrough w (first_rest w.setting) planned.ends journals all.trails) same
            (went_is work planned.ends run trail all);
      },
      text_is work planned.ends run trail all asked text is
          ∙ ap (λ (w : WorkView). waves_text asked w.input w.setting planned.ends journals) same,
    )
