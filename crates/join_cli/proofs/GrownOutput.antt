-- What was run and made of several waves with a growth is what is asked for.
use Rattle.std.proofs.Common.{◌≡◌, ◌∙◌, ℕ, Bool, true, false, List, ◌++◌, None, drop, sym, ap, ap₂}
use Rattle.std.proofs.Common.{subst, take}
use Rattle.std.proofs.lemmas.Grind.{flat_map-append}
use Rattle.std.specs.Prelude.{flat_map}
use Rattle.row_cells.specs.declared.table.Side.TheVariants.{R, S}
use Rattle.epoch_tags.specs.declared.tuple.Pair.{Pair}
use Rattle.load_controller.specs.declared.line.TurnLine.{TurnLine}
use Rattle.trace_law.specs.declared.input.Input.{Input}
use Rattle.trace_law.specs.Family.{first_rest}
use Rattle.trace_law.specs.Join.{row_count}
use Rattle.join_report.specs.PairLines.{pair_line}
use Rattle.join_report.specs.RowLines.{row_line}
use Rattle.join_runtime.specs.Endings.{EndsView}
use Rattle.join_words.specs.Words.{Asked}
use Rattle.join_plan.specs.declared.waves.WaveEnd.{WaveEnd}
use Rattle.join_plan.specs.declared.fitting.Planned.{Planned}
use Rattle.join_cli.specs.declared.growth.Grown.{Grown}
use Rattle.join_cli.specs.declared.work.Work.{Work}
use Rattle.join_cli.specs.Grown.{AreGrownWavesOf, WentGrown, bare_grown_report_of, grown_from, grown_output_of}
use Rattle.join_cli.specs.Grown.{grown_text, grown_waves_report, waves_since}
use Rattle.join_cli.specs.GrownSteps.{AreGrownWaves}
use Rattle.join_cli.specs.Journals.{waves_in}
use Rattle.join_cli.specs.Plan.{input_of}
use Rattle.join_cli.specs.Works.{IsWorkOf}
use Rattle.join_cli.specs.WaveTexts.{lines_of, run_of_waves}
use Rattle.join_cli.specs.Waves.{WentThrough, no_rows, waves_pairs}
use Rattle.join_cli.proofs.GrownFacts.{early_journals, later_journals}
use Rattle.join_cli.specs.Works.{WorkView, view_of, grown_work}
use Rattle.join_cli.proofs.Inputs.{view_is}

-- the lines of pairs and of more behind them are those of both
pub lines_of_both : (rows : Bool) (input : Input) (pairs more : List Pair)
    → lines_of rows input pairs ++ lines_of rows input more ≡ lines_of rows input (pairs ++ more)
lines_of_both false input pairs more = sym (flat_map-append pair_line pairs more)
lines_of_both true input pairs more =
    sym (flat_map-append (row_line input.table_r.rows input.table_s.rows) pairs more)

module _ (work : Work) (wave : ℕ) (ends : List WaveEnd) (grown : Grown)
    (are : AreGrownWaves (view_of work) wave ends grown) where
  abbrev journal : List TurnLine
  journal = grown.before.journal ++ grown.since.journal

  abbrev early : take wave (waves_in journal) ≡ are.first.journals
  early = early_journals work wave ends grown are

  abbrev later : drop wave (waves_in journal) ≡ are.journals
  later = later_journals work wave ends grown are

  -- they went through the waves of the journal, with the growth
  went_grown : WentGrown (view_of work) wave ends (waves_in journal) are.first.trails are.trails
  went_grown = record {
    early = subst (λ js. WentThrough (view_of work) (first_rest work.setting.now) (take wave ends) js are.first.trails)
        (sym early) are.first.went;
    grown = are.rest;
    line_is = are.from ∙ are.line_is ∙ ap (grown_from work.setting.now) (sym early);
    stands = are.stands;
    onward = subst (λ js. WentThrough (grown_work (view_of work)) are.rest (drop wave ends) js are.trails)
        (sym later) are.onward;
  }

  -- the text over both is that over their journals
  grown_text_is : (asked : Asked) (text : List ℕ)
      → text ≡ (lines_of asked.rows work.input.now grown.before.pairs
      ++ lines_of asked.rows work.input.now grown.since.pairs)
      ++ bare_grown_report_of asked.report work.setting.now (row_count work.input.now R) (row_count work.input.now S)
      grown.before grown.line grown.since
      → text ≡ grown_text asked work.input.now work.setting.now wave ends (waves_in journal)
  grown_text_is asked text is =
      let input = work.input.now in
      let setting = work.setting.now in
      let x = row_count input R in
      let y = row_count input S in
      let pairs = lines_of asked.rows input (waves_pairs input no_rows ends) in
      let first = run_of_waves input setting (take wave ends) are.first.journals in
      let rows : lines_of asked.rows input grown.before.pairs ++ lines_of asked.rows input grown.since.pairs ≡ pairs =
      lines_of_both asked.rows input grown.before.pairs grown.since.pairs ∙ ap (lines_of asked.rows input) are.pairs in
      is
      ∙ ap (λ ls. ls ++ bare_grown_report_of asked.report setting x y grown.before grown.line grown.since) rows
      ∙ ap (λ r. pairs ++ bare_grown_report_of asked.report setting x y r grown.line grown.since) are.first.run_is
      ∙ ap (λ r. pairs ++ bare_grown_report_of asked.report setting x y first grown.line r) are.since_is
      ∙ ap (λ l. pairs ++ bare_grown_report_of asked.report setting x y first l
      (waves_since input setting l (drop wave ends) are.journals)) are.line_is
      ∙ ap₂ (λ js more. pairs ++ grown_waves_report asked.report input setting (take wave ends) js (drop wave ends)
      more) (sym early) (sym later)

module _ (asked : Asked) (planned : Planned) (work : Work) (wave : ℕ) (grown : Grown) (text : List ℕ) where
  -- so they are the waves of what was asked for, and the text is their output
  pub grown_are_asked : work.input.now ≡ input_of asked.seed planned → IsWorkOf asked work
      → work.setting.now.fixed ≡ None → AreGrownWaves (view_of work) wave planned.ends grown
      → text ≡ (lines_of asked.rows work.input.now grown.before.pairs
      ++ lines_of asked.rows work.input.now grown.since.pairs)
      ++ bare_grown_report_of asked.report work.setting.now (row_count work.input.now R) (row_count work.input.now S)
      grown.before grown.line grown.since
      → AreGrownWavesOf work.number wave asked planned (grown.before.journal ++ grown.since.journal) grown.trail
      × (text ≡ grown_output_of wave asked planned (grown.before.journal ++ grown.since.journal))
  grown_are_asked input_is of free are is =
      let same = view_is asked planned work input_is of in
      let journals = waves_in (grown.before.journal ++ grown.since.journal) in (
        record {
          free = subst (λ (w : WorkView). w.setting.fixed ≡ None) same free;
          before = are.first.trails;
          since = are.trails;
          trail_is = are.trail_is ∙ ap (λ t. t ++ flat_map (λ left. left) are.trails) are.first.trail_is
              ∙ sym (flat_map-append (λ (left : List EndsView). left) are.first.trails are.trails);
          went = subst (λ w. WentGrown w wave planned.ends journals are.first.trails are.trails) same
              (went_grown work wave planned.ends grown are);
        },
        grown_text_is work wave planned.ends grown are asked text is
            ∙ ap (λ (w : WorkView). grown_text asked w.input w.setting wave planned.ends journals) same,
      )
