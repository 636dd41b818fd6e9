-- The output of a run of several waves.
use Rattle.std.specs.Prelude.{◌++◌, ◌^◌, ◌+◌, ℕ, Bool, true, false, List, [], ◌∷◌, map, replicate}
use Rattle.std.specs.List.{range_with_len}
use Rattle.std.specs.Simd.Lanes.{zip2}
use Rattle.row_cells.specs.declared.table.Side.TheVariants.{R, S}
use Rattle.epoch_tags.specs.declared.tuple.Pair.{Pair}
use Rattle.load_controller.specs.declared.line.TurnLine.{TurnLine}
use Rattle.load_controller.specs.Journal.{last_line}
use Rattle.trace_law.specs.declared.input.Input.{Input}
use Rattle.trace_law.specs.declared.run.Run.{Run}
use Rattle.trace_law.specs.declared.setting.Setting.{Setting}
use Rattle.trace_law.specs.Family.{first_rest, migrations}
use Rattle.trace_law.specs.Join.{row_count, wave_pairs}
use Rattle.trace_law.specs.Runs.{load_over, made_over, moved_over}
use Rattle.actor_core.specs.Rests.{upto}
use Rattle.join_report.specs.PairLines.{pair_lines}
use Rattle.join_report.specs.RowLines.{row_lines}
use Rattle.join_words.specs.Words.{Asked}
use Rattle.join_plan.specs.declared.waves.WaveEnd.{WaveEnd}
use Rattle.join_plan.specs.declared.fitting.Planned.{Planned}
use Rattle.join_cli.specs.Journals.{waves_in}
use Rattle.join_cli.specs.Plan.{bare_report_of, input_of, setting_of}
use Rattle.join_cli.specs.Waves.{no_rows, upto_of, waves_pairs}

-- the wave that goes on from this line and has this journal: its pairs, and the numbers of the closed formulas
abbrev pub wave_over : Input → Setting → TurnLine → List TurnLine → Run
wave_over input setting line journal = record {
  pairs = wave_pairs input line;
  made = map (made_over input setting line journal) (range_with_len 0 (2 ^ setting.k));
  loads = map (load_over input setting line journal) (range_with_len 0 (2 ^ setting.k));
  moved = map (moved_over input setting line journal) (range_with_len 0 (migrations line journal));
  journal = journal;
  bouts = 0;
}

-- the numbers of two lists added up, place by place
abbrev pub sums_of : List ℕ → List ℕ → List ℕ
sums_of counts more = zip2 (λ count other. count + other) counts more

-- some waves and the next in one: the pairs of both, what each joiner made in both, what it holds behind the next, the
-- steps of both, and the journals of both
abbrev pub with_wave : Run → Run → Run
with_wave before next = record {
  pairs = before.pairs ++ next.pairs;
  made = sums_of before.made next.made;
  loads = next.loads;
  moved = before.moved ++ next.moved;
  journal = before.journal ++ next.journal;
  bouts = 0;
}

-- before the first wave no joiner has made a pair, and nothing has moved
abbrev pub no_waves : Setting → Run
no_waves setting = record {
  pairs = [];
  made = replicate (2 ^ setting.k) 0;
  loads = [];
  moved = [];
  journal = [];
  bouts = 0;
}

-- what came before, and these waves behind it, of which the first goes on from this line
abbrev pub waves_over : Input → Setting → TurnLine → Run → List WaveEnd → List (List TurnLine) → Run
waves_over input setting line before [] journals = before
waves_over input setting line before (end ∷ ends) [] = before
waves_over input setting line before (end ∷ ends) (journal ∷ journals) =
    waves_over input setting (last_line line journal)
    (with_wave before (wave_over (upto (upto_of end) input) setting line journal)) ends journals

-- all waves of a run in one
abbrev pub run_of_waves : Input → Setting → List WaveEnd → List (List TurnLine) → Run
run_of_waves input setting ends journals =
    waves_over input setting (first_rest setting).line (no_waves setting) ends journals

-- the lines of pairs: the numbers of their rows, or the rows themselves
abbrev pub lines_of : Bool → Input → List Pair → List ℕ
lines_of false input pairs = pair_lines pairs
lines_of true input pairs = row_lines input.table_r.rows input.table_s.rows pairs

-- the lines of all waves' pairs, and then the report of all waves in one where it is asked for
abbrev pub waves_text : Asked → Input → Setting → List WaveEnd → List (List TurnLine) → List ℕ
waves_text asked input setting ends journals =
    lines_of asked.rows input (waves_pairs input no_rows ends)
    ++ bare_report_of asked.report setting (row_count input R) (row_count input S)
    (run_of_waves input setting ends journals)

-- the output that is asked for of a plan of several waves, over their journals one after the other
abbrev pub waves_output_of : Asked → Planned → List TurnLine → List ℕ
waves_output_of asked planned journal =
    waves_text asked (input_of asked.seed planned) (setting_of asked) planned.ends (waves_in journal)
