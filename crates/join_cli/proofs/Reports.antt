-- What a report asks of a run.
use Rattle.std.proofs.Common.{◌≡◌, ◌∙◌, ◌<◌, ◌≤◌, ◌*◌, ◌+◌, ◌^◌, ℕ, List, [], ◌∷◌, length, map, refl, sym, ap}
use Rattle.std.proofs.Common.{subst, arith}
use Rattle.std.specs.Prelude.{All, reverse}
use Rattle.std.specs.List.{AllByRecursion}
use Rattle.std.proofs.lemmas.List.Elements.{All-from_recursion}
use Rattle.std.proofs.lemmas.List.FromFn.{length-map-range_with_len}
use mathlib.Core.List.{reverse-reverse}
use Rattle.row_cells.proofs.Everywhere.{all-reverse}
use Rattle.row_cells.specs.declared.table.Side.TheVariants.{R, S}
use Rattle.load_controller.specs.declared.line.TurnLine.{TurnLine}
use Rattle.pair_collector.specs.declared.collected.Held.{Held}
use Rattle.load_controller.specs.Journal.{Fits, Follows, begun}
use Rattle.load_controller.proofs.Bound.{shifts_within}
use Rattle.trace_law.specs.declared.input.Input.{Input}
use Rattle.trace_law.specs.declared.run.Run.{Run}
use Rattle.trace_law.specs.declared.setting.Setting.{Setting}
use Rattle.trace_law.specs.Family.{first_rest, migrations, rules_of}
use Rattle.trace_law.specs.Runs.{IsRunOf, load_over, made_over, moved_over}
use Rattle.trace_law.specs.Join.{row_count}
use Rattle.std.specs.List.{range_with_len}
use Rattle.trace_law.specs.Validity.{IsValidInput, IsValidSetting}
use Rattle.trace_law.proofs.Begun.{fits_begun}
use Rattle.trace_law.proofs.Bounds.{bounded}
use Rattle.trace_law.proofs.First.{stands as first_stands}
use Rattle.trace_law.proofs.Validity.{within_limits}
use Rattle.join_report.specs.Report.{AreWithin, report_of}
use Rattle.group_split.specs.Parts.{part}
use Rattle.group_split.specs.Sizes.{digits, has_digit}
use Rattle.row_cells.proofs.Totals.{filter_fewer}
use Rattle.group_split.proofs.Parted.{part_few, part_within}
use Rattle.group_split.proofs.PartRuns.{valid_part, valid_setting}
use Rattle.group_split.specs.Groups.{AreGroupsFrom}
use Rattle.join_runtime.specs.Endings.{EndsView}
use Rattle.join_cli.specs.Dealt.{HaveRuns, group_input, group_setting}
use Rattle.join_cli.specs.Plan.{report_over}
use Rattle.join_cli.specs.Steps.{IsReportable}
use Rattle.join_cli.specs.Works.{IsWholeRun}
use Rattle.join_cli.specs.declared.work.Work.{Work}
use Rattle.join_cli.specs.declared.work_of_groups.Dealt.{Dealt}

-- no shift of a lawful journal is past the grid
past_fits : (setting : Setting) (first : TurnLine) (journal past : List TurnLine) → Fits (rules_of setting) first
    → reverse journal ≡ past
    → Follows (rules_of setting) first past → AreWithin setting.k journal
past_fits setting first journal [] fits is follows = absurd follows
past_fits setting first journal (line ∷ past) fits is follows =
    let P : TurnLine → Type 0 = λ l. l.shift ≤ setting.k in
    let each : AllByRecursion P (line ∷ past) = shifts_within (rules_of setting) first line past fits follows in
    All-from_recursion P journal (subst (AllByRecursion P) (ap reverse (sym is) ∙ reverse-reverse journal)
    (all-reverse P (line ∷ past) each))

-- each line of a run's journal has a shift of its grid
pub shifts_fit : (input : Input) (setting : Setting) (journal : List TurnLine) (run : Run) → IsValidInput input
    → IsValidSetting setting
    → IsRunOf input setting (first_rest setting).line journal run → AreWithin setting.k journal
shifts_fit input setting journal run of_input valid is =
    let first = (first_rest setting).line in
    let fits = fits_begun (rules_of setting) first (first_stands input setting
    (within_limits input setting of_input valid)).line.fits in
    past_fits setting (begun first) journal (reverse journal) fits refl is.lawful.so_far.follows

-- it has few steps
pub few_steps : (input : Input) (setting : Setting) (journal : List TurnLine) (run : Run) → IsValidInput input
    → IsValidSetting setting
    → IsRunOf input setting (first_rest setting).line journal run → length run.moved < 2 ^ 32
few_steps input setting journal run of_input valid is =
    let first = (first_rest setting).line in
    let limits = within_limits input setting of_input valid in
    let few_r = (of_input.sides R).few in
    let few_s = (of_input.sides S).few in
    let few_joiners = valid.joiners in
    let steps : migrations first journal ≤ setting.k * (19 + 19) =
    (bounded input setting first journal limits (first_stands input setting limits).line is.lawful.so_far 19 19
    (omega arith) (omega arith)).0 in
    let size : length run.moved ≡ migrations first journal =
    ap length is.moved ∙ length-map-range_with_len (moved_over input setting first journal) 0
    (migrations first journal) in
    let small : setting.k ≤ 8 = valid.joiners in
    omega arith

-- so its report can be made, over the work's rows
pub whole_fits : (work : Work) (run : Run) → IsWholeRun work run → IsReportable work run
whole_fits work run is = record {
  few_r = (work.valid_input.sides R).few;
  few_s = (work.valid_input.sides S).few;
  shifts = shifts_fit work.input.now work.setting.now run.journal run work.valid_input work.valid_setting is;
  steps = few_steps work.input.now work.setting.now run.journal run work.valid_input work.valid_setting is;
}

-- the report of a run by what it tells of it
abbrev report_by : Setting → List TurnLine → ℕ → ℕ → List ℕ → List Held → List ℕ → List ℕ
report_by setting journal x y moved loads made =
    report_of setting x y
    (record { pairs = []; made = made; loads = loads; moved = moved; journal = journal; bouts = 0 })

-- the report of a run is the one over its journal
pub report_is : (input : Input) (setting : Setting) (run : Run) (x y : ℕ)
    → IsRunOf input setting (first_rest setting).line run.journal run → x ≡ row_count input R → y ≡ row_count input S
    → report_of setting x y run ≡ report_over input setting run.journal
report_is input setting run x y is of_r of_s =
    let journal = run.journal in
    let first = (first_rest setting).line in
    let moved = map (moved_over input setting first journal) (range_with_len 0 (migrations first journal)) in
    let loads = map (load_over input setting first journal) (range_with_len 0 (2 ^ setting.k)) in
    let made = map (made_over input setting first journal) (range_with_len 0 (2 ^ setting.k)) in
    ap (λ m. report_by setting journal x y m run.loads run.made) is.moved
    ∙ ap (λ l. report_by setting journal x y moved l run.made) is.loads
    ∙ ap (λ m. report_by setting journal x y moved loads m) is.made
    ∙ ap (λ n. report_by setting journal n y moved loads made) of_r
    ∙ ap (λ n. report_by setting journal (row_count input R) n moved loads made) of_s

-- what a group joins, and its setting, are valid
pub valid_group : (dealt : Dealt) (g k : ℕ) → k < 7
    → IsValidInput (group_input dealt g) × IsValidSetting (group_setting dealt k)
valid_group dealt g k low =
    let few = part_few dealt.joiners dealt.numbers.now g in
    let many = dealt.many in (
      valid_part dealt.work.input.now (part dealt.joiners dealt.numbers.now g) dealt.work.valid_input
          (subst (λ n. All (λ i. i < n) (part dealt.joiners dealt.numbers.now g)) many
          (part_within dealt.joiners dealt.numbers.now g))
          (omega arith),
      valid_setting dealt.work.setting.now k dealt.work.valid_setting dealt.free low,
    )

-- there are few groups
pub few_digits : (joiners : ℕ) → length (digits joiners) ≤ 7
unfolding digits
few_digits joiners = filter_fewer (has_digit joiners) (6 ∷ 5 ∷ 4 ∷ 3 ∷ 2 ∷ 1 ∷ 0 ∷ [])

-- of groups that have their runs and their ends, the runs
pub runs_of_groups : (input : Input) (joiners : ℕ) (numbers : List ℕ) (setting : Setting) (g : ℕ) (digits : List ℕ)
    (runs : List Run) (trail : List EndsView) → AreGroupsFrom input joiners numbers setting g digits runs trail
    → HaveRuns input joiners numbers setting g digits runs
runs_of_groups input joiners numbers setting g [] [] [] are = tt
runs_of_groups input joiners numbers setting g (k ∷ digits) (run ∷ runs) (ends ∷ trail) are =
    (are.0.run, runs_of_groups input joiners numbers setting (g + 1) digits runs trail are.1)
runs_of_groups input joiners numbers setting g [] [] (ends ∷ trail) are = absurd are
runs_of_groups input joiners numbers setting g [] (run ∷ runs) trail are = absurd are
runs_of_groups input joiners numbers setting g (k ∷ digits) [] trail are = absurd are
runs_of_groups input joiners numbers setting g (k ∷ digits) (run ∷ runs) [] are = absurd are
