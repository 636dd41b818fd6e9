-- With a fixed shift the numbers of a run are those of that shift, whatever the journal.
use Rattle.std.proofs.Common.{◌≡◌, ◌∙◌, ◌-◌, ◌/◌, ◌^◌, ◌==◌, ℕ, Bool, true, false, List, [], ◌∷◌, ◌++◌, None, Some, map}
use Rattle.std.proofs.Common.{refl, sym, ap}
use Rattle.std.specs.Prelude.{All, if◌then◌else◌, unwrap_or}
use Rattle.std.specs.List.{AllByRecursion, range_with_len}
use Rattle.std.proofs.lemmas.List.Elements.{recursion_from_All}
use mathlib.Core.Path.{fun_ext}
use Rattle.row_cells.specs.declared.table.Side.TheVariants.{R, S}
use Rattle.load_controller.specs.declared.line.TurnLine.{TurnLine}
use Rattle.load_controller.specs.Journal.{last_epoch, shift_at}
use Rattle.pair_collector.specs.declared.collected.Held.{Held}
use Rattle.trace_law.specs.declared.input.Input.{Input}
use Rattle.trace_law.specs.declared.setting.Setting.{Setting}
use Rattle.grid_map.specs.declared.cost.Weights.{Weights}
use Rattle.trace_law.specs.Family.{first_rest, migrations, shift_by, stamp_by}
use Rattle.trace_law.specs.Join.{held, made, row_count}
use Rattle.trace_law.specs.Runs.{StaysAt, load_over, made_over, moved_over}
use Rattle.report_lines.specs.declared.report_numbers.Step.{Step}
use Rattle.report_lines.specs.Lines.{report_lines}
use Rattle.join_report.specs.Report.{first_shift, joiners_told, steps_told, told_at}
use Rattle.join_words.specs.Words.{Asked, grid_of}
use Rattle.join_plan.specs.declared.fitting.Planned.{Planned}
use Rattle.join_cli.specs.Plan.{IsJournalOf, answer_of, input_of, output_of, report_over, setting_of, text_of}

shift_stays : (b e : ℕ) (journal : List TurnLine) → AllByRecursion (StaysAt 0 b) journal → shift_at b e journal ≡ b
shift_stays b e [] h = refl
shift_stays b e (line ∷ journal) (here, rest) = by (line.epoch == e) (shift_stays b e journal rest)
  where
    by : (same : Bool) → shift_at b e journal ≡ b → (if same then line.shift else shift_at b e journal) ≡ b
    by true later = here.stays
    by false later = later

-- the shift of every epoch
each_shift : (setting : Setting) (b : ℕ) (journal : List TurnLine) → setting.fixed ≡ Some b → All (StaysAt 0 b) journal
    → (e : ℕ)
    → shift_by (first_rest setting).line journal e ≡ b
each_shift setting b journal fixed stays e =
    let first : (first_rest setting).line.shift ≡ b = ap (λ o. unwrap_or o (setting.k / 2)) fixed in
    ap (λ f. shift_at f e journal) first ∙ shift_stays b e journal (recursion_from_All (StaysAt 0 b) journal stays)

-- the pairs that a joiner makes don't depend on stamps
made_at : Input → Setting → ℕ → ℕ → ℕ
made_at input setting b j = made input (first_rest setting).line setting.k (λ side index. 0) (λ e. b) j

made_stays : (input : Input) (setting : Setting) (b : ℕ) (journal : List TurnLine)
    → ((e : ℕ) → shift_by (first_rest setting).line journal e ≡ b) → (j : ℕ)
    → made_over input setting (first_rest setting).line journal j ≡ made_at input setting b j
unfolding made_at
made_stays input setting b journal each j =
    let first = (first_rest setting).line in
    ap (λ shift. made input first setting.k (stamp_by input setting first journal) shift j) (fun_ext each)

-- what each joiner holds
load_at : Input → ℕ → ℕ → ℕ → Held
load_at input k b j = record { rows_r = held input k b R j; rows_s = held input k b S j }

load_stays : (input : Input) (setting : Setting) (b : ℕ) (journal : List TurnLine)
    → ((e : ℕ) → shift_by (first_rest setting).line journal e ≡ b) → (j : ℕ)
    → load_over input setting (first_rest setting).line journal j ≡ load_at input setting.k b j
unfolding load_at
load_stays input setting b journal each j = ap (λ shift. load_at input setting.k shift j) (each (last_epoch journal))

-- the report of a run that stays at shift b, without a step
abbrev report_at : Input → Setting → ℕ → List ℕ
report_at input setting b =
    report_lines (told_at setting.weights (row_count input R) (row_count input S) [] None [] setting.k b
    (joiners_told (map (load_at input setting.k b) (range_with_len 0 (2 ^ setting.k)))
    (map (made_at input setting b) (range_with_len 0 (2 ^ setting.k)))))

same_parts : (k : ℕ) (w : Weights) (x y : ℕ) (steps : List Step) (one other : ℕ) (loads_one loads_other : List Held)
    (made_one made_other : List ℕ)
    → steps ≡ [] → one ≡ other → loads_one ≡ loads_other → made_one ≡ made_other
    → told_at w x y steps None [] k one (joiners_told loads_one made_one)
    ≡ told_at w x y [] None [] k other (joiners_told loads_other made_other)
same_parts k w x y steps one other loads_one loads_other made_one made_other no_steps same_shift same_loads same_made =
    ap (λ (s : List Step). told_at w x y s None [] k one (joiners_told loads_one made_one)) no_steps
    ∙ ap (λ (b : ℕ). told_at w x y [] None [] k b (joiners_told loads_one made_one)) same_shift
    ∙ ap (λ (ls : List Held). told_at w x y [] None [] k other (joiners_told ls made_one)) same_loads
    ∙ ap (λ (ms : List ℕ). told_at w x y [] None [] k other (joiners_told loads_other ms)) same_made

report_stays : (input : Input) (setting : Setting) (b : ℕ) (journal : List TurnLine)
    → ((e : ℕ) → shift_by (first_rest setting).line journal e ≡ b) → last_epoch journal ≡ 0
    → report_over input setting journal ≡ report_at input setting b
report_stays input setting b journal each none =
    let ids = range_with_len 0 (2 ^ setting.k) in
    let first = (first_rest setting).line in
    let k = setting.k in
    ap report_lines (same_parts k setting.weights (row_count input R) (row_count input S)
    (steps_told k (first_shift setting) 0 journal (map (moved_over input setting first journal)
    (range_with_len 0 (migrations first journal))))
    (shift_by first journal (last_epoch journal)) b
    (map (load_over input setting first journal) ids) (map (load_at input k b) ids)
    (map (made_over input setting first journal) ids) (map (made_at input setting b) ids)
    (ap (λ n. steps_told k (first_shift setting) 0 journal (map (moved_over input setting first journal)
    (range_with_len 0 (n - 0)))) none)
    (each (last_epoch journal))
    (ap (λ f. map f ids) (fun_ext (load_stays input setting b journal each)))
    (ap (λ f. map f ids) (fun_ext (made_stays input setting b journal each))))

abbrev text_at : Asked → Input → Setting → ℕ → List ℕ
text_at asked input setting b = answer_of asked.make asked.rows input ++ (if asked.report then report_at input setting b
    else [])

text_stays : (asked : Asked) (input : Input) (setting : Setting) (b : ℕ) (journal : List TurnLine)
    → setting.fixed ≡ Some b → All (StaysAt 0 b) journal → last_epoch journal ≡ 0
    → text_of asked input setting journal ≡ text_at asked input setting b
text_stays asked input setting b journal fixed stays none =
    ap (λ lines. answer_of asked.make asked.rows input ++ (if asked.report then lines else []))
    (report_stays input setting b journal (each_shift setting b journal fixed stays) none)

-- with a fixed shift two such journals have one output
pub one_output : (asked : Asked) (planned : Planned) (shift : ℕ) (one other : List TurnLine)
    → (grid_of asked.kind).fixed ≡ Some shift
    → IsJournalOf asked planned one → IsJournalOf asked planned other
    → output_of asked planned one ≡ output_of asked planned other
one_output asked planned shift one other fixed is_one is_other =
    text_stays asked (input_of asked.seed planned) (setting_of asked) shift one fixed (is_one.stays shift fixed)
    (is_one.one_epoch shift fixed)
    ∙ sym (text_stays asked (input_of asked.seed planned) (setting_of asked) shift other fixed
    (is_other.stays shift fixed) (is_other.one_epoch shift fixed))
