-- What all waves of a run have together.
use Rattle.std.proofs.Common.{◌≡◌, ◌∙◌, ◌+◌, ◌*◌, ◌<◌, ◌≤◌, ◌^◌, ℕ, true, List, [], ◌∷◌, ◌++◌, append-nil}
use Rattle.std.proofs.Common.{append_assoc}
use Rattle.std.proofs.Common.{arith, length, length-append, map, refl, sym, ap, subst}
use Rattle.std.specs.Prelude.{flat_map, reverse}
use Rattle.std.specs.List.{AllByRecursion}
use Rattle.std.proofs.lemmas.List.Elements.{All-from_recursion}
use Rattle.std.proofs.lemmas.List.FromFn.{length-map-range_with_len}
use mathlib.Core.List.{reverse-reverse}
use Rattle.row_cells.proofs.Everywhere.{all-append, all-reverse}
use Rattle.row_cells.specs.declared.table.Side.TheVariants.{R, S}
use Rattle.load_controller.specs.declared.line.TurnLine.{TurnLine}
use Rattle.load_controller.specs.Journal.{Fits, Follows, begun, last_line}
use Rattle.load_controller.proofs.Bound.{shifts_within}
use Rattle.trace_law.specs.declared.run.Run.{Run}
use Rattle.trace_law.specs.declared.setting.Setting.{Setting}
use Rattle.trace_law.specs.Batches.{size_of}
use Rattle.trace_law.specs.Family.{Rest, batches, first_rest, migrations, rules_of}
use Rattle.trace_law.specs.Runs.{moved_over}
use Rattle.trace_law.specs.Validity.{IsValidInput, IsValidSetting}
use Rattle.trace_law.proofs.Begun.{fits_begun}
use Rattle.actor_core.specs.declared.rests.Upto.{Upto}
use Rattle.actor_core.specs.Rests.{upto}
use Rattle.join_runtime.specs.Endings.{EndsView}
use Rattle.join_report.specs.Report.{AreWithin}
use Rattle.join_plan.specs.declared.waves.WaveEnd.{WaveEnd}
use Rattle.join_cli.specs.Journals.{is_wave, waves_in}
use Rattle.join_cli.specs.Steps.{IsReportable}
use Rattle.join_cli.specs.WaveSteps.{AreAhead, AreAllWaves, AreFewWaves}
use Rattle.join_cli.specs.WaveTexts.{no_waves, wave_over, waves_over, with_wave}
use Rattle.join_cli.specs.Waves.{WentThrough, no_rows, upto_of}
use Rattle.join_cli.specs.declared.work.Work.{Work}
use Rattle.join_cli.proofs.WaveCounts.{few_migrations, valid_wave}
use Rattle.join_cli.proofs.WaveJournals.{BeginWith, lawful_begins, next_begins, parted}
use Rattle.join_cli.specs.Works.{WorkView}
use Rattle.join_cli.specs.Works.{view_of}

-- the journals, one after the other
abbrev pub flat : List (List TurnLine) → List TurnLine
flat journals = flat_map (λ journal. journal) journals

-- ---- the journal of all waves is theirs

-- behind the journal of what came before stand those of the waves that went on from it, one after the other
pub journal_from : (work : WorkView) (rest : Rest) (line : TurnLine)
    (before : Run) (ends : List WaveEnd) (journals : List (List TurnLine)) (trails : List (List EndsView))
    → WentThrough work rest ends journals trails
    → (waves_over work.input work.setting line before ends journals).journal ≡ before.journal ++ flat journals
journal_from work rest line before [] [] [] went = sym (append-nil before.journal)
journal_from work rest line before [] [] (trail ∷ trails) went = absurd went
journal_from work rest line before [] (journal ∷ journals) trails went = absurd went
journal_from work rest line before (end ∷ ends) [] trails went = absurd went
journal_from work rest line before (end ∷ ends) (journal ∷ journals) [] went = absurd went
journal_from work rest line before (end ∷ ends) (journal ∷ journals) (trail ∷ trails)
    (here, (next, same, more)) =
    journal_from work next (last_line line journal)
    (with_wave before (wave_over (upto (upto_of end) work.input) work.setting line journal)) ends journals trails more
    ∙ append_assoc before.journal journal (flat journals)

-- ---- and is parted where it was joined

-- there are no journals, or the first of them begins as one that goes on from this line; and one after the other they
-- are parted into these again
pub record ArePartedFrom (line : TurnLine) (journals : List (List TurnLine)) : Type 0 where
  pub begin : BeginWith (begun line) journals
  pub parts : waves_in (flat journals) ≡ journals

-- so are those of waves that went on from a rest with this line, where there is a feeder
pub parted_from : (work : WorkView) (rest : Rest) (ends : List WaveEnd)
    (journals : List (List TurnLine)) (trails : List (List EndsView)) → 0 < work.setting.feeders
    → WentThrough work rest ends journals trails → ArePartedFrom rest.line journals
parted_from work rest [] [] [] some went = record { begin = tt; parts = refl }
parted_from work rest [] [] (trail ∷ trails) some went = absurd went
parted_from work rest [] (journal ∷ journals) trails some went = absurd went
parted_from work rest (end ∷ ends) [] trails some went = absurd went
parted_from work rest (end ∷ ends) (journal ∷ journals) [] some went = absurd went
parted_from work rest (end ∷ ends) (journal ∷ journals) (trail ∷ trails) some
    (here, (next, same, more)) =
    let whole = upto (upto_of end) work.input in
    let sizes : ℕ → List (ℕ × ℕ) = λ p. map size_of (batches whole work.setting rest.line p) in
    let begins = lawful_begins (rules_of work.setting) rest.line sizes journal here.lawful.lawful in
    let later = next_begins (rules_of work.setting) rest.line sizes journal some here.lawful.lawful in
    let wave : is_wave (begun next.line).cause ≡ true =
    ap (λ (l : TurnLine). is_wave (begun l).cause) same ∙ ap is_wave later in
    let are = parted_from work next ends journals trails some more in
    record {
      begin = begins;
      parts = subst (λ j. waves_in (j ++ flat journals) ≡ j ∷ journals) (sym begins.is)
          (parted (begun rest.line) (begun next.line) begins.more journals begins.within wave are.begin are.parts);
    }

-- ---- its lines have shifts of the grid

past_fits : (setting : Setting) (first : TurnLine) (journal past : List TurnLine) → Fits (rules_of setting) first
    → reverse journal ≡ past → Follows (rules_of setting) first past
    → AllByRecursion (λ line. line.shift ≤ setting.k) journal
past_fits setting first journal [] fits is follows = absurd follows
past_fits setting first journal (line ∷ past) fits is follows =
    let P : TurnLine → Type 0 = λ l. l.shift ≤ setting.k in
    let each : AllByRecursion P (line ∷ past) = shifts_within (rules_of setting) first line past fits follows in
    subst (AllByRecursion P) (ap reverse (sym is) ∙ reverse-reverse journal) (all-reverse P (line ∷ past) each)

-- of waves that went one after the other no line has a shift past the grid
pub shifts_from : (work : WorkView) (rest : Rest) (ends : List WaveEnd)
    (journals : List (List TurnLine)) (trails : List (List EndsView))
    → WentThrough work rest ends journals trails
    → AllByRecursion (λ line. line.shift ≤ work.setting.k) (flat journals)
shifts_from work rest [] [] [] went = tt
shifts_from work rest [] [] (trail ∷ trails) went = absurd went
shifts_from work rest [] (journal ∷ journals) trails went = absurd went
shifts_from work rest (end ∷ ends) [] trails went = absurd went
shifts_from work rest (end ∷ ends) (journal ∷ journals) [] went = absurd went
shifts_from work rest (end ∷ ends) (journal ∷ journals) (trail ∷ trails) (here, (next, same, more)) =
    let fits = fits_begun (rules_of work.setting) rest.line here.stands.line.fits in
    all-append (λ line. line.shift ≤ work.setting.k) journal (flat journals)
    (past_fits work.setting (begun rest.line) journal (reverse journal) fits refl here.lawful.lawful.so_far.follows)
    (shifts_from work next ends journals trails more)

-- ---- there are few steps

module _ (work : WorkView) (of_input : IsValidInput work.input) (of_setting : IsValidSetting work.setting) where
  -- each wave that goes on adds at most 304 steps to what came before
  pub steps_from : (rest : Rest) (before : Run) (start : Upto) (ends : List WaveEnd) (journals : List (List TurnLine))
      (trails : List (List EndsView)) → AreAhead work.input start ends → WentThrough work rest ends journals trails
      → length (waves_over work.input work.setting rest.line before ends journals).moved
      ≤ length before.moved + 304 * length ends
  steps_from rest before start [] [] [] ahead went = omega arith
  steps_from rest before start [] [] (trail ∷ trails) ahead went = absurd went
  steps_from rest before start [] (journal ∷ journals) trails ahead went = absurd went
  steps_from rest before start (end ∷ ends) [] trails ahead went = absurd went
  steps_from rest before start (end ∷ ends) (journal ∷ journals) [] ahead went = absurd went
  steps_from rest before start (end ∷ ends) (journal ∷ journals) (trail ∷ trails) (low_r, low_s, within, ahead)
      (here, (next, same, more)) =
      let whole = upto (upto_of end) work.input in
      let valid = valid_wave (upto_of end) work.input work.setting of_input of_setting within in
      let few : migrations rest.line journal ≤ 304 =
      few_migrations whole work.setting rest.line journal valid here.stands.line here.lawful.lawful in
      let own = wave_over whole work.setting rest.line journal in
      let size : length own.moved ≡ migrations rest.line journal =
      length-map-range_with_len (moved_over whole work.setting rest.line journal) 0 (migrations rest.line journal) in
      let both : length (before.moved ++ own.moved) ≡ length before.moved + length own.moved =
      length-append before.moved own.moved in
      let later = steps_from next (with_wave before own) (upto_of end) ends journals trails ahead more in
      let moves : length (waves_over work.input work.setting next.line (with_wave before own) ends journals).moved
      ≡ length (waves_over work.input work.setting (last_line rest.line journal) (with_wave before own) ends
      journals).moved =
      ap (λ l. length (waves_over work.input work.setting l (with_wave before own) ends journals).moved) same in
      omega (arith, later, moves, both, size, few)

-- ---- of all waves of a run

module _ (work : WorkView) (ends : List WaveEnd) (run : Run) (trail : List EndsView)
    (all : AreAllWaves work ends run trail) where
  abbrev first : Rest
  first = first_rest work.setting

  journal_is : run.journal ≡ flat all.journals
  journal_is =
      ap (λ (r : Run). r.journal) all.run_is
      ∙ journal_from work first first.line (no_waves work.setting) ends all.journals all.trails all.went

  -- the journal is parted into theirs
  pub journals_are : IsValidSetting work.setting → waves_in run.journal ≡ all.journals
  journals_are of_setting =
      let some : 0 < work.setting.feeders = let low = of_setting.some_feeders in omega (arith, low) in
      ap waves_in journal_is ∙ (parted_from work first ends all.journals all.trails some all.went).parts

  -- each of its lines has a shift of the grid
  pub shifts_are : AreWithin work.setting.k run.journal
  shifts_are =
      All-from_recursion (λ line. line.shift ≤ work.setting.k) run.journal
      (subst (AllByRecursion (λ line. line.shift ≤ work.setting.k)) (sym journal_is)
      (shifts_from work first ends all.journals all.trails all.went))

  -- and there are few steps
  few_steps : IsValidInput work.input → IsValidSetting work.setting → AreFewWaves work.input ends
      → length run.moved < 2 ^ 32
  few_steps of_input of_setting waves =
      let same : length run.moved
      ≡ length (waves_over work.input work.setting first.line (no_waves work.setting) ends all.journals).moved =
      ap (λ (r : Run). length r.moved) all.run_is in
      let steps = steps_from work of_input of_setting first (no_waves work.setting) no_rows ends all.journals all.trails
      waves.ahead all.went in
      let few = waves.few in
      omega (arith, same, steps, few)

-- so their report can be made, over the rows of both sides
pub waves_fit : (work : Work) (ends : List WaveEnd) (run : Run) (trail : List EndsView)
    → AreFewWaves work.input.now ends → AreAllWaves (view_of work) ends run trail → IsReportable work run
waves_fit work ends run trail waves all = record {
  few_r = (work.valid_input.sides R).few;
  few_s = (work.valid_input.sides S).few;
  shifts = shifts_are (view_of work) ends run trail all;
  steps = few_steps (view_of work) ends run trail all work.valid_input work.valid_setting waves;
}
