-- The waves up to a growth, and those behind it.
use Rattle.std.proofs.Common.{◌≡◌, ◌∙◌, ◌+◌, ◌<◌, ◌≤◌, ◌^◌, ℕ, zero, suc, true, List, [], ◌∷◌, ◌++◌}
use Rattle.std.proofs.Common.{append_assoc, arith, drop, length, length-append, map, refl, sym, ap, subst, take}
use Rattle.std.proofs.Math.Seq.{drop-append_seam, take-append_seam}
use Rattle.std.proofs.lemmas.Grind.{flat_map-append}
use Rattle.std.proofs.lemmas.List.{length-take-le, take-append-drop}
use Rattle.std.proofs.lemmas.List.Elements.{All-from_recursion}
use Rattle.std.specs.List.{AllByRecursion}
use Rattle.std.specs.Prelude.{IfSome, filter}
use Rattle.load_controller.specs.declared.line.TurnLine.{TurnLine}
use Rattle.load_controller.specs.Journal.{Fits, begun}
use Rattle.trace_law.specs.declared.input.Input.{Input}
use Rattle.trace_law.specs.declared.run.Run.{Run}
use Rattle.trace_law.specs.declared.setting.Setting.{Setting}
use Rattle.trace_law.specs.Batches.{size_of}
use Rattle.trace_law.specs.Family.{Rest, batches, first_rest, rules_of}
use Rattle.trace_law.specs.Join.{nested_loop}
use Rattle.trace_law.specs.Validity.{IsValidSetting}
use Rattle.actor_core.specs.declared.rests.Upto.{Upto}
use Rattle.actor_core.specs.Rests.{upto}
use Rattle.elastic_grow.specs.Growth.{grown_setting}
use Rattle.join_runtime.specs.Endings.{EndsView}
use Rattle.join_report.specs.Report.{AreWithin}
use Rattle.join_plan.specs.declared.waves.WaveEnd.{WaveEnd}
use Rattle.join_cli.specs.declared.growth.Grown.{Grown}
use Rattle.join_cli.specs.GrownSteps.{AreGrownWaves}
use Rattle.join_cli.specs.Journals.{is_wave, waves_in}
use Rattle.join_cli.specs.Left.{end_behind}
use Rattle.join_cli.specs.WaveSteps.{AreAhead}
use Rattle.join_cli.specs.WaveTexts.{no_waves, waves_over}
use Rattle.join_cli.specs.Waves.{WentThrough, is_new, no_rows, upto_of, waves_pairs}
use Rattle.join_cli.proofs.WaveFacts.{flat, journal_from, parted_from, shifts_from, shifts_are, steps_from}
use Rattle.join_cli.proofs.WaveJournals.{BeginWith, lawful_begins, next_begins, parted}
use Rattle.join_cli.specs.Works.{WorkView, grown_work}
use Rattle.join_cli.specs.declared.work.Work.{Work}
use Rattle.join_cli.specs.WaveSteps.{AreFewWaves}
use Rattle.join_cli.specs.GrownSteps.{MayGrow, IsGrownReportable}
use Rattle.join_cli.specs.Works.{view_of}

-- ---- ends

-- of waves that end one behind the other the first do
pub ahead_early : (n : ℕ) (input : Input) (before : Upto) (ends : List WaveEnd) → AreAhead input before ends
    → AreAhead input before (take n ends)
ahead_early zero input before ends ahead = tt
ahead_early (suc n) input before [] ahead = tt
ahead_early (suc n) input before (end ∷ ends) (low_r, low_s, within, ahead) =
    (low_r, low_s, within, ahead_early n input (upto_of end) ends ahead)

-- and the others do behind the last of them
pub ahead_later : (n : ℕ) (input : Input) (before : Upto) (ends : List WaveEnd) → AreAhead input before ends
    → AreAhead input (end_behind before (take n ends)) (drop n ends)
ahead_later zero input before ends ahead = ahead
ahead_later (suc n) input before [] ahead = tt
ahead_later (suc n) input before (end ∷ ends) (low_r, low_s, within, ahead) =
    ahead_later n input (upto_of end) ends ahead

-- the pairs of both are those of all waves
pub pairs_of_both : (n : ℕ) (input : Input) (before : Upto) (ends : List WaveEnd)
    → waves_pairs input before (take n ends) ++ waves_pairs input (end_behind before (take n ends)) (drop n ends)
    ≡ waves_pairs input before ends
pairs_of_both zero input before ends = refl
pairs_of_both (suc n) input before [] = refl
pairs_of_both (suc n) input before (end ∷ ends) =
    let own = filter (is_new before) (nested_loop (upto (upto_of end) input)) in
    append_assoc own (waves_pairs input (upto_of end) (take n ends))
    (waves_pairs input (end_behind (upto_of end) (take n ends)) (drop n ends))
    ∙ ap (λ ps. own ++ ps) (pairs_of_both n input (upto_of end) ends)

-- ---- the grown setting

-- it is valid
pub valid_grown : (setting : Setting) → IsValidSetting setting → MayGrow setting
    → IsValidSetting (grown_setting setting)
valid_grown setting valid grows = record {
  joiners = let small : setting.k ≤ 6 = grows.small in omega (arith, small);
  some_feeders = valid.some_feeders;
  few_feeders = valid.few_feeders;
  some_workers = valid.some_workers;
  few_workers = valid.few_workers;
  some_rows = valid.some_rows;
  few_rows = valid.few_rows;
  fixed = subst (λ f. IfSome f (λ shift. shift ≤ setting.k + 2)) (sym grows.free) tt;
  weights = valid.weights;
}

-- ---- journals

-- there is one for each wave
pub as_many : (work : WorkView) (rest : Rest) (ends : List WaveEnd)
    (journals : List (List TurnLine)) (trails : List (List EndsView))
    → WentThrough work rest ends journals trails → length journals ≡ length ends
as_many work rest [] [] [] went = refl
as_many work rest [] [] (trail ∷ trails) went = absurd went
as_many work rest [] (journal ∷ journals) trails went = absurd went
as_many work rest (end ∷ ends) [] trails went = absurd went
as_many work rest (end ∷ ends) (journal ∷ journals) [] went = absurd went
as_many work rest (end ∷ ends) (journal ∷ journals) (trail ∷ trails) (here, (next, same, more)) =
    ap suc (as_many work next ends journals trails more)

-- the first line of these journals, or the other where there is none
abbrev start_of : List (List TurnLine) → TurnLine → TurnLine → TurnLine
start_of [] first other = other
start_of (journal ∷ journals) first other = first

begins_wave : (journals : List (List TurnLine)) (first other : TurnLine) → is_wave first.cause ≡ true
    → is_wave other.cause ≡ true → is_wave (start_of journals first other).cause ≡ true
begins_wave [] first other of_first of_other = of_other
begins_wave (journal ∷ journals) first other of_first of_other = of_first

record ArePartedBefore (first other : TurnLine) (journals more : List (List TurnLine)) : Type 0 where
  begin : BeginWith (start_of journals first other) (journals ++ more)
  parts : waves_in (flat (journals ++ more)) ≡ journals ++ more

module _ (other : TurnLine) (more : List (List TurnLine)) (wave : is_wave other.cause ≡ true)
    (begin : BeginWith other more) (parts : waves_in (flat more) ≡ more) where
  -- journals of waves before others that begin a wave are parted with them
  parted_before : (work : WorkView) (rest : Rest) (ends : List WaveEnd) (journals : List (List TurnLine))
      (trails : List (List EndsView)) → 0 < work.setting.feeders → WentThrough work rest ends journals trails
      → ArePartedBefore (begun rest.line) other journals more
  parted_before work rest [] [] [] some went = record { begin = begin; parts = parts }
  parted_before work rest [] [] (trail ∷ trails) some went = absurd went
  parted_before work rest [] (journal ∷ journals) trails some went = absurd went
  parted_before work rest (end ∷ ends) [] trails some went = absurd went
  parted_before work rest (end ∷ ends) (journal ∷ journals) [] some went = absurd went
  parted_before work rest (end ∷ ends) (journal ∷ journals) (trail ∷ trails) some (here, (next, same, later)) =
      let whole = upto (upto_of end) work.input in
      let sizes : ℕ → List (ℕ × ℕ) = λ p. map size_of (batches whole work.setting rest.line p) in
      let begins = lawful_begins (rules_of work.setting) rest.line sizes journal here.lawful.lawful in
      let goes_on = next_begins (rules_of work.setting) rest.line sizes journal some here.lawful.lawful in
      let is_next : is_wave (begun next.line).cause ≡ true =
      ap (λ (l : TurnLine). is_wave (begun l).cause) same ∙ ap is_wave goes_on in
      let are = parted_before work next ends journals trails some later in
      let first = start_of journals (begun next.line) other in
      let of_first : is_wave first.cause ≡ true = begins_wave journals (begun next.line) other is_next wave in
      record {
        begin = begins;
        parts = subst (λ j. waves_in (j ++ flat (journals ++ more)) ≡ j ∷ journals ++ more) (sym begins.is)
            (parted (begun rest.line) first begins.more (journals ++ more) begins.within of_first are.begin are.parts);
      }

-- ---- of a run with a growth

module _ (work : Work) (wave : ℕ) (ends : List WaveEnd) (grown : Grown)
    (are : AreGrownWaves (view_of work) wave ends grown) where
  abbrev setting : Setting
  setting = work.setting.now

  abbrev first : Rest
  first = first_rest setting

  abbrev more : Setting
  more = grown_setting setting

  abbrev since : WorkView
  since = grown_work (view_of work)

  abbrev all_journals : List (List TurnLine)
  all_journals = are.first.journals ++ are.journals

  before_is : grown.before.journal ≡ flat are.first.journals
  before_is =
      ap (λ (r : Run). r.journal) are.first.run_is
      ∙ journal_from (view_of work) first first.line (no_waves setting) (take wave ends) are.first.journals
      are.first.trails are.first.went

  since_is : grown.since.journal ≡ flat are.journals
  since_is =
      ap (λ (r : Run). r.journal) are.since_is
      ∙ journal_from since are.rest grown.line (no_waves more) (drop wave ends) are.journals are.trails are.onward

  -- the journal is parted into those of all waves
  grown_journals : waves_in (grown.before.journal ++ grown.since.journal) ≡ all_journals
  grown_journals =
      let some : 0 < setting.feeders = let low = work.valid_setting.some_feeders in omega (arith, low) in
      let later = parted_from since are.rest (drop wave ends) are.journals are.trails some are.onward in
      let is_wave_line : is_wave (begun are.rest.line).cause ≡ true =
      ap (λ (l : TurnLine). is_wave (begun l).cause) (are.from ∙ are.line_is) in
      let all = parted_before (begun are.rest.line) are.journals is_wave_line later.begin later.parts (view_of work)
      first (take wave ends) are.first.journals are.first.trails some are.first.went in
      ap (λ j. waves_in (j ++ grown.since.journal)) before_is
      ∙ ap (λ j. waves_in (flat are.first.journals ++ j)) since_is
      ∙ ap waves_in (sym (flat_map-append (λ (journal : List TurnLine). journal) are.first.journals are.journals))
      ∙ all.parts

  so_many : length are.first.journals ≡ wave
  so_many =
      as_many (view_of work) first (take wave ends) are.first.journals are.first.trails are.first.went
      ∙ length-take-le wave ends are.split

  -- of which the first are those before the growth
  pub early_journals : take wave (waves_in (grown.before.journal ++ grown.since.journal)) ≡ are.first.journals
  early_journals =
      ap (take wave) grown_journals
      ∙ ap (λ n. take n all_journals) (sym so_many)
      ∙ take-append_seam are.first.journals are.journals

  -- and the others those since
  pub later_journals : drop wave (waves_in (grown.before.journal ++ grown.since.journal)) ≡ are.journals
  later_journals =
      ap (drop wave) grown_journals
      ∙ ap (λ n. drop n all_journals) (sym so_many)
      ∙ drop-append_seam are.first.journals are.journals

  -- the lines since have shifts of the grown grid
  later_shifts : AreWithin more.k grown.since.journal
  later_shifts =
      All-from_recursion (λ line. line.shift ≤ more.k) grown.since.journal
      (subst (AllByRecursion (λ line. line.shift ≤ more.k)) (sym since_is)
      (shifts_from since are.rest (drop wave ends) are.journals are.trails are.onward))

  -- there are few steps
  few_grown_steps : MayGrow setting → AreFewWaves work.input.now ends
      → length grown.before.moved + length grown.since.moved < 2 ^ 32
  few_grown_steps grows waves =
      let input = work.input.now in
      let few = waves.few in
      let same : length grown.before.moved
      ≡ length (waves_over input setting first.line (no_waves setting) (take wave ends) are.first.journals).moved =
      ap (λ (r : Run). length r.moved) are.first.run_is in
      let steps = steps_from (view_of work) work.valid_input work.valid_setting first (no_waves setting) no_rows
      (take wave ends) are.first.journals are.first.trails (ahead_early wave input no_rows ends waves.ahead)
      are.first.went in
      let of_grown = valid_grown setting work.valid_setting grows in
      let same_since : length grown.since.moved
      ≡ length (waves_over input more are.rest.line (no_waves more) (drop wave ends) are.journals).moved =
      ap (λ (r : Run). length r.moved) are.since_is
      ∙ ap (λ l. length (waves_over input more l (no_waves more) (drop wave ends) are.journals).moved)
      (sym are.from) in
      let later = steps_from since work.valid_input of_grown are.rest (no_waves more)
      (end_behind no_rows (take wave ends)) (drop wave ends) are.journals are.trails
      (ahead_later wave input no_rows ends waves.ahead) are.onward in
      let early : length (take wave ends) ≡ wave = length-take-le wave ends are.split in
      let all : length (take wave ends) + length (drop wave ends) ≡ length ends =
      sym (length-append (take wave ends) (drop wave ends)) ∙ ap length (take-append-drop wave ends) in
      omega (arith, same, steps, same_since, later, all, few)

  -- so the report over both grids can be made
  pub grown_fits : MayGrow setting → AreFewWaves work.input.now ends → IsGrownReportable setting grown
  grown_fits grows waves =
      let line = subst (Fits (rules_of more)) are.from are.stands.line.fits in
      let small : setting.k ≤ 6 = grows.small in
      record {
        fits = record { shift = line.within; few = omega (arith, small); few_r = line.few_r; few_s = line.few_s };
        early = shifts_are (view_of work) (take wave ends) grown.before are.left are.first;
        later = later_shifts;
        steps = few_grown_steps grows waves;
      }
