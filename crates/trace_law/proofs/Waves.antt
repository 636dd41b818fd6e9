-- The waves of a run have together no more migrations and decisions than one wave with all rows.
use Rattle.std.proofs.Common.{◌≡◌, ℕ, ◌+◌, ◌*◌, ◌^◌, ◌<◌, ◌≤◌, refl, sym, ◌∙◌, ap, subst, arith, List, [], ◌∷◌, ◌++◌}
use Rattle.std.specs.Prelude.{map, reverse}
use Rattle.std.specs.List.{AllByRecursion}
use Rattle.std.proofs.lemmas.List.{reverse-append, reverse-reverse}
use Rattle.std.proofs.lemmas.List.Sums.{sum_by-cons}
use Rattle.std.proofs.lemmas.Nat.{pow_pos}
use Rattle.row_cells.specs.declared.table.Side.TheVariants.{R, S}
use Rattle.row_cells.specs.Lists.{IsPrefix}
use Rattle.load_controller.specs.declared.line.TurnLine.{TurnLine}
use Rattle.load_controller.specs.Journal.{begun, start_line, Follows, causes_of, all_causes, IsLawful, last_epoch}
use Rattle.load_controller.specs.Journal.{last_line, last_of, due_lines, due_in, AreLawful as AreLawfulJournals}
use Rattle.load_controller.proofs.Bound.{last_line_is, waves_migrate_seldom}
use Rattle.load_controller.proofs.Fresh.{start_fits}
use Rattle.trace_law.specs.declared.input.Input.{Input}
use Rattle.trace_law.specs.declared.setting.Setting.{Setting}
use Rattle.trace_law.specs.Join.{row_count}
use Rattle.trace_law.specs.Batches.{size_of}
use Rattle.trace_law.specs.Validity.{IsValidSetting}
use Rattle.trace_law.specs.Family.{Rest, rules_of, batches}
use Rattle.trace_law.specs.Runs.{AreLawful, journal_of, decisions_in}
use Rattle.trace_law.proofs.Bounds.{few_r, few_s}
use Rattle.trace_law.proofs.Validity.{fixed_within}

-- the waves as the controller's rules see them: each with the sizes of its batches
abbrev waves_of : Setting → TurnLine → List (Input × List TurnLine) → List ((ℕ → List (ℕ × ℕ)) × List TurnLine)
waves_of setting line [] = []
waves_of setting line ((input, journal) ∷ waves) =
    ((λ p. map size_of (batches input setting line p)), journal) ∷ waves_of setting (last_line line journal) waves

-- ---- the journals of all waves, one after the other

-- the last line of a journal, behind which another stands, is that other's
last_behind : (line : TurnLine) (xs ys : List TurnLine) → last_line line (xs ++ ys) ≡ last_line (last_line line xs) ys
last_behind line [] ys = refl
last_behind line (x ∷ xs) ys = last_behind x xs ys

-- the last epoch is that of the last line
last_epoch_is : (line : TurnLine) (journal : List TurnLine)
    → last_epoch (line ∷ journal) ≡ (last_line line journal).epoch
last_epoch_is line [] = refl
last_epoch_is line (next ∷ journal) = last_epoch_is next journal

-- also where there is no line, of a run
last_epoch_from : (line : TurnLine) (journal : List TurnLine) → line.epoch ≡ 0
    → last_epoch journal ≡ (last_line line journal).epoch
last_epoch_from line [] none = sym none
last_epoch_from line (next ∷ journal) none = last_epoch_is next journal

-- the last line of all waves is that of their journals
last_is : (setting : Setting) (line : TurnLine) (waves : List (Input × List TurnLine))
    → last_of line (waves_of setting line waves) ≡ last_line line (journal_of waves)
last_is setting line [] = refl
last_is setting line ((input, journal) ∷ waves) =
    last_is setting (last_line line journal) waves ∙ sym (last_behind line journal (journal_of waves))

-- the decisions are theirs
decisions_are : (setting : Setting) (line : TurnLine) (waves : List (Input × List TurnLine))
    → due_in (rules_of setting) (waves_of setting line waves) ≡ decisions_in setting waves
decisions_are setting line [] = refl
decisions_are setting line ((input, journal) ∷ waves) =
    let more = decisions_are setting (last_line line journal) waves in
    let sum =
    sum_by-cons (λ (wave : Input × List TurnLine). due_lines (rules_of setting) (reverse wave.1)) (input, journal)
    waves in
    omega arith

-- each journal is lawful by the rules
lawful_of : (setting : Setting) (line : TurnLine) (waves : List (Input × List TurnLine)) → AreLawful setting line waves
    → AreLawfulJournals (rules_of setting) line (waves_of setting line waves)
lawful_of setting line [] are = tt
lawful_of setting line ((input, journal) ∷ waves) (within_r, within_s, lawful, are) =
    (lawful, lawful_of setting (last_line line journal) waves are)

-- ---- how many rows they count

-- both sides of a wave's input have fewer rows than this
abbrev IsSmall : ℕ → ℕ → Input × List TurnLine → Type 0
IsSmall a c wave = (row_count wave.0 R < 2 ^ a) × (row_count wave.0 S < 2 ^ c)

-- a line has counted fewer rows than this
abbrev HasFew : ℕ → ℕ → TurnLine → Type 0
HasFew a c line = (line.rows_r < 2 ^ a) × (line.rows_s < 2 ^ c)

module _ (a c : ℕ) (input : Input) (setting : Setting) (line : TurnLine) where
  -- of one wave
  wave_counts : (journal backwards : List TurnLine) → reverse journal ≡ backwards
      → 0 < setting.feeders → 0 < setting.batch → line.rows_r ≤ row_count input R → line.rows_s ≤ row_count input S
      → IsLawful (rules_of setting) (begun line) (λ p. map size_of (batches input setting line p)) journal
      → IsSmall a c (input, journal) → HasFew a c (last_line line journal)
  wave_counts journal [] is some batch within_r within_s lawful small =
      absurd (subst (λ ls. Follows (rules_of setting) (begun line) ls) is lawful.so_far.follows)
  wave_counts journal (last ∷ past) is some batch within_r within_s lawful small =
      let rest : Rest = record { line = line; stores = λ j. [] } in
      let follows : Follows (rules_of setting) (begun line) (last ∷ past) =
      subst (λ ls. Follows (rules_of setting) (begun line) ls) is lawful.so_far.follows in
      let journal_is : journal ≡ reverse (last ∷ past) = sym (reverse-reverse journal) ∙ ap reverse is in
      let counts : (p : ℕ) → p < setting.feeders
      → IsPrefix (causes_of p (reverse (last ∷ past))) (all_causes p (map size_of (batches input setting line p))) =
      λ p low.
      subst (λ ls. IsPrefix (causes_of p ls) (all_causes p (map size_of (batches input setting line p)))) journal_is
      (lawful.so_far.counts p low) in
      let last_is : last_line line journal ≡ last =
      ap (last_line line) (journal_is ∙ reverse-append (last ∷ []) past) ∙ last_line_is line (reverse past) last in
      let r = few_r input setting some batch rest within_r within_s last past follows counts in
      let s = few_s input setting some batch rest within_r within_s last past follows counts in
      rw last_is (omega (arith, r, small.0), omega (arith, s, small.1))

-- of all
waves_count : (a c : ℕ) (setting : Setting) (line : TurnLine) (waves : List (Input × List TurnLine))
    → 0 < setting.feeders → 0 < setting.batch
    → AreLawful setting line waves → HasFew a c line → AllByRecursion (IsSmall a c) waves
    → HasFew a c (last_of line (waves_of setting line waves))
waves_count a c setting line [] some batch are few small = few
waves_count a c setting line ((input, journal) ∷ waves) some batch (within_r, within_s, lawful, are) few
    (small, smaller) =
    waves_count a c setting (last_line line journal) waves some batch are
    (wave_counts a c input setting line journal (reverse journal) refl some batch within_r within_s lawful small)
    smaller

-- ---- the bound

-- a run's waves have together few migrations and decisions
pub run_bounded : (setting : Setting) (waves : List (Input × List TurnLine)) → IsValidSetting setting
    → AreLawful setting (start_line (rules_of setting)) waves
    → (a c : ℕ) → AllByRecursion (λ wave. (row_count wave.0 R < 2 ^ a) × (row_count wave.0 S < 2 ^ c)) waves
    → (last_epoch (journal_of waves) ≤ setting.k * (a + c)) × (decisions_in setting waves ≤ a + c)
run_bounded setting waves limits are a c small =
    let first = start_line (rules_of setting) in
    let some : 0 < setting.feeders = let low = limits.some_feeders in omega arith in
    let batch : 0 < setting.batch = let low = limits.some_rows in omega arith in
    let fits =
    start_fits setting.k setting.feeders setting.fixed setting.weights first (fixed_within setting limits) refl in
    let pos_a = pow_pos a in
    let pos_c = pow_pos c in
    let few = waves_count a c setting first waves some batch are (omega arith, omega arith) small in
    let bound =
    waves_migrate_seldom (rules_of setting) first (waves_of setting first waves) fits
    (lawful_of setting first waves are) a c few.0 few.1 in
    let epoch = last_epoch_from first (journal_of waves) refl in
    let line = ap (λ (l : TurnLine). l.epoch) (last_is setting first waves) in
    let dues = decisions_are setting first waves in
    (omega (arith, bound.0), omega (arith, bound.1))
