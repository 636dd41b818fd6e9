-- A run of two waves with lawful journals, those of the worked rows: the first begins with no rows, takes two steps and
-- counts eight rows of each side, and the second goes on from its last line, counts 24 rows of R and takes one step.
use Rattle.std.proofs.Common.{◌≡◌, ℕ, zero, suc, ◌<◌, refl, sym, ◌∙◌, ap, arith, Bool, false, List, [], ◌∷◌}
use Rattle.std.specs.Prelude.{map, reverse, drop}
use Rattle.std.proofs.lemmas.List.{append-nil}
use Rattle.load_controller.specs.declared.line.TurnLine.{TurnLine}
use Rattle.load_controller.specs.Journal.{IsLawful, Follows, begun, start_line, last_line, last_epoch, causes_of}
use Rattle.load_controller.specs.Journal.{all_causes}
use Rattle.load_controller.specs.Worked.{later_past}
use Rattle.trace_law.specs.declared.input.Input.{Input}
use Rattle.trace_law.specs.Batches.{size_of}
use Rattle.trace_law.specs.Family.{rules_of, batches}
use Rattle.trace_law.specs.Worked.{journal, input, later_input, later_setting}
use Rattle.trace_law.specs.Runs.{AreLawful, journal_of, decisions_in}

-- the first line of the run
abbrev first : TurnLine
first = start_line (rules_of later_setting)

-- the line from which its second wave goes on
abbrev second : TurnLine
second = last_line first journal

-- the journal of the second wave
abbrev later_journal : List TurnLine
later_journal = reverse later_past

-- the waves, each with the rows up to its end and its journal
abbrev pub waves : List (Input × List TurnLine)
waves = (input, journal) ∷ (later_input, later_journal) ∷ []

-- whether a step is open at the latest line
abbrev open_last : List TurnLine → Bool
open_last [] = false
open_last (line ∷ past) = line.moving

-- ---- the first wave

-- but for so many of the latest, each line follows from those before it
abbrev first_but : ℕ → Type 0
first_but n = Follows (rules_of later_setting) (begun first) (drop n (reverse journal))

-- so does each: a batch of R, four joiners that settle, three batches with the end, and four joiners again
follows_first : first_but 0
follows_first =
    let feeder : 0 < 1 = omega arith in
    let j0 : 0 < 4 = omega arith in
    let j1 : 1 < 4 = omega arith in
    let j2 : 2 < 4 = omega arith in
    let j3 : 3 < 4 = omega arith in
    let begins : first_but 12 = (refl, feeder, refl) in
    let settles : first_but 8 =
    (refl, (j3, refl, refl), (refl, (j2, refl, refl), (refl, (j1, refl, refl), (refl, (j0, refl, refl), begins)))) in
    let counts : first_but 4 = (refl, feeder, (refl, feeder, (refl, feeder, (refl, feeder, settles)))) in
    (refl, (j0, refl, refl), (refl, (j1, refl, refl), (refl, (j2, refl, refl), (refl, (j3, refl, refl), counts))))

-- its feeder's batches are counted, and it has drained
counted_first : (p : ℕ) → p < 1
    → causes_of p journal ≡ all_causes p (map size_of (batches input later_setting first p))
counted_first zero low = refl
counted_first (suc p) low = absurd (omega arith)

-- so its journal is lawful
lawful_first : IsLawful (rules_of later_setting) (begun first) (λ p. map size_of (batches input later_setting first p))
    journal
lawful_first = record {
  so_far = record {
    follows = follows_first;
    counts = λ p low. record { rest = []; joins = append-nil (causes_of p journal) ∙ counted_first p low };
  };
  counted = counted_first;
  ended = λ line past is. sym (ap open_last is);
}

-- ---- the second wave

-- but for so many of the latest, each line follows from those before it
abbrev second_but : ℕ → Type 0
second_but n = Follows (rules_of later_setting) (begun second) (drop n (reverse later_journal))

-- so does each: six batches of R, four joiners that settle, and the end
follows_second : second_but 0
follows_second =
    let feeder : 0 < 1 = omega arith in
    let j0 : 0 < 4 = omega arith in
    let j1 : 1 < 4 = omega arith in
    let j2 : 2 < 4 = omega arith in
    let j3 : 3 < 4 = omega arith in
    let begins : second_but 8 = (refl, feeder, (refl, feeder, (refl, feeder, refl))) in
    let counts : second_but 5 = (refl, feeder, (refl, feeder, (refl, feeder, begins))) in
    let settles : second_but 1 =
    (refl, (j3, refl, refl), (refl, (j2, refl, refl), (refl, (j1, refl, refl), (refl, (j0, refl, refl), counts)))) in
    (refl, feeder, settles)

-- its feeder's batches, of the rows that came in it, are counted, and it has drained
counted_second : (p : ℕ) → p < 1
    → causes_of p later_journal ≡ all_causes p (map size_of (batches later_input later_setting second p))
counted_second zero low = refl
counted_second (suc p) low = absurd (omega arith)

-- so its journal is lawful
lawful_second : IsLawful (rules_of later_setting) (begun second)
    (λ p. map size_of (batches later_input later_setting second p)) later_journal
lawful_second = record {
  so_far = record {
    follows = follows_second;
    counts = λ p low. record { rest = []; joins = append-nil (causes_of p later_journal) ∙ counted_second p low };
  };
  counted = counted_second;
  ended = λ line past is. sym (ap open_last is);
}

-- ---- both

-- the waves are lawful, so the law of a run's bounds speaks of some run of two waves
pub lawful : AreLawful later_setting first waves
lawful = (omega arith, omega arith, lawful_first, (omega arith, omega arith, lawful_second, tt))

-- they have three migrations
pub migrations_in_all : last_epoch (journal_of waves) ≡ 3
migrations_in_all = refl

-- and six decisions: at 4 and at 8 rows of R, at 4 and at 8 of S, and at 16 and at 32 of R
pub decisions_in_all : decisions_in later_setting waves ≡ 6
decisions_in_all = refl
