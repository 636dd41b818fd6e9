-- The journals of waves one after the other are parted where they were joined.
use Rattle.std.proofs.Common.{◌≡◌, ◌∙◌, ◌<◌, ℕ, Bool, true, false, refl, sym, ap, subst, cond, List, [], ◌∷◌, ◌++◌}
use Rattle.std.specs.Prelude.{⊤, flat_map, reverse}
use Rattle.std.specs.List.{AllByRecursion}
use Rattle.std.proofs.lemmas.List.{reverse-append, reverse-reverse}
use Rattle.row_cells.proofs.Everywhere.{all-append}
use Rattle.load_controller.specs.declared.line.Cause.{Cause}
use Rattle.load_controller.specs.declared.line.Cause.TheVariants.{Count, Drain, Settle, Start, Wave}
use Rattle.load_controller.specs.declared.line.TurnLine.{TurnLine}
use Rattle.load_controller.specs.Journal.{Follows, IsAllowed, IsLawful, Rules, all_causes, begun, begun_by, causes_of}
use Rattle.load_controller.specs.Journal.{last_line}
use Rattle.trace_law.proofs.Begun.{no_request}
use Rattle.join_cli.specs.Journals.{is_wave, waves_in, with_line}

-- ---- within a lawful journal no line but the first begins a run or a wave

-- the line begins no wave, and a wave that goes on from it is a later one
pub record IsWithin (line : TurnLine) : Type 0 where
  pub within : is_wave line.cause ≡ false
  pub goes_on : begun_by line.cause ≡ Wave

allowed_within : (rules : Rules) (before : TurnLine) (past : List TurnLine) (cause : Cause)
    → IsAllowed rules before past cause → (is_wave cause ≡ false) × (begun_by cause ≡ Wave)
allowed_within rules before past Start allowed = absurd allowed
allowed_within rules before past Wave allowed = absurd allowed
allowed_within rules before past (Count feeder dr ds) allowed = (refl, refl)
allowed_within rules before past (Settle joiner) allowed = (refl, refl)
allowed_within rules before past (Drain feeder) allowed = (refl, refl)

-- a journal begins with its first line, and the others are within
pub record Begins (first : TurnLine) (journal : List TurnLine) : Type 0 where
  pub more : List TurnLine
  pub is : journal ≡ first ∷ more
  pub within : AllByRecursion IsWithin more

past_begins : (rules : Rules) (first line : TurnLine) (past : List TurnLine) → Follows rules first (line ∷ past)
    → Begins first (reverse (line ∷ past))
past_begins rules first line [] is = record { more = []; is = ap (λ l. l ∷ []) is; within = tt }
past_begins rules first line (before ∷ past) (made, allowed, follows) =
    let old = past_begins rules first before past follows in
    let its = allowed_within rules before past line.cause allowed in
    record {
      more = old.more ++ line ∷ [];
      is = reverse-append (line ∷ []) (before ∷ past) ∙ ap (λ ls. ls ++ line ∷ []) old.is;
      within = all-append IsWithin old.more (line ∷ []) old.within
          (record { within = its.0; goes_on = its.1 }, tt);
    }

journal_begins : (rules : Rules) (first : TurnLine) (journal past : List TurnLine) → reverse journal ≡ past
    → Follows rules first past → Begins first journal
journal_begins rules first journal [] is follows = absurd follows
journal_begins rules first journal (line ∷ past) is follows =
    subst (Begins first) (ap reverse (sym is) ∙ reverse-reverse journal) (past_begins rules first line past follows)

-- a lawful journal begins so
pub lawful_begins : (rules : Rules) (line : TurnLine) (batches : ℕ → List (ℕ × ℕ)) (journal : List TurnLine)
    → IsLawful rules (begun line) batches journal → Begins (begun line) journal
lawful_begins rules line batches journal lawful =
    journal_begins rules (begun line) journal (reverse journal) refl lawful.so_far.follows

some_causes : (p : ℕ) (sizes : List (ℕ × ℕ)) → all_causes p sizes ≡ [] → ⊥
some_causes p [] none = cc none
some_causes p (size ∷ sizes) none = cc none

last_within : (line : TurnLine) (more : List TurnLine) → AllByRecursion IsWithin (line ∷ more)
    → IsWithin (last_line line more)
last_within line [] (here, rest) = here
last_within line (next ∷ more) (here, rest) = last_within next more rest

-- the next wave begins as a later one
pub next_begins : (rules : Rules) (line : TurnLine) (batches : ℕ → List (ℕ × ℕ)) (journal : List TurnLine)
    → 0 < rules.feeders → IsLawful rules (begun line) batches journal
    → begun_by (last_line line journal).cause ≡ Wave
next_begins rules line batches journal some lawful =
    let begins = lawful_begins rules line batches journal lawful in
    subst (λ ls. begun_by (last_line line ls).cause ≡ Wave) (sym begins.is)
    (by begins.more begins.within (ap (causes_of 0) (sym begins.is) ∙ lawful.counted 0 some))
  where
    by : (more : List TurnLine) → AllByRecursion IsWithin more
        → causes_of 0 (begun line ∷ more) ≡ all_causes 0 (batches 0)
        → begun_by (last_line line (begun line ∷ more)).cause ≡ Wave
    by [] within counted =
        let none : causes_of 0 (begun line ∷ []) ≡ [] =
        ap (λ c. cond c (begun_by line.cause ∷ []) []) (no_request 0 line.cause) in
        absurd (some_causes 0 (batches 0) (sym counted ∙ none))
    by (next ∷ more) within counted = (last_within next more within).goes_on

-- ---- journals one after the other

-- there are none, or the first of them begins with this line
abbrev pub BeginWith : TurnLine → List (List TurnLine) → Type 0
BeginWith line [] = ⊤
BeginWith line (journal ∷ journals) = Begins line journal

last_alone : (line first : TurnLine) (journals : List (List TurnLine)) → is_wave first.cause ≡ true
    → BeginWith first journals → with_line line journals ≡ (line ∷ []) ∷ journals
last_alone line first [] wave begins = refl
last_alone line first ([] ∷ journals) wave begins = absurd (cc begins.is)
last_alone line first ((next ∷ journal) ∷ journals) wave begins =
    let same : next ≡ first = cc begins.is in
    ap (λ c. cond c ((line ∷ []) ∷ (next ∷ journal) ∷ journals) ((line ∷ next ∷ journal) ∷ journals))
    (ap (λ (l : TurnLine). is_wave l.cause) same ∙ wave)

-- a journal before others, of which each begins a later wave, is the first of all
pub parted : (line first : TurnLine) (more : List TurnLine) (journals : List (List TurnLine))
    → AllByRecursion IsWithin more → is_wave first.cause ≡ true → BeginWith first journals
    → waves_in (flat_map (λ journal. journal) journals) ≡ journals
    → waves_in ((line ∷ more) ++ flat_map (λ journal. journal) journals) ≡ (line ∷ more) ∷ journals
parted line first [] journals within wave begins are =
    ap (with_line line) are ∙ last_alone line first journals wave begins
parted line first (next ∷ more) journals (here, within) wave begins are =
    ap (with_line line) (parted next first more journals within wave begins are)
    ∙ ap (λ c. cond c ((line ∷ []) ∷ (next ∷ more) ∷ journals) ((line ∷ next ∷ more) ∷ journals)) here.within

-- a line before journals is one line more of all of them
line_joined : (line : TurnLine) (journals : List (List TurnLine))
    → flat_map (λ journal. journal) (with_line line journals) ≡ line ∷ flat_map (λ journal. journal) journals
line_joined line [] = refl
line_joined line ([] ∷ journals) = refl
line_joined line ((next ∷ journal) ∷ journals) = by (is_wave next.cause)
  where
    by : (wave : Bool)
        → flat_map (λ journal. journal)
        (cond wave ((line ∷ []) ∷ (next ∷ journal) ∷ journals) ((line ∷ next ∷ journal) ∷ journals))
        ≡ line ∷ next ∷ journal ++ flat_map (λ journal. journal) journals
    by true = refl
    by false = refl

-- a run's journal is those of its waves, one after the other
pub joined : (journal : List TurnLine) → flat_map (λ wave. wave) (waves_in journal) ≡ journal
joined [] = refl
joined (line ∷ journal) = line_joined line (waves_in journal) ∙ ap (λ ls. line ∷ ls) (joined journal)
