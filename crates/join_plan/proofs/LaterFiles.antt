-- Later files, one after the other.
use Rattle.std.proofs.Common.{◌≡◌, ◌<◌, ◌≤◌, ◌+◌, ◌-◌, ◌++◌, ◌∙◌, ◌⊎◌, inl, inr, ℕ, suc, List, [], ◌∷◌, length, take}
use Rattle.std.proofs.Common.{drop}
use Rattle.std.proofs.Common.{get_or, map, arith, Option, None, Some, Result, Ok, Err, refl, sym, ap, subst}
use Rattle.std.specs.Prelude.{IfOk, IfSome, MatchResult}
use Rattle.std.proofs.lemmas.List.{length-map, take_all}
use Rattle.std.proofs.lemmas.List.Elements.{Contains-append_left, Contains-append_right}
use Rattle.join_rows.specs.Shelves.{Spot, Told}
use Rattle.row_cells.specs.declared.table.Table.{Table}
use Rattle.join_words.specs.Words.{Asked, AskedWave, asked_wave, chain_of, later_of}
use Rattle.join_words.specs.declared.kind.Wave.{Wave}
use Rattle.join_plan.specs.declared.fault.Refusal.{Refusal}
use Rattle.join_plan.specs.declared.fault.Refusal.TheVariants as refusals
use Rattle.join_plan.specs.declared.waves.InWaves.{InWaves}
use Rattle.join_plan.specs.Causes.{AreAsked}
use Rattle.join_plan.specs.Files.{Source, later_sources, third_source, wave_sources}
use Rattle.join_plan.specs.Later.{gathered, step}
use Rattle.join_plan.specs.Refusals.{then_of}
use Rattle.join_plan.specs.Seen.{IsNextSeen, SeenFrom}

-- a refusal in place of a table
abbrev pub no_table : Refusal → Result Table Refusal
no_table refusal = Err refusal

-- a refusal in place of the tables of waves
abbrev pub no_waves : Refusal → Result InWaves Refusal
no_waves refusal = Err refusal

-- ---- of a shelf that tells its files

-- the rows of two lists of files are those of the one, and behind them those of the other
pub gathered_append : (files : List ℕ → Option (List ℕ)) (waves : InWaves) (front back : List Source)
    → gathered files waves (front ++ back) ≡ then_of (gathered files waves front) (λ all. gathered files all back)
gathered_append files waves [] back = refl
gathered_append files waves (source ∷ front) back =
    by (step source waves (files source.name)) (λ all. gathered_append files all front back)
  where
    by : (r : Result InWaves Refusal) → ((all : InWaves) → gathered files all (front ++ back)
        ≡ then_of (gathered files all front) (λ next. gathered files next back))
        → then_of r (λ all. gathered files all (front ++ back))
        ≡ then_of (then_of r (λ all. gathered files all front)) (λ all. gathered files all back)
    by (Ok all) others = others all
    by (Err refusal) others = refl

-- ---- of whatever shelf

-- what may follow a file that was read
abbrev pub Follows : Told → Spot → Source → List ℕ → List Source → Result InWaves Refusal → Result InWaves Refusal
    → Type 0
Follows told spot source seen more result r =
    MatchResult r (λ all. SeenFrom told (Some (source.name, length seen)) spot all more result)
    (λ refusal. (spot ≡ Some (source.name, length seen)) × (result ≡ Err refusal))

module _ (told : Told) (last middle spot : Spot) where
  -- a file whose rows stand behind the others, and then more
  pub seen_next : (waves all : InWaves) (source : Source) (more : List Source) (result : Result InWaves Refusal)
      → IsNextSeen told middle source waves (Ok all) → SeenFrom told middle spot all more result
      → SeenFrom told last spot waves (source ∷ more) result
  seen_next waves all source more result is after = (
    is.seen,
    is.first,
    subst (Follows told spot source is.seen more result) is.answer
        (subst (λ s. SeenFrom told s spot all more result) is.place after),
  )

-- a file that is refused, whatever comes behind it
pub seen_refused : (told : Told) (last spot : Spot) (waves : InWaves) (source : Source) (more : List Source)
    (refusal : Refusal)
    → IsNextSeen told spot source waves (no_waves refusal)
    → SeenFrom told last spot waves (source ∷ more) (no_waves refusal)
seen_refused told last spot waves source more refusal is = (
  is.seen,
  is.first,
  subst (Follows told spot source is.seen more (no_waves refusal)) is.answer (is.place, refl),
)

-- a last file
pub seen_last : (told : Told) (last spot : Spot) (waves : InWaves) (source : Source) (result : Result InWaves Refusal)
    → IsNextSeen told spot source waves result → SeenFrom told last spot waves (source ∷ []) result
seen_last told last spot waves source (Ok all) is =
    seen_next told last spot spot waves all source [] (Ok all) is (refl, refl)
seen_last told last spot waves source (Err refusal) is = seen_refused told last spot waves source [] refusal is

-- files that were all read, and then more
pub seen_on : (told : Told) (last middle spot : Spot) (waves all : InWaves) (front back : List Source)
    (result : Result InWaves Refusal)
    → SeenFrom told last middle waves front (Ok all) → SeenFrom told middle spot all back result
    → SeenFrom told last spot waves (front ++ back) result
seen_on told last middle spot waves all [] back result is after =
    let same : all ≡ waves = cc is.1 in
    subst (λ w. SeenFrom told last spot w back result) same
    (subst (λ s. SeenFrom told s spot all back result) is.0 after)
seen_on told last middle spot waves all (source ∷ front) back result is after = (
  is.0,
  is.1,
  by (step source waves (Some is.0)) (λ next. seen_on told (Some (source.name, length is.0)) middle spot next all
      front back result) is.2,
)
  where
    by : (r : Result InWaves Refusal)
        → ((next : InWaves) → SeenFrom told (Some (source.name, length is.0)) middle next front (Ok all)
        → SeenFrom told middle spot all back result
        → SeenFrom told (Some (source.name, length is.0)) spot next (front ++ back) result)
        → Follows told middle source is.0 front (Ok all) r
        → Follows told spot source is.0 (front ++ back) result r
    by (Ok next) go_on seen = go_on next seen after
    by (Err refusal) go_on seen = absurd (cc seen.1)

-- files one of which was refused, whatever comes behind them
pub seen_out : (told : Told) (last spot : Spot) (waves : InWaves) (front back : List Source) (refusal : Refusal)
    → SeenFrom told last spot waves front (no_waves refusal)
    → SeenFrom told last spot waves (front ++ back) (no_waves refusal)
seen_out told last spot waves [] back refusal is = absurd (cc is.1)
seen_out told last spot waves (source ∷ front) back refusal is = (
  is.0,
  is.1,
  by (step source waves (Some is.0)) (λ next. seen_out told (Some (source.name, length is.0)) spot next front back
      refusal) is.2,
)
  where
    by : (r : Result InWaves Refusal)
        → ((next : InWaves) → SeenFrom told (Some (source.name, length is.0)) spot next front (no_waves refusal)
        → SeenFrom told (Some (source.name, length is.0)) spot next (front ++ back) (no_waves refusal))
        → Follows told spot source is.0 front (no_waves refusal) r
        → Follows told spot source is.0 (front ++ back) (no_waves refusal) r
    by (Ok next) go_on seen = go_on next seen
    by (Err other) go_on seen = seen

-- ---- what is asked for

-- the files of the later waves are asked for
later_asked : (asked : Asked) → asked.make ≡ None → AreAsked asked (later_sources 2 (later_of asked.kind))
later_asked asked none source among = record {
  files = none;
  among = Contains-append_right (_ ∷ _ ∷ []) (later_sources 2 (later_of asked.kind)
      ++ third_source (chain_of asked.kind)) source
      (Contains-append_left (later_sources 2 (later_of asked.kind)) (third_source (chain_of asked.kind)) source among);
}

-- and where tables are made there is none
pub waves_asked : (asked : Asked) → IfSome asked.make (λ _. later_of asked.kind ≡ [])
    → AreAsked asked (later_sources 2 (later_of asked.kind))
waves_asked asked none = by asked.make refl
  where
    by : (make : Option ℕ) → asked.make ≡ make → AreAsked asked (later_sources 2 (later_of asked.kind))
    by None here = later_asked asked here
    by (Some count) here = λ source among.
        let alone : later_of asked.kind ≡ [] = rw here at none in
        let within : among.0 < 0 = (rw alone at among).1 in absurd (omega (arith, within))

-- there are as many waves of the code as are asked for
pub waves_count : (waves : List Wave) (later : List AskedWave) → map asked_wave waves ≡ later
    → length waves ≡ length later
waves_count waves later are = sym (length-map waves asked_wave) ∙ ap length are

-- ---- a slice of waves: its first, and those behind it

module _ (number : ℕ) (later : List Wave) (d : Wave) (some : 1 ≤ length later) where
  -- the files of the first
  abbrev pub first_files : List Source
  first_files = wave_sources number (asked_wave (get_or later 0 d))

  -- those of the others
  abbrev pub other_files : List Source
  other_files = later_sources (number + 1) (map asked_wave (take (length later - 1) (drop 1 later)))

  -- all
  abbrev pub all_files : List Source
  all_files = later_sources number (map asked_wave later)

  -- these are the files of the first and, behind them, those of the others
  pub all_are : all_files ≡ first_files ++ other_files
  all_are = by later some
    where
      by : (later : List Wave) → 1 ≤ length later → later_sources number (map asked_wave later)
          ≡ wave_sources number (asked_wave (get_or later 0 d))
          ++ later_sources (number + 1) (map asked_wave (take (length later - 1) (drop 1 later)))
      by [] some = absurd (omega (arith, some))
      by (wave ∷ waves) some =
          let whole : take (suc (length waves) - 1) waves ≡ waves = take_all _ waves (omega arith) in rw whole refl

  -- where all are asked for, those of the first are
  pub first_asked : (asked : Asked) → AreAsked asked all_files → AreAsked asked first_files
  first_asked asked are source among =
      are source (rw all_are (Contains-append_left first_files other_files source among))

  others_asked : (asked : Asked) → AreAsked asked all_files → AreAsked asked other_files
  others_asked asked are source among =
      are source (rw all_are (Contains-append_right first_files other_files source among))

  -- where the first was found, the answer of the others is that of all
  pub answer_on : (files : List ℕ → Option (List ℕ)) (waves next : InWaves) (result : Result InWaves Refusal)
      → gathered files waves first_files ≡ Ok next
      → (result ≡ no_waves refusals.Memory) ⊎ (result ≡ gathered files next other_files)
      → (result ≡ no_waves refusals.Memory) ⊎ (result ≡ gathered files waves all_files)
  answer_on files waves next result found (inl m) = inl m
  answer_on files waves next result found (inr e) = inr (e ∙ sym (all_found files waves next found))
    where
      all_found : (files : List ℕ → Option (List ℕ)) (waves next : InWaves)
          → gathered files waves first_files ≡ Ok next
          → gathered files waves all_files ≡ gathered files next other_files
      all_found files waves next found =
          ap (gathered files waves) all_are ∙ gathered_append files waves first_files other_files
          ∙ ap (λ r. then_of r (λ all. gathered files all other_files)) found

  -- and so is what they are where they are found too
  pub found_on : (told middle : Told) (waves next : InWaves) (result : Result InWaves Refusal) → middle ≡ told
      → ((files : List ℕ → Option (List ℕ)) → told ≡ Some files → gathered files waves first_files ≡ Ok next)
      → IfOk result (λ last. (files : List ℕ → Option (List ℕ)) → middle ≡ Some files
      → gathered files next other_files ≡ Ok last)
      → IfOk result (λ last. (files : List ℕ → Option (List ℕ)) → told ≡ Some files
      → gathered files waves all_files ≡ Ok last)
  found_on told middle waves next (Err refusal) same first others = tt
  found_on told middle waves next (Ok last) same first others = λ files is.
      ap (gathered files waves) all_are ∙ gathered_append files waves first_files other_files
      ∙ ap (λ r. then_of r (λ all. gathered files all other_files)) (first files is) ∙ others files (same ∙ is)

  -- what was read of the first, and then of the others, was read of all
  pub seen_behind : (told : Told) (last middle spot : Spot) (waves next : InWaves) (result : Result InWaves Refusal)
      → SeenFrom told last middle waves first_files (Ok next) → SeenFrom told middle spot next other_files result
      → SeenFrom told last spot waves all_files result
  seen_behind told last middle spot waves next result is after =
      rw all_are (seen_on told last middle spot waves next first_files other_files result is after)

  -- a first that was refused
  pub seen_first : (told : Told) (last spot : Spot) (waves : InWaves) (refusal : Refusal)
      → SeenFrom told last spot waves first_files (no_waves refusal)
      → SeenFrom told last spot waves all_files (no_waves refusal)
  seen_first told last spot waves refusal is =
      rw all_are (seen_out told last spot waves first_files other_files refusal is)

-- behind a first wave that is asked for are others
pub rest_asked : (number : ℕ) (later : List Wave) → 1 ≤ length later → (asked : Asked)
    → AreAsked asked (later_sources number (map asked_wave later))
    → AreAsked asked (later_sources (number + 1) (map asked_wave (take (length later - 1) (drop 1 later))))
rest_asked number [] some asked are = absurd (omega (arith, some))
rest_asked number (wave ∷ waves) some asked are = others_asked number (wave ∷ waves) wave some asked are
