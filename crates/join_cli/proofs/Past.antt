-- A place past the greatest length is told.
use Rattle.std.proofs.Common.{◌≡◌, ◌<◌, ◌≤◌, ◌^◌, ◌∙◌, ℕ, Bool, true, false, List, [], ◌∷◌, ◌++◌, length, arith, Option}
use Rattle.std.proofs.Common.{None, Some, Result, Ok, Err, refl, sym, ap, subst}
use Rattle.std.specs.Prelude.{Contains, MatchResult, nat_lt}
use Rattle.std.proofs.lemmas.List.Elements.{Contains-append_left, Contains-append_right}
use Rattle.join_rows.specs.Records.{most_bytes, table_of}
use Rattle.join_rows.specs.Shelves.{Spot, Told}
use Rattle.join_rows.specs.declared.fault.TableFault.{TableFault}
use Rattle.join_rows.specs.declared.fault.TableFault.TheVariants as files
use Rattle.row_cells.specs.declared.table.Side.TheVariants.{R, S}
use Rattle.row_cells.specs.declared.table.Table.{Table}
use Rattle.join_words.specs.Words.{Asked, AskedChain, chain_of, later_of}
use Rattle.join_plan.specs.declared.fault.LimitFault.TheVariants.{TooLong}
use Rattle.join_plan.specs.declared.fault.Refusal.{Refusal}
use Rattle.join_plan.specs.declared.fault.Refusal.TheVariants as refusals
use Rattle.join_plan.specs.declared.files.Gathered.{Gathered}
use Rattle.join_plan.specs.declared.files.Tables.{Tables}
use Rattle.join_plan.specs.Files.{Source, later_sources, or_refused, sources, table_found, tables_in, third_source}
use Rattle.join_plan.specs.Later.{step, with_more, with_third}
use Rattle.join_plan.specs.Plan.{fitted}
use Rattle.join_plan.specs.Refusals.{then_of}
use Rattle.join_plan.specs.Seen.{AllSeen, BehindSeen, IsSeen, SeenFrom, TablesAsked, TablesSeen}
use Rattle.join_plan.specs.Waves.{first_wave}
use Rattle.join_plan.specs.Texts.{Trees}
use Rattle.join_plan.proofs.Seen.{third_among}
use Rattle.join_cli.specs.declared.outcome.Outcome.{Outcome}
use Rattle.join_cli.specs.Outcomes.{outcome_of}
use Rattle.join_cli.specs.Past.{IsTooLong}
use Rattle.join_cli.specs.Seen.{Ends, EndsOver}

-- what a function makes
abbrev made_by : {A B : Type 0} → (A → B) → Type 0
made_by {A} {B} f = B

-- tables and where their waves end, a type that has no name here
abbrev InWaves : Type 0
InWaves = made_by first_wave

-- so many bytes are no table
long_is_none : (bytes : List ℕ) → 2 ^ 24 < length bytes → table_of bytes ≡ Err files.TooLong
unfolding table_of
long_is_none bytes long = by (nat_lt most_bytes (length bytes)) refl
  where
    by : (is : Bool) → nat_lt most_bytes (length bytes) ≡ is → table_of bytes ≡ Err files.TooLong
    by true e = rw e refl
    by false e = absurd (grind (arith, e, long))

-- the name and the place of a spot
abbrev name_at : Spot → List ℕ
name_at None = []
name_at (Some at) = at.0

abbrev place_at : Spot → ℕ
place_at None = 0
place_at (Some at) = at.1

name_there : (spot : Spot) (name other : List ℕ) (place size : ℕ) → spot ≡ Some (name, place)
    → spot ≡ Some (other, size) → other ≡ name
name_there spot name other place size is so = ap name_at (sym so ∙ is)

place_there : (spot : Spot) (name other : List ℕ) (place size : ℕ) → spot ≡ Some (name, place)
    → spot ≡ Some (other, size) → place ≡ size
place_there spot name other place size is so = ap place_at (sym is ∙ so)

abbrev no_tables : Refusal → Result Tables Refusal
no_tables refusal = Err refusal

abbrev no_third : Refusal → Result (Option Table) Refusal
no_third refusal = Err refusal

-- tables of a file R that is too long are refused
long_r : (seen_r seen_s : List ℕ) → table_of seen_r ≡ Err files.TooLong
    → tables_in (Some seen_r) (Some seen_s) ≡ no_tables (refusals.Limit (TooLong R 1))
long_r seen_r seen_s is =
    ap (λ r. then_of (or_refused R 1 r) (λ of_r. then_of (table_found S 1 (Some seen_s))
    (λ of_s. Ok (record { of_r = of_r; of_s = of_s })))) is

-- and of a table R and a file S that is too long
long_s : (seen_r seen_s : List ℕ) (table : Table) → table_of seen_r ≡ Ok table → table_of seen_s ≡ Err files.TooLong
    → tables_in (Some seen_r) (Some seen_s) ≡ no_tables (refusals.Limit (TooLong S 1))
long_s seen_r seen_s table is_r is_s =
    ap (λ r. then_of (or_refused R 1 r) (λ of_r. then_of (table_found S 1 (Some seen_s))
    (λ of_s. Ok (record { of_r = of_r; of_s = of_s })))) is_r
    ∙ ap (λ s. then_of (or_refused S 1 s) (λ of_s. Ok (record { of_r = table; of_s = of_s }))) is_s

-- at a place past the greatest length in one of the first two files, that one is refused
two_long : (told : Told) (spot : Spot) (asked : Asked) (tables : Result Tables Refusal) (name : List ℕ) (place : ℕ)
    → TablesSeen told spot asked.name_r asked.name_s tables → spot ≡ Some (name, place) → 2 ^ 24 < place
    → (source : Source) × Contains (sources asked) source × (source.name ≡ name)
    × (tables ≡ no_tables (refusals.Limit (TooLong source.side source.wave)))
two_long told spot asked tables name place seen is past = by (table_of seen.seen_r) refl
  where
    by : (r : Result Table TableFault) → table_of seen.seen_r ≡ r
        → (source : Source) × Contains (sources asked) source × (source.name ≡ name)
        × (tables ≡ no_tables (refusals.Limit (TooLong source.side source.wave)))
    by (Ok table) e =
        let stands : spot ≡ Some (asked.name_s, length seen.seen_s) = rw e at seen.are.place in
        let long : 2 ^ 24 < length seen.seen_s =
        subst (λ n. 2 ^ 24 < n) (place_there spot name asked.name_s place (length seen.seen_s) is stands) past in (
          record { side = S; wave = 1; name = asked.name_s },
          (1, omega arith, refl),
          name_there spot name asked.name_s place (length seen.seen_s) is stands,
          seen.answer ∙ long_s seen.seen_r seen.seen_s table e (long_is_none seen.seen_s long),
        )
    by (Err fault) e =
        let stands : spot ≡ Some (asked.name_r, length seen.seen_r) = rw e at seen.are.place in
        let long : 2 ^ 24 < length seen.seen_r =
        subst (λ n. 2 ^ 24 < n) (place_there spot name asked.name_r place (length seen.seen_r) is stands) past in (
          record { side = R; wave = 1; name = asked.name_r },
          (0, omega arith, refl),
          name_there spot name asked.name_r place (length seen.seen_r) is stands,
          seen.answer ∙ long_r seen.seen_r seen.seen_s (long_is_none seen.seen_r long),
        )

-- and in the third
third_long : (told : Told) (spot : Spot) (chain : AskedChain) (table : Result Table Refusal) (name : List ℕ) (place : ℕ)
    → IsSeen told spot (record { side = S; wave = 2; name = chain.name }) table → spot ≡ Some (name, place)
    → 2 ^ 24 < place
    → (chain.name ≡ name) × (◌≡◌ {A = Result Table Refusal} table (Err (refusals.Limit (TooLong S 2))))
third_long told spot chain table name place seen is past =
    let long : 2 ^ 24 < length seen.seen =
    subst (λ n. 2 ^ 24 < n) (place_there spot name chain.name place (length seen.seen) is seen.place) past in (
      name_there spot name chain.name place (length seen.seen) is seen.place,
      seen.answer ∙ ap (or_refused S 2) (long_is_none seen.seen long),
    )

-- the outcome of a refused plan
ended : (asked : Asked) (trees : Trees) (old new : Option (List ℕ)) (outcome : Outcome)
    (found : Result Gathered Refusal) (refusal : Refusal)
    → found ≡ Err refusal → Ends asked old new (then_of found (fitted trees)) outcome → outcome ≡ outcome_of refusal
ended asked trees old new outcome found refusal is ends =
    (subst (λ f. Ends asked old new (then_of f (fitted trees)) outcome) is ends).0

-- ---- the later files

abbrev no_waves : Refusal → Result InWaves Refusal
no_waves refusal = Err refusal

-- a later file that is too long is refused
long_step : (source : Source) (waves : InWaves) (bytes : List ℕ) → 2 ^ 24 < length bytes
    → step source waves (Some bytes) ≡ no_waves (refusals.Limit (TooLong source.side source.wave))
long_step source waves bytes long = ap (λ r. then_of (or_refused source.side source.wave r) (with_more source waves))
    (long_is_none bytes long)

-- of one of these files it is told that it is too long
record IsLaterTooLong (all : List Source) (name : List ℕ) (result : Result InWaves Refusal) : Type 0 where
  source : Source
  among : Contains all source
  named : source.name ≡ name
  told : result ≡ no_waves (refusals.Limit (TooLong source.side source.wave))

-- at a place past the greatest length, where that isn't before them all
later_long : (told : Told) (last spot : Spot) (waves : InWaves) (all : List Source) (result : Result InWaves Refusal)
    (name : List ℕ) (place : ℕ) → SeenFrom told last spot waves all result
    → (last ≡ Some (name, place) → place ≤ 2 ^ 24) → spot ≡ Some (name, place) → 2 ^ 24 < place
    → IsLaterTooLong all name result
later_long told last spot waves [] result name place seen near is long =
    let low = near (sym seen.0 ∙ is) in absurd (omega (arith, low, long))
later_long told last spot waves (source ∷ more) result name place seen near is long =
    by (step source waves (Some seen.0)) refl seen.2
    (λ waves' after low. later_long told (Some (source.name, length seen.0)) spot waves' more result name place after
    low is long)
  where
    by : (r : Result InWaves Refusal) → step source waves (Some seen.0) ≡ r
        → MatchResult r (λ w. SeenFrom told (Some (source.name, length seen.0)) spot w more result)
        (λ refusal. (spot ≡ Some (source.name, length seen.0)) × (result ≡ Err refusal))
        → ((waves' : InWaves) → SeenFrom told (Some (source.name, length seen.0)) spot waves' more result
        → (◌≡◌ {A = Spot} (Some (source.name, length seen.0)) (Some (name, place)) → place ≤ 2 ^ 24)
        → IsLaterTooLong more name result)
        → IsLaterTooLong (source ∷ more) name result
    by (Ok waves') e after go_on =
        let there = go_on waves' after (λ same. low (nat_lt (2 ^ 24) (length seen.0)) refl (ap place_at same)) in
        record {
          source = there.source;
          among = Contains-append_right (source ∷ []) more there.source there.among;
          named = there.named;
          told = there.told;
        }
      where
        low : (b : Bool) → nat_lt (2 ^ 24) (length seen.0) ≡ b → length seen.0 ≡ place → place ≤ 2 ^ 24
        low true p same = absurd (cc (sym (long_step source waves seen.0 (grind (arith, p))) ∙ e))
        low false p same = grind (arith, p, same)
    by (Err refusal) e after go_on =
        let size : place ≡ length seen.0 = ap place_at (sym is ∙ after.0) in
        record {
          source = source;
          among = (0, omega arith, refl);
          named = ap name_at (sym after.0 ∙ is);
          told = after.1 ∙ sym e ∙ long_step source waves seen.0 (subst (λ n. 2 ^ 24 < n) size long);
        }

-- a later file is one that is asked for
later_among : (asked : Asked) (source : Source) → Contains (later_sources 2 (later_of asked.kind)) source
    → Contains (sources asked) source
later_among asked source among =
    Contains-append_right
    (record { side = R; wave = 1; name = asked.name_r } ∷ record { side = S; wave = 1; name = asked.name_s } ∷ [])
    (later_sources 2 (later_of asked.kind) ++ third_source (chain_of asked.kind)) source
    (Contains-append_left (later_sources 2 (later_of asked.kind)) (third_source (chain_of asked.kind)) source among)

-- ---- all files

-- where the first two files are tables, the place isn't past the greatest length behind them
near_two : (told : Told) (spot : Spot) (asked : Asked) (tables : Tables) (name : List ℕ) (place : ℕ)
    → TablesSeen told spot asked.name_r asked.name_s (Ok tables) → spot ≡ Some (name, place) → place ≤ 2 ^ 24
near_two told spot asked tables name place seen is = by (nat_lt (2 ^ 24) place) refl
  where
    by : (b : Bool) → nat_lt (2 ^ 24) place ≡ b → place ≤ 2 ^ 24
    by true p =
        let two = two_long told spot asked (Ok tables) name place seen is (grind (arith, p)) in absurd (cc two.3)
    by false p = grind (arith, p)

module _ (told : Told) (spot : Spot) (asked : Asked) (trees : Trees) (old new : Option (List ℕ)) (outcome : Outcome)
    (name : List ℕ) (place : ℕ) (found : Result Gathered Refusal)
    (ends : Ends asked old new (then_of found (fitted trees)) outcome)
    (is : spot ≡ Some (name, place)) (past : 2 ^ 24 < place) where
  -- behind two tables and the later files, the third file
  third : (chain : Option AskedChain) (begun middle : Spot) (tables : Tables) (waves : InWaves)
      → chain_of asked.kind ≡ chain
      → TablesSeen told begun asked.name_r asked.name_s (Ok tables)
      → SeenFrom told begun middle (first_wave tables) (later_sources 2 (later_of asked.kind)) (Ok waves)
      → AllSeen told middle spot chain (Ok waves) found → IsTooLong asked name outcome
  third None begun middle tables waves here seen later all =
      let long = later_long told begun middle (first_wave tables) (later_sources 2 (later_of asked.kind)) (Ok waves)
      name place
      later (near_two told begun asked tables name place seen) (sym all.1.0 ∙ is) past in
      absurd (cc long.told)
  third (Some chain) begun middle tables waves here seen later all =
      let behind = all.1 in
      let long = third_long told spot chain behind.0 name place behind.1 is past in
      let refused : all.0 ≡ no_third (refusals.Limit (TooLong S 2)) =
      behind.2 ∙ ap (λ t. then_of t (λ found. Ok (Some found))) long.1 in
      record {
        source = record { side = S; wave = 2; name = chain.name };
        among = third_among asked chain here;
        named = long.0;
        told = ended asked trees old new outcome found (refusals.Limit (TooLong S 2))
            (all.2 ∙ ap (with_third waves) refused) ends;
      }

  -- behind two tables, the later files
  later_files : (waves : Result InWaves Refusal) (begun middle : Spot) (tables : Tables)
      → TablesSeen told begun asked.name_r asked.name_s (Ok tables)
      → SeenFrom told begun middle (first_wave tables) (later_sources 2 (later_of asked.kind)) waves
      → AllSeen told middle spot (chain_of asked.kind) waves found → IsTooLong asked name outcome
  later_files (Ok waves) begun middle tables seen later all =
      third (chain_of asked.kind) begun middle tables waves refl seen later all
  later_files (Err refusal) begun middle tables seen later all =
      let long = later_long told begun middle (first_wave tables) (later_sources 2 (later_of asked.kind))
      (no_waves refusal) name
      place later (near_two told begun asked tables name place seen) (sym all.0 ∙ is) past in
      let same : refusal ≡ refusals.Limit (TooLong long.source.side long.source.wave) = cc long.told in
      record {
        source = long.source;
        among = later_among asked long.source long.among;
        named = long.named;
        told = ended asked trees old new outcome found (refusals.Limit (TooLong long.source.side long.source.wave))
            (all.1 ∙ ap (λ r. Err r) same) ends;
      }

  -- the first two files
  two_files : (tables : Result Tables Refusal) (begun : Spot)
      → TablesSeen told begun asked.name_r asked.name_s tables → BehindSeen told begun spot asked tables found
      → IsTooLong asked name outcome
  two_files (Ok tables) begun seen behind =
      later_files behind.waves begun behind.middle tables seen behind.later behind.third
  two_files (Err refusal) begun seen behind =
      let after = behind.later in
      let all = subst (λ w. AllSeen told behind.middle spot (chain_of asked.kind) w found) after.1 behind.third in
      let two = two_long told begun asked (no_tables refusal) name place seen (sym after.0 ∙ sym all.0 ∙ is) past in
      let same : refusal ≡ refusals.Limit (TooLong two.0.side two.0.wave) = cc two.3 in
      record {
        source = two.0;
        among = two.1;
        named = two.2;
        told = ended asked trees old new outcome found (refusals.Limit (TooLong two.0.side two.0.wave))
            (all.1 ∙ ap (λ r. Err r) same) ends;
      }

module _ (told : Told) (spot : Spot) (asked : Asked) (trees : Trees) where
  -- what was read up to a place past the greatest length is no table, so the refusal is the one that tells its file
  pub past_is_too_long : (old new : Option (List ℕ))
      (outcome : Outcome)
      (name : List ℕ) (place : ℕ) → asked.make ≡ None → EndsOver told spot asked trees old new outcome
      → spot ≡ Some (name, place) → 2 ^ 24 < place → IsTooLong asked name outcome
  past_is_too_long old new outcome name place none over is past =
      two_files told spot asked trees old new outcome name place over.found over.ends is past over.seen.tables
      over.seen.middle (subst (λ make. TablesAsked told over.seen.middle asked make over.seen.tables) none
      over.seen.first) over.seen.behind
