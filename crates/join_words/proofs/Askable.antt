-- What is asked for at once.
use Rattle.std.proofs.Common.{◌≡◌, ◌∙◌, ◌≤◌, ◌<◌, ◌+◌, ◌*◌, ℕ, Bool, true, false, List, Option, Some, None, arith}
use Rattle.std.proofs.Common.{ap}
use Rattle.std.proofs.Common.{codes, length, refl, subst, sym}
use Rattle.std.specs.Prelude.{IfSome, IsSome, Ok, is_some, nat_le}
use Rattle.std.proofs.lemmas.Bool.{leb-false}
use Rattle.clap.specs.Walk.{Row}
use Rattle.join_words.specs.Apart.{any_of, apart}
use Rattle.join_words.specs.Found.{early_at, groups_at, grow_at, joiners_at, make_at, names_given, number_at}
use Rattle.join_words.specs.Found.{flag_at, replay_at, rings_at, text_at, then_at}
use Rattle.join_words.specs.Words.{AreBounded, AreOptions, AskedChain, AskedKind, AskedWave, Names, StandTogether}
use Rattle.join_words.specs.Words.{asked, asked_with, begun_by, early, feed_named, given_by, grid_by, in_chain}
use Rattle.join_words.specs.Words.{in_groups, in_waves, kind_by, names_by, no_wave_behind, over_rings, single_kind}
use Rattle.join_words.specs.declared.checks.Begun.{Begun}
use Rattle.join_words.specs.declared.kind.Grid.{Grid}
use Rattle.join_words.specs.declared.options.Options.{Options}
use Rattle.join_words.proofs.Passed.{AreNames, IsGrid, both_passed, found_is, grid_found, names_found, not_apart}
use Rattle.join_words.proofs.Together.{early_bare, early_unmade, growth_before, growth_free, made_bare, then_bare}

-- what a single kind is, by what is given
pub single_cases : (rows : List Row) (grid : Grid) (later : List AskedWave) (P : AskedKind → Type 0)
    → P (in_groups (joiners_at rows)) → P (over_rings grid) → (early_at rows ≡ true → P (early grid))
    → P (in_waves grid (replay_at rows) later (grow_at rows)) → P (single_kind rows grid later)
single_cases rows grid later P groups rings soon waves = by_groups (groups_at rows) refl
  where
    by_early : (e : Bool) → early_at rows ≡ e → groups_at rows ≡ false → rings_at rows ≡ false
        → P (single_kind rows grid later)
    by_early true e g r = rw (g, r, e) (soon e)
    by_early false e g r = rw (g, r, e) waves

    by_rings : (r : Bool) → rings_at rows ≡ r → groups_at rows ≡ false → P (single_kind rows grid later)
    by_rings true r g = rw (g, r) rings
    by_rings false r g = by_early (early_at rows) refl g r

    by_groups : (g : Bool) → groups_at rows ≡ g → P (single_kind rows grid later)
    by_groups true g = rw g groups
    by_groups false g = by_rings (rings_at rows) refl g

-- what holds where something is there
pub if_there : {A : Type 0} {P : Type 0} (o : Option A) → (is_some o ≡ true → P) → IfSome o (λ _. P)
if_there None holds = tt
if_there (Some x) holds = holds refl

-- nothing is both true and false
no_truth : false ≡ true → ⊥
no_truth is = cc

-- what a match that passed the checks asks for, where these are what the checks found
module _ (rows : List Row) (bounded : AreBounded rows) (begun : Begun) (names : Names)
    (none : any_of (given_by rows) apart ≡ false)
    (grid : IsGrid (number_at (codes "fixed") rows) begun.grid)
    (named : AreNames (make_at rows) (then_at rows) (names_given rows) names) where
  -- whether such a kind may be asked for with the rest of the words
  abbrev MayBe : AskedKind → Type 0
  MayBe kind = StandTogether kind (make_at rows) (flag_at (codes "rows") rows)

  -- a wave is behind the growth
  growth : (grow : Option ℕ) → grow_at rows ≡ grow → IfSome grow (λ wave. (1 ≤ wave) × (wave ≤ 3))
      → names.chain ≡ None → IfSome grow (λ wave. (1 ≤ wave) × (wave ≤ length names.later))
  growth None is within whole = tt
  growth (Some wave) is within whole =
      let few : nat_le (length (names_given rows)) (2 * wave) ≡ false =
      subst (λ (o : Option ℕ). no_wave_behind o (length (names_given rows)) ≡ false) is
      (growth_before rows none (ap is_some is)) in
      let more : 2 * wave < length (names_given rows) = leb-false (length (names_given rows)) (2 * wave) few in
      let half : length (names_given rows) ≤ 2 * length names.later + 2 = named.half whole in
      (within.0, omega (arith, more, half))

  waves_stand : names.chain ≡ None
      → MayBe (in_waves begun.grid (replay_at rows) names.later (grow_at rows))
  waves_stand whole = record {
    small = grid.small;
    fits = grid.fits;
    groups = tt;
    later = named.few;
    grow = growth (grow_at rows) refl bounded.grow whole;
    free = if_there (grow_at rows) (λ on. grid.free (growth_free rows none on));
    make = bounded.make;
    made_once = named.made;
    made_whole = if_there (make_at rows) (λ on. refl);
    made_rows = if_there (make_at rows) (made_bare rows none);
    early = λ soon. absurd (no_truth soon);
    chained = tt;
  }

  early_stand : early_at rows ≡ true → MayBe (early begun.grid)
  early_stand soon = record {
    small = grid.small;
    fits = grid.fits;
    groups = tt;
    later = omega arith;
    grow = tt;
    free = tt;
    make = bounded.make;
    made_once = if_there (make_at rows) (λ on. refl);
    made_whole = if_there (make_at rows)
        (λ on. absurd (no_truth (sym (ap is_some (early_unmade rows none soon)) ∙ on)));
    made_rows = if_there (make_at rows) (made_bare rows none);
    early = λ is. (early_unmade rows none soon, early_bare rows none soon);
    chained = tt;
  }

  groups_stand : MayBe (in_groups (joiners_at rows))
  groups_stand = record {
    small = omega arith;
    fits = tt;
    groups = bounded.joiners;
    later = omega arith;
    grow = tt;
    free = tt;
    make = bounded.make;
    made_once = if_there (make_at rows) (λ on. refl);
    made_whole = if_there (make_at rows) (λ on. refl);
    made_rows = if_there (make_at rows) (made_bare rows none);
    early = λ soon. absurd (no_truth soon);
    chained = tt;
  }

  rings_stand : MayBe (over_rings begun.grid)
  rings_stand = record {
    small = grid.small;
    fits = grid.fits;
    groups = tt;
    later = omega arith;
    grow = tt;
    free = tt;
    make = bounded.make;
    made_once = if_there (make_at rows) (λ on. refl);
    made_whole = if_there (make_at rows) (λ on. refl);
    made_rows = if_there (make_at rows) (made_bare rows none);
    early = λ soon. absurd (no_truth soon);
    chained = tt;
  }

  chain_stands : (chain : AskedChain) → names.chain ≡ Some chain → MayBe (in_chain begun.grid chain)
  chain_stands chain is =
      let there : (make_at rows ≡ None) × IsSome (then_at rows) =
      subst (λ (o : Option AskedChain). IfSome o (λ _. (make_at rows ≡ None) × IsSome (then_at rows))) is named.chained
      in record {
        small = grid.small;
        fits = grid.fits;
        groups = tt;
        later = omega arith;
        grow = tt;
        free = tt;
        make = bounded.make;
        made_once = if_there (make_at rows) (λ on. refl);
        made_whole = if_there (make_at rows) (λ on. refl);
        made_rows = if_there (make_at rows) (made_bare rows none);
        early = λ soon. absurd (no_truth soon);
        chained = (there.0, then_bare rows none there.1);
      }

  -- of each kind
  kinds_stand : (chain : Option AskedChain) → names.chain ≡ chain
      → MayBe (kind_by rows begun.grid names.later chain)
  kinds_stand (Some chain) is = chain_stands chain is
  kinds_stand None is =
      single_cases rows begun.grid names.later MayBe
      groups_stand rings_stand early_stand
      (waves_stand is)

  all_stand : AreOptions (asked_with rows begun names)
  all_stand = record {
    counted = record { feeders = bounded.feeders; workers = bounded.workers; batch = bounded.batch };
    weighed = bounded.weights;
    together = kinds_stand names.chain refl;
  }

-- what a match asks for is what may be asked for, where these are what the checks found
pub options_stand : (rows : List Row) (begun : Begun) (names : Names) → AreBounded rows → Ok begun ≡ begun_by rows
    → names_by (make_at rows) (then_at rows) (names_given rows) ≡ Ok names → AreOptions (asked_with rows begun names)
options_stand rows begun names bounded begins named =
    let fed = both_passed (feed_named (text_at (codes "feed") rows)) _ begun (sym begins) in
    let laid = both_passed (grid_by (groups_at rows) (joiners_at rows) (number_at (codes "fixed") rows)) _ begun fed.2
    in
    let stands = not_apart (given_by rows) _ begun laid.2 in
    let grid = grid_found (groups_at rows) (joiners_at rows) (number_at (codes "fixed") rows) laid.0 bounded.joiners.1
    laid.1 in
    let own : IsGrid (number_at (codes "fixed") rows) begun.grid =
    subst (λ (b : Begun). IsGrid (number_at (codes "fixed") rows) b.grid) (found_is _ begun stands.1) grid in
    all_stand rows bounded begun names stands.0 own
    (names_found (make_at rows) (then_at rows) (names_given rows) names named)

-- what options say is what may be asked for
pub options_are : (options : Options) → AreOptions (asked options)
options_are options = record { counted = options.counted; weighed = options.weighed; together = options.together }
