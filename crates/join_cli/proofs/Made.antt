-- What is made of a run is what the kind of run that is asked for makes.
use Rattle.std.proofs.Common.{◌≡◌, ◌∙◌, ◌≤◌, ℕ, true, List, [], ◌∷◌, Option, Some, ap, arith, length, map, refl, subst}
use Rattle.std.proofs.Common.{sym}
use Rattle.std.specs.Prelude.{is_some}
use Rattle.load_controller.specs.declared.line.TurnLine.{TurnLine}
use Rattle.trace_law.specs.Validity.{IsValidSetting}
use Rattle.trace_law.specs.declared.input.Input.{Input}
use Rattle.trace_law.specs.declared.run.Run.{Run}
use Rattle.group_split.specs.Groups.{AreGroups}
use Rattle.group_split.specs.Sizes.{numbers_of}
use Rattle.group_split.specs.declared.join.GroupsRun.{GroupsRun}
use Rattle.join_runtime.specs.Endings.{EndsView}
use Rattle.join_words.specs.Words.{AreOptions, Asked, AskedChain, AskedKind, asked, asked_kind, asked_wave}
use Rattle.join_words.specs.Words.{chain_of, early, grid_of, in_chain, in_groups, in_waves, is_over_rings, members_of}
use Rattle.join_words.specs.Words.{over_rings, replay_of}
use Rattle.join_words.specs.declared.kind.Grid.{Grid}
use Rattle.join_words.specs.declared.kind.Kind.{Kind}
use Rattle.join_words.specs.declared.kind.Kind.TheVariants as runs
use Rattle.join_words.specs.declared.kind.Wave.{Wave}
use Rattle.join_words.specs.declared.options.Options.{Options}
use Rattle.join_plan.specs.declared.fitting.Planned.{Planned}
use Rattle.join_cli.specs.declared.work.Work.{Work}
use Rattle.join_cli.specs.Courses.{Course, IsCourseOf, WentInWaves, WentOnward, output_in_waves, output_onward}
use Rattle.join_cli.specs.Courses.{by_groups, by_run, groups_drawn, groups_text}
use Rattle.join_cli.specs.Ends.{IsMade, IsMadeBy}
use Rattle.join_cli.specs.Kinds.{AreSeveralWaves, IsOneWave}
use Rattle.join_cli.specs.Plan.{input_of, output_of, setting_of}
use Rattle.join_cli.specs.Works.{IsWorkOf, WorkView}
use Rattle.join_cli.proofs.Inputs.{view_is}

-- the setting that is asked for is valid
pub valid_asked : (asked : Asked) → AreOptions asked → IsValidSetting (setting_of asked)
valid_asked asked are =
    let small : (grid_of asked.kind).k ≤ 6 = are.together.small in
    record {
      joiners = omega (arith, small);
      some_feeders = are.counted.feeders.0;
      few_feeders = are.counted.feeders.1;
      some_workers = are.counted.workers.0;
      few_workers = are.counted.workers.1;
      some_rows = are.counted.batch.0;
      few_rows = are.counted.batch.1;
      fixed = are.together.fits;
      weights = are.weighed;
    }

-- ---- what was made by a run in waves

module _ (options : Options) (planned : Planned) (work : Work) (journal : List TurnLine) (trail : List EndsView)
    (text : List ℕ) (of : IsWorkOf (asked options) work) where
  -- of one wave
  pub made_once : IsOneWave options.kind → IsCourseOf work.number (asked options) planned journal trail
      → text ≡ output_of (asked options) planned journal
      → IsMade (asked options) planned text (Some (by_run journal trail))
  made_once once course is = by options.kind once of.number
    where
      by : (kind : Kind) → IsOneWave kind → work.number ≡ replay_of (asked_kind kind)
          → IsMadeBy (asked_kind kind) (asked options) planned text (Some (by_run journal trail))
      by (runs.Waves grid replay later grow) none number = (
        subst (λ n. WentInWaves n (map asked_wave later.items) grow (asked options) planned journal trail) number
            (subst (λ waves. WentInWaves work.number (map asked_wave waves) grow (asked options) planned journal trail)
            (sym none) course),
        subst (λ waves. text ≡ output_in_waves (map asked_wave waves) grow (asked options) planned journal) (sym none)
            is,
      )
      by (runs.Early grid) none number = absurd none
      by (runs.Groups joiners) none number = absurd none
      by (runs.Rings grid) none number = absurd none
      by (runs.Chain grid chain) none number = absurd none

  -- of several, with a growth behind so many of them or without one
  pub made_onward : (growth : Option ℕ) → AreSeveralWaves growth options.kind
      → WentOnward work.number growth (asked options) planned journal trail
      → text ≡ output_onward growth (asked options) planned journal
      → IsMade (asked options) planned text (Some (by_run journal trail))
  made_onward growth several went is = by options.kind several of.number
    where
      behind : (waves : List Wave) (replay grow : Option ℕ) → (waves ≡ [] → ⊥)
          → WentOnward replay grow (asked options) planned journal trail
          → text ≡ output_onward grow (asked options) planned journal
          → WentInWaves replay (map asked_wave waves) grow (asked options) planned journal trail
          × (text ≡ output_in_waves (map asked_wave waves) grow (asked options) planned journal)
      behind [] replay grow some went is = absurd (some refl)
      behind (wave ∷ waves) replay grow some went is = (went, is)

      by : (kind : Kind) → AreSeveralWaves growth kind → work.number ≡ replay_of (asked_kind kind)
          → IsMadeBy (asked_kind kind) (asked options) planned text (Some (by_run journal trail))
      by (runs.Waves grid replay later grow) (some, same) number =
          behind later.items replay grow some
          (subst (λ n. WentOnward n grow (asked options) planned journal trail) number
          (subst (λ g. WentOnward work.number g (asked options) planned journal trail) (sym same) went))
          (subst (λ g. text ≡ output_onward g (asked options) planned journal) (sym same) is)
      by (runs.Early grid) several number = absurd several
      by (runs.Groups joiners) several number = absurd several
      by (runs.Rings grid) several number = absurd several
      by (runs.Chain grid chain) several number = absurd several

-- ---- and by other kinds

module _ (asked : Asked) (planned : Planned) (text : List ℕ) (way : Option Course) where
  -- over rings
  pub made_over_rings : is_over_rings asked.kind ≡ true
      → ((grid : Grid) → IsMadeBy (over_rings grid) asked planned text way) → IsMade asked planned text way
  made_over_rings is made = by asked.kind is
    where
      by : (kind : AskedKind) → is_over_rings kind ≡ true → IsMadeBy kind asked planned text way
      by (over_rings grid) is = made grid
      by (in_waves grid replay later grow) is = absurd (cc is)
      by (early grid) is = absurd (cc is)
      by (in_groups joiners) is = absurd (cc is)
      by (in_chain grid chain) is = absurd (cc is)

  -- by so many joiners in groups
  pub made_in_groups : (joiners : ℕ) → members_of asked.kind ≡ Some joiners
      → IsMadeBy (in_groups joiners) asked planned text way → IsMade asked planned text way
  made_in_groups joiners is made = by asked.kind is
    where
      by : (kind : AskedKind) → members_of kind ≡ Some joiners → IsMadeBy kind asked planned text way
      by (in_groups members) is =
          let same : joiners ≡ members = cc is in
          subst (λ n. IsMadeBy (in_groups n) asked planned text way) same made
      by (in_waves grid replay later grow) is = absurd (cc is)
      by (early grid) is = absurd (cc is)
      by (over_rings grid) is = absurd (cc is)
      by (in_chain grid chain) is = absurd (cc is)

  -- in a chain
  pub made_in_chain : is_some (chain_of asked.kind) ≡ true
      → ((grid : Grid) (chain : AskedChain) → IsMadeBy (in_chain grid chain) asked planned text way)
      → IsMade asked planned text way
  made_in_chain is made = by asked.kind is
    where
      by : (kind : AskedKind) → is_some (chain_of kind) ≡ true → IsMadeBy kind asked planned text way
      by (in_chain grid chain) is = made grid chain
      by (in_waves grid replay later grow) is = absurd (cc is)
      by (early grid) is = absurd (cc is)
      by (in_groups joiners) is = absurd (cc is)
      by (over_rings grid) is = absurd (cc is)

-- of joiners in groups, each of which had its run
module _ (asked : Asked) (planned : Planned) (work : Work) (joiners : ℕ) (numbers : List ℕ) (found : GroupsRun)
    (text : List ℕ) where
  abbrev journals : List (List TurnLine)
  journals = map (λ (run : Run). run.journal) found.runs

  pub groups_made : members_of asked.kind ≡ Some joiners → work.input.now ≡ input_of asked.seed planned
      → IsWorkOf asked work → numbers ≡ numbers_of asked.seed joiners (length work.input.now.table_r.rows)
      → AreGroups work.input.now joiners numbers work.setting.now found.runs found.trail
      → text ≡ groups_text asked work.input.now work.setting.now joiners numbers journals
      → IsMade asked planned text (Some (by_groups journals found.trail))
  groups_made kind input_is of numbers_are are is =
      let same = view_is asked planned work input_is of in
      let all = groups_drawn asked planned joiners in
      let drawn : numbers ≡ all =
      numbers_are ∙ ap (λ (i : Input). numbers_of asked.seed joiners (length i.table_r.rows)) input_is in
      made_in_groups asked planned text (Some (by_groups journals found.trail)) joiners kind (
        record {
          runs = found.runs;
          are =
              subst (λ (w : WorkView). AreGroups w.input joiners all w.setting found.runs found.trail) same
              (subst (λ ns. AreGroups work.input.now joiners ns work.setting.now found.runs found.trail) drawn are);
          journals_are = refl;
        },
        is ∙ ap (λ ns. groups_text asked work.input.now work.setting.now joiners ns journals) drawn
            ∙ ap (λ (w : WorkView). groups_text asked w.input w.setting joiners all journals) same,
      )
