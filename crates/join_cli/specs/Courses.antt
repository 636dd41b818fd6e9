-- How a run went, and the output over it.
use Rattle.std.specs.Prelude.{◌≡◌, ◌++◌, ◌+◌, ◌^◌, ℕ, Bool, false, List, [], ◌∷◌, map, length, Option, None}
use Rattle.std.specs.Prelude.{Some, if◌then◌else◌, codes}
use Rattle.std.specs.Fmt.{decimal}
use Rattle.trace_law.specs.declared.input.Input.{Input}
use Rattle.trace_law.specs.declared.run.Run.{Run}
use Rattle.trace_law.specs.declared.setting.Setting.{Setting}
use Rattle.load_controller.specs.declared.line.TurnLine.{TurnLine}
use Rattle.link_trace.specs.Order.{IsRunReplay}
use Rattle.actor_core.specs.Players.{IsFinishedFamily}
use Rattle.actor_core.specs.Tasks.{task_of}
use Rattle.join_runtime.specs.Endings.{EndsView}
use Rattle.ring_runtime.specs.Endings.{RingEndsView, lists_left as lists_over_rings}
use Rattle.group_split.specs.Groups.{AreGroups}
use Rattle.group_split.specs.Parts.{input_of_part, part, setting_of_group}
use Rattle.group_split.specs.Sizes.{digits, numbers_of}
use Rattle.join_words.specs.Words.{Asked, AskedKind, AskedWave, early, in_chain, in_groups, in_waves, over_rings}
use Rattle.join_plan.specs.declared.fitting.Planned.{Planned}
use Rattle.join_cli.specs.Chain.{IsChainOf}
use Rattle.join_cli.specs.Plan.{IsJournalOf, answer_of, input_of, output_of, report_over, setting_of}
use Rattle.join_cli.specs.Grown.{AreGrownWavesOf, grown_output_of}
use Rattle.join_cli.specs.Threads.{IsRunInThreads}
use Rattle.join_cli.specs.Waves.{AreWavesOf}
use Rattle.join_cli.specs.WaveTexts.{waves_output_of}

-- a replay with this number, whose controller has this journal, leaves nothing
pub record IsReplayed (input : Input) (setting : Setting) (seed : ℕ) (journal : List TurnLine)
    (trail : List EndsView) : Type 0 where
  pub run : Run
  pub order : IsRunReplay input setting seed run
  pub journal_is : run.journal ≡ journal
  pub nothing : trail ≡ []

-- the one or the other, as a number of a replay was given or not
abbrev pub WentAs : Option ℕ → Input → Setting → List TurnLine → List EndsView → Type 0
WentAs (Some seed) input setting journal trail = IsReplayed input setting seed journal trail
WentAs None input setting journal trail = IsRunInThreads (task_of input setting) journal trail

-- what is answered of a run of two tables in one wave, as a replay where it has a number: the journal of a lawful
-- controller, and what shows how the run went
pub record IsCourseOf (number : Option ℕ) (asked : Asked) (planned : Planned) (journal : List TurnLine)
    (trail : List EndsView) : Type 0 where
  pub lawful : IsJournalOf asked planned journal
  pub went : WentAs number (input_of asked.seed planned) (setting_of asked) journal trail

-- the group numbers of R's rows, for so many joiners
abbrev pub groups_drawn : Asked → Planned → ℕ → List ℕ
groups_drawn asked planned joiners = numbers_of asked.seed joiners (length planned.tables.of_r.rows)

-- what is answered of so many joiners in groups: each group had a run of its part of R with all of S, and this is its
-- journal
pub record AreGroupsOf (joiners : ℕ) (asked : Asked) (planned : Planned) (journals : List (List TurnLine))
    (trail : List EndsView) : Type 0 where
  pub runs : List Run
  pub are : AreGroups (input_of asked.seed planned) joiners (groups_drawn asked planned joiners) (setting_of asked)
      runs trail
  pub journals_are : journals ≡ map (λ run. run.journal) runs

-- what is answered of a run over rings: the journal of a lawful controller; it didn't fall back; and the lists of what
-- its seats left are a finished, agreeing family, whose controller has this journal
pub record IsOverRings (asked : Asked) (planned : Planned) (journal : List TurnLine) (ends : RingEndsView)
    (fallen : Bool) : Type 0 where
  pub lawful : IsJournalOf asked planned journal
  pub kept : fallen ≡ false
  pub family : IsFinishedFamily (task_of (input_of asked.seed planned) (setting_of asked)) journal
      (lists_over_rings ends)

-- how a run went
pub data Course : Type 0 where
  by_run : List TurnLine → List EndsView → Course
  by_groups : List (List TurnLine) → List EndsView → Course
  by_chain : List TurnLine → List TurnLine → List EndsView → Course
  by_rings : List TurnLine → RingEndsView → Bool → Course

-- a run of several waves, as a replay where it has a number, went with a growth behind so many of them, or without one
abbrev pub WentOnward : Option ℕ → Option ℕ → Asked → Planned → List TurnLine → List EndsView → Type 0
WentOnward number None asked planned journal trail = AreWavesOf number asked planned journal trail
WentOnward number (Some wave) asked planned journal trail = AreGrownWavesOf number wave asked planned journal trail

-- a run in waves went so: in one, or in several where there are later ones
abbrev pub WentInWaves : Option ℕ → List AskedWave → Option ℕ → Asked → Planned → List TurnLine → List EndsView
    → Type 0
WentInWaves number [] grow asked planned journal trail = IsCourseOf number asked planned journal trail
WentInWaves number (wave ∷ later) grow asked planned journal trail = WentOnward number grow asked planned journal trail

-- a run went as this kind of run goes
abbrev pub WentBy : AskedKind → Asked → Planned → Course → Type 0
WentBy (in_waves grid replay later grow) asked planned (by_run journal trail) =
    WentInWaves replay later grow asked planned journal trail
WentBy (early grid) asked planned (by_run journal trail) = IsCourseOf None asked planned journal trail
WentBy (in_groups joiners) asked planned (by_groups journals trail) = AreGroupsOf joiners asked planned journals trail
WentBy (over_rings grid) asked planned (by_rings journal ends back) = IsOverRings asked planned journal ends back
WentBy (in_chain grid chain) asked planned (by_chain first second trail) = IsChainOf asked planned first second trail
WentBy _ asked planned _ = ⊥

-- it went so as was asked for
abbrev pub WentSo : Asked → Planned → Course → Type 0
WentSo asked planned way = WentBy asked.kind asked planned way

-- ---- the output

-- the line that begins the report of a group
abbrev pub group_line : ℕ → ℕ → List ℕ
group_line g size = codes "group " ++ decimal g ++ codes " " ++ decimal size ++ codes "\n"

-- the report of a group of 2 ^ k joiners
abbrev pub group_report : Input → ℕ → List ℕ → Setting → ℕ → ℕ → List TurnLine → List ℕ
group_report input joiners numbers setting g k journal =
    group_line g (2 ^ k) ++ report_over (input_of_part input (part joiners numbers g)) (setting_of_group setting k)
    journal

-- those of the groups from g on, whose exponents these are
abbrev pub group_reports : Input → ℕ → List ℕ → Setting → ℕ → List ℕ → List (List TurnLine) → List ℕ
group_reports input joiners numbers setting g [] journals = []
group_reports input joiners numbers setting g (k ∷ digits) [] = []
group_reports input joiners numbers setting g (k ∷ digits) (journal ∷ journals) =
    group_report input joiners numbers setting g k journal ++ group_reports input joiners numbers setting (g + 1)
    digits journals

-- the answer, and then the reports of all groups where they are asked for
abbrev pub groups_text : Asked → Input → Setting → ℕ → List ℕ → List (List TurnLine) → List ℕ
groups_text asked input setting joiners numbers journals =
    answer_of asked.make asked.rows input
    ++ (if asked.report then group_reports input joiners numbers setting 0 (digits joiners) journals else [])

-- the output over the journals of so many joiners in groups
abbrev pub groups_output_of : ℕ → Asked → Planned → List (List TurnLine) → List ℕ
groups_output_of joiners asked planned journals =
    groups_text asked (input_of asked.seed planned) (setting_of asked) joiners (groups_drawn asked planned joiners)
    journals

-- the output over the journal of a run in several waves, with a growth behind so many of them, or without one
abbrev pub output_onward : Option ℕ → Asked → Planned → List TurnLine → List ℕ
output_onward None asked planned journal = waves_output_of asked planned journal
output_onward (Some wave) asked planned journal = grown_output_of wave asked planned journal

-- the output over the journal of a run in one wave, or in several where there are later ones
abbrev pub output_in_waves : List AskedWave → Option ℕ → Asked → Planned → List TurnLine → List ℕ
output_in_waves [] grow asked planned journal = output_of asked planned journal
output_in_waves (wave ∷ later) grow asked planned journal = output_onward grow asked planned journal
