-- How a run ends, and what it leaves.
use Rattle.std.specs.Prelude.{◌≡◌, ◌⊎◌, ℕ, ⊤, true, List, length, Option, None, Some, Result, Ok, Err}
use Rattle.join_rows.specs.Shelves.{Told}
use Rattle.theta_tree.specs.declared.fault.PredFault.{PredFault}
use Rattle.trace_law.specs.Join.{nested_loop}
use Rattle.join_report.specs.PairLines.{pair_lines}
use Rattle.join_words.specs.Words.{Asked, AskedKind, is_early}
use Rattle.join_plan.specs.declared.fault.LimitFault.TheVariants.{Between}
use Rattle.join_plan.specs.declared.fault.Refusal.{Refusal}
use Rattle.join_plan.specs.declared.fitting.Planned.{Planned}
use Rattle.join_plan.specs.declared.refusal_of_fault.Which.{Which}
use Rattle.join_plan.specs.Plan.{IsAsked, IsPlanOf}
use Rattle.join_plan.specs.Refusals.{text_refusal}
use Rattle.join_cli.specs.declared.outcome.Outcome.{Outcome}
use Rattle.join_cli.specs.declared.outcome.Outcome.TheVariants.{Done, DoneGroups, DoneChain, DoneRings, Input}
use Rattle.join_cli.specs.declared.outcome.Outcome.TheVariants.{Limit, Memory, Predicate, Read, Then, Words, Write}
use Rattle.join_cli.specs.Chain.{IsBetween, IsFewBetween}
use Rattle.join_cli.specs.Courses.{Course, WentBy, WentSo, by_chain, by_groups, by_rings, by_run}
use Rattle.join_cli.specs.Early.{IsOutput, StoppedAt, WroteLines, WroteOutput}
use Rattle.join_cli.specs.Outcomes.{outcome_of}
use Rattle.join_cli.specs.Plan.{input_of}

-- how the run of an outcome went, where its output was written whole
abbrev pub course_of : Outcome → Option Course
course_of (Done journal trail) = Some (by_run journal trail)
course_of (DoneGroups journals trail) = Some (by_groups journals trail)
course_of (DoneChain first second trail) = Some (by_chain first second trail)
course_of (DoneRings journal ends back) = Some (by_rings journal ends back)
course_of (Words fault) = None
course_of (Predicate fault) = None
course_of (Then fault) = None
course_of (Input fault) = None
course_of (Limit fault) = None
course_of Read = None
course_of Write = None
course_of Memory = None

-- there is one
abbrev pub IsSomeCourse : Option Course → Type 0
IsSomeCourse None = ⊥
IsSomeCourse (Some course) = ⊤

-- the output was written whole
abbrev pub IsDone : Outcome → Type 0
IsDone outcome = IsSomeCourse (course_of outcome)

-- there is a course, and it is such a one
abbrev pub WentSomehow : Asked → Planned → Option Course → Type 0
WentSomehow asked planned None = ⊥
WentSomehow asked planned (Some course) = WentSo asked planned course

-- a plan was carried out, and what is answered is of a run of it, or its first join has too many pairs for a second
abbrev pub IsEndOf : Asked → Planned → Outcome → Type 0
IsEndOf asked planned (Limit (Between pairs)) = IsBetween asked planned pairs
IsEndOf asked planned outcome = WentSomehow asked planned (course_of outcome)

-- the same, or what was asked for was refused
abbrev pub IsOutcomeOf : Asked → Result Planned Refusal → Outcome → Type 0
IsOutcomeOf asked (Ok planned) outcome = IsEndOf asked planned outcome
IsOutcomeOf asked (Err refusal) outcome = outcome ≡ outcome_of refusal

-- it is an outcome of the plan over these files
pub record IsOutcomeOver (asked : Asked) (files : List ℕ → Option (List ℕ)) (outcome : Outcome) : Type 0 where
  pub plan : Result Planned Refusal
  pub of : IsPlanOf asked files plan
  pub end : IsOutcomeOf asked plan outcome

-- where the shelf tells its files, the outcome is one of the plan over them, or memory ran out
abbrev pub EndsAs : Told → Asked → Outcome → Type 0
EndsAs None asked outcome = ⊤
EndsAs (Some files) asked outcome = (outcome ≡ Memory) ⊎ IsOutcomeOver asked files outcome

-- the output of what was asked for was written, over a run that went this way
pub record Wrote (told : Told) (asked : Asked) (way : Course) (old new : Option (List ℕ)) : Type 0 where
  pub planned : Planned
  pub found : IsAsked told asked planned
  pub course : WentSo asked planned way
  pub written : WroteOutput asked planned way old new

-- a front of the output over such a run was written; of early output perhaps no more than some lines
pub record WroteFront (told : Told) (asked : Asked) (old new : Option (List ℕ)) : Type 0 where
  pub planned : Planned
  pub found : IsAsked told asked planned
  pub front : StoppedAt (is_early asked.kind) asked planned old new

-- nothing was written, or early output had begun
pub record WroteSoFar (told : Told) (asked : Asked) (old new : Option (List ℕ)) : Type 0 where
  pub planned : Planned
  pub found : IsAsked told asked planned
  pub lines : WroteLines (is_early asked.kind) asked planned old new

-- what is left of a plan whose output wasn't written whole: a put failed, or memory ran out, or there are too many
-- pairs for a second join
abbrev pub Stops : Asked → Planned → Option (List ℕ) → Option (List ℕ) → Outcome → Type 0
Stops asked planned old new Write = StoppedAt (is_early asked.kind) asked planned old new
Stops asked planned old new Memory = WroteLines (is_early asked.kind) asked planned old new
Stops asked planned old new (Limit (Between pairs)) = IsBetween asked planned pairs × (new ≡ old)
Stops asked planned old new outcome = ⊥

-- a plan ends by its course, or as it is left where there is none
abbrev pub ConcludesBy : Asked → Planned → Option (List ℕ) → Option (List ℕ) → Outcome → Option Course → Type 0
ConcludesBy asked planned old new outcome (Some course) =
    WentSo asked planned course × WroteOutput asked planned course old new
ConcludesBy asked planned old new outcome None = Stops asked planned old new outcome

-- how a plan that is carried out ends, and what it leaves
abbrev pub Concludes : Asked → Planned → Option (List ℕ) → Option (List ℕ) → Outcome → Type 0
Concludes asked planned old new outcome = ConcludesBy asked planned old new outcome (course_of outcome)

-- a text was made of a plan, over how its run of this kind went
abbrev pub IsMadeBy : AskedKind → Asked → Planned → List ℕ → Option Course → Type 0
IsMadeBy kind asked planned text None = ⊥
IsMadeBy kind asked planned text (Some way) = WentBy kind asked planned way × IsOutput kind asked planned way text

-- over how the run went that is asked for
abbrev pub IsMade : Asked → Planned → List ℕ → Option Course → Type 0
IsMade asked planned text way = IsMadeBy asked.kind asked planned text way

-- no text was made: memory ran out, or there are too many pairs for a second join
abbrev pub IsHalted : Asked → Planned → Outcome → Type 0
IsHalted asked planned Memory = ⊤
IsHalted asked planned (Limit (Between pairs)) = IsBetween asked planned pairs
IsHalted asked planned outcome = ⊥

-- the output over each run that goes as is asked for is taken, and early the lines of all pairs alone
pub record TakesEach (takes : ℕ → Type 0) (asked : Asked) (planned : Planned) : Type 0 where
  pub each : (way : Course) (text : List ℕ) → WentSo asked planned way → IsOutput asked.kind asked planned way text
      → takes (length text)
  pub early : is_early asked.kind ≡ true → takes (length (pair_lines (nested_loop (input_of asked.seed planned))))

-- files and sink do for what is asked: nothing of it is refused over the told files, a second join takes the pairs of
-- the first, and the sink takes the output
pub record Suffices (told : Told) (asked : Asked) (takes : ℕ → Type 0) : Type 0 where
  pub files : List ℕ → Option (List ℕ)
  pub tells : told ≡ Some files
  pub planned : Planned
  pub plan : IsPlanOf asked files (Ok planned)
  pub few : IsFewBetween asked planned
  pub taken : TakesEach takes asked planned

-- the text's own fault is answered, or memory ran out
abbrev pub EndsEarly : Which → PredFault → Outcome → Type 0
EndsEarly which fault outcome = (outcome ≡ Memory) ⊎ (outcome ≡ outcome_of (text_refusal which fault))
