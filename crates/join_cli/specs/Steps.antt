-- What the steps of a plan that is carried out answer.
use Rattle.std.specs.Prelude.{◌≡◌, ◌≢◌, ◌⊎◌, ◌<◌, ◌≤◌, ◌+◌, ◌^◌, ℕ, Bool, List, false, length, Option, None, Some}
use Rattle.std.specs.Prelude.{Result, Ok, Err, IfOk, IfSome, OnOk, is_some}
use Rattle.std.specs.Io.KnownBytes.{append_known}
use Rattle.row_cells.specs.declared.table.Side.TheVariants.{R, S}
use Rattle.join_rows.specs.Sinks.{AppendsFront, PutsSome}
use Rattle.join_rows.specs.declared.sink.Sink.{Ghosts as SinkGhosts}
use Rattle.trace_law.specs.Join.{row_count}
use Rattle.trace_law.specs.declared.input.Input.{Input}
use Rattle.trace_law.specs.declared.run.Run.{Run}
use Rattle.trace_law.specs.declared.setting.Setting.{Setting}
use Rattle.join_report.specs.Report.{AreWithin}
use Rattle.join_runtime.specs.Early.{WroteSome}
use Rattle.join_runtime.specs.declared.early_lines.EarlyFault.{EarlyFault}
use Rattle.join_runtime.specs.declared.early_lines.EarlyFault.TheVariants as faults
use Rattle.join_words.specs.Words.{Asked, chain_of, is_early}
use Rattle.join_plan.specs.declared.fault.LimitFault.TheVariants.{Between}
use Rattle.join_plan.specs.declared.fitting.Planned.{Planned}
use Rattle.join_plan.specs.declared.fitting.Third.{Third}
use Rattle.join_plan.specs.declared.waves.WaveEnd.{WaveEnd}
use Rattle.join_cli.specs.declared.outcome.Outcome.{Outcome}
use Rattle.join_cli.specs.declared.outcome.Outcome.TheVariants.{Limit, Memory, Write}
use Rattle.join_cli.specs.declared.output.Joined.{Joined}
use Rattle.join_cli.specs.declared.run.Course.{Course}
use Rattle.join_cli.specs.declared.work.Work.{Work}
use Rattle.join_cli.specs.Chain.{IsFewBetween, IsThirdOver}
use Rattle.join_cli.specs.Courses.{WentAs}
use Rattle.join_cli.specs.Early.{PutFound, PutPart, TakesFound}
use Rattle.join_cli.specs.Ends.{Concludes, IsDone, IsHalted, IsMade, TakesEach, course_of}
use Rattle.join_cli.specs.Plan.{input_of}
use Rattle.join_cli.specs.Works.{IsWholeRun}

-- ---- a run

-- a run of the work, as a replay where there is a number of one
pub record IsCarriedOut (number : Option ℕ) (work : Work) (course : Course) : Type 0 where
  pub run : IsWholeRun work course.run
  pub went : WentAs number work.input.now work.setting.now course.run.journal course.trail

-- what the report of a run over so many rows a side asks: they are few, no shift is past the grid, and there are few
-- steps
pub record FitsReport (setting : Setting) (x y : ℕ) (run : Run) : Type 0 where
  pub few_r : x ≤ 2 ^ 18
  pub few_s : y ≤ 2 ^ 18
  pub shifts : AreWithin setting.k run.journal
  pub steps : length run.moved < 2 ^ 32

-- over the work's rows
abbrev pub IsReportable : Work → Run → Type 0
IsReportable work run = FitsReport work.setting.now (row_count work.input.now R) (row_count work.input.now S) run

-- ---- its output, made whole

-- there is a third table where a second join is asked for, over this input
pub record IsThirdAsked (asked : Asked) (input : Input) (third : Option Third) : Type 0 where
  pub there : is_some third ≡ is_some (chain_of asked.kind)
  pub over : IfSome third (IsThirdOver input)

-- the output that is asked for was made over this input, of whatever plan that is
abbrev pub IsMadeOver : Asked → Input → Joined → Type 0
IsMadeOver asked input joined =
    (planned : Planned) → input ≡ input_of asked.seed planned
    → IsMade asked planned joined.text (course_of joined.done)

-- over this input of waves that end there
abbrev pub IsMadeUpto : Asked → Input → List WaveEnd → Joined → Type 0
IsMadeUpto asked input ends joined =
    (planned : Planned) → input ≡ input_of asked.seed planned → planned.ends ≡ ends
    → IsMade asked planned joined.text (course_of joined.done)

-- the output that is asked for of a plan was made, or why there is none
abbrev pub IsMadeOrHalted : Asked → Planned → Result Joined Outcome → Type 0
IsMadeOrHalted asked planned (Ok joined) = IsMade asked planned joined.text (course_of joined.done)
IsMadeOrHalted asked planned (Err outcome) = IsHalted asked planned outcome

-- over this input with a third table
abbrev pub IsChained : Asked → Input → Third → Result Joined Outcome → Type 0
IsChained asked input third result =
    (planned : Planned) → input ≡ input_of asked.seed planned → planned.third ≡ Some third
    → IsMadeOrHalted asked planned result

-- over this input of waves that end there, with a third table or without one
abbrev pub IsAnswered : Asked → Input → List WaveEnd → Option Third → Result Joined Outcome → Type 0
IsAnswered asked input ends third result =
    (planned : Planned) → input ≡ input_of asked.seed planned → planned.ends ≡ ends → planned.third ≡ third
    → IsMadeOrHalted asked planned result

-- ---- what is written

-- a text is put whole, or a front of it where a put fails, or nothing for want of memory
pub record PutsText {K A : Type 0} (k : SinkGhosts K) (text : List ℕ) (before after : K)
    (result : Result A EarlyFault) : Type 0 where
  pub whole : OnOk result (k.written after ≡ append_known (k.written before) text)
  pub front : result ≡ Err faults.Write → AppendsFront (k.written before) (k.written after) text
  pub nothing : result ≡ Err faults.Memory → after ≡ before
  pub counts : result ≢ Err faults.Write → k.faults after ≡ k.faults before
  pub fails : result ≡ Err faults.Write → k.faults before < k.faults after
  pub takes : k.takes before (length text + 0) → result ≢ Err faults.Write
  pub left : PutsSome (k.written before) (k.written after) (k.takes before) (k.takes after)

-- a run in threads whose pairs' lines are put as they are found, and then the report where one is asked for; or a part
-- of that where a put fails, or some lines where memory runs out
pub record PutsCourse {K : Type 0} (k : SinkGhosts K) (report : Bool) (work : Work) (before after : K)
    (result : Result Course EarlyFault) : Type 0 where
  pub course : IfOk result (IsCarriedOut None work)
  pub whole : IfOk result (λ course. PutFound report work.input.now work.setting.now course.run.journal
      (k.written before) (k.written after))
  pub part : result ≡ Err faults.Write
      → PutPart report work.input.now work.setting.now (k.written before) (k.written after)
  pub lines : result ≡ Err faults.Memory → WroteSome work.input.now (k.written before) (k.written after)
  pub counts : result ≢ Err faults.Write → k.faults after ≡ k.faults before
  pub fails : result ≡ Err faults.Write → k.faults before < k.faults after
  pub takes : TakesFound (k.takes before) report work.input.now work.setting.now → result ≢ Err faults.Write
  pub left : PutsSome (k.written before) (k.written after) (k.takes before) (k.takes after)

-- how a plan that is carried out ends, and what it leaves of its sink
pub record CarriesOut {K : Type 0} (k : SinkGhosts K) (asked : Asked) (planned : Planned) (before after : K)
    (outcome : Outcome) : Type 0 where
  -- its output is written over its course, or it stops
  pub ends : Concludes asked planned (k.written before) (k.written after) outcome
  -- where memory runs out nothing is written, but for early output
  pub nothing : is_early asked.kind ≡ false → outcome ≡ Memory → after ≡ before
  -- a failed call of the sink is told, and only such a one is
  pub counts : outcome ≢ Write → k.faults after ≡ k.faults before
  pub fails : outcome ≡ Write → k.faults before < k.faults after
  -- with too many pairs for a second join nothing is written
  pub between : (pairs : ℕ) → outcome ≡ Limit (Between pairs) → after ≡ before
  -- a sink that takes the output is enough
  pub complete : TakesEach (k.takes before) asked planned → IsFewBetween asked planned
      → IsDone outcome ⊎ (outcome ≡ Memory)
  -- it takes what it took behind what was put
  pub left : PutsSome (k.written before) (k.written after) (k.takes before) (k.takes after)
