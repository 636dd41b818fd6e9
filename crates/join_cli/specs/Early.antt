-- What early output writes, while the run goes on.
use Rattle.std.specs.Prelude.{◌≡◌, ◌⊎◌, ◌++◌, ◌+◌, ℕ, Bool, true, false, List, length, Option, IsPermutation}
use Rattle.std.specs.Io.KnownBytes.{append_known}
use Rattle.epoch_tags.specs.declared.tuple.Pair.{Pair}
use Rattle.join_rows.specs.Sinks.{AppendsFront}
use Rattle.trace_law.specs.declared.input.Input.{Input}
use Rattle.trace_law.specs.declared.run.Run.{Run}
use Rattle.trace_law.specs.declared.setting.Setting.{Setting}
use Rattle.trace_law.specs.Join.{nested_loop}
use Rattle.trace_law.specs.Family.{first_rest}
use Rattle.trace_law.specs.Runs.{IsRunOf}
use Rattle.load_controller.specs.declared.line.TurnLine.{TurnLine}
use Rattle.join_report.specs.PairLines.{pair_lines}
use Rattle.join_runtime.specs.Early.{WroteSome}
use Rattle.join_words.specs.Words.{Asked, AskedKind, early, in_chain, in_groups, in_waves, over_rings}
use Rattle.join_plan.specs.declared.fitting.Planned.{Planned}
use Rattle.join_runtime.specs.Endings.{EndsView}
use Rattle.join_cli.specs.Chain.{chain_output}
use Rattle.join_cli.specs.Courses.{Course, WentSo, by_chain, by_groups, by_rings, by_run}
use Rattle.join_cli.specs.Threads.{IsRunInThreads}
use Rattle.actor_core.specs.Tasks.{task_of}
use Rattle.join_cli.specs.Courses.{groups_output_of, output_in_waves}
use Rattle.join_cli.specs.Plan.{input_of, output_of, report_asked, setting_of}

-- the lines of the nested loop's pairs, each once in the order in which they were found, and then the report where one
-- is asked for
pub record IsFoundText (report : Bool) (input : Input) (setting : Setting) (journal : List TurnLine)
    (text : List ℕ) : Type 0 where
  pub found : List Pair
  pub all : IsPermutation (nested_loop input) found
  pub is : text ≡ pair_lines found ++ report_asked report input setting journal

-- it was written
pub record PutFound (report : Bool) (input : Input) (setting : Setting) (journal : List TurnLine)
    (old new : Option (List ℕ)) : Type 0 where
  pub text : List ℕ
  pub is : IsFoundText report input setting journal text
  pub written : new ≡ append_known old text

-- a front of it was, over the journal of a run in threads that left these ends
pub record CutFound (report : Bool) (input : Input) (setting : Setting) (old new : Option (List ℕ)) : Type 0 where
  pub run : Run
  pub trail : List EndsView
  pub is_run : IsRunOf input setting (first_rest setting).line run.journal run
  pub went : IsRunInThreads (task_of input setting) run.journal trail
  pub text : List ℕ
  pub is : IsFoundText report input setting run.journal text
  pub front : AppendsFront old new text

-- a put failed: some lines were written, or a front of the whole
abbrev pub PutPart : Bool → Input → Setting → Option (List ℕ) → Option (List ℕ) → Type 0
PutPart report input setting old new = WroteSome input old new ⊎ CutFound report input setting old new

-- the lines of all pairs are taken, and the report of each run in threads behind them
pub record TakesFound (takes : ℕ → Type 0) (report : Bool) (input : Input) (setting : Setting) : Type 0 where
  pub lines : takes (length (pair_lines (nested_loop input)) + 0)
  pub each : (run : Run) (trail : List EndsView) → IsRunOf input setting (first_rest setting).line run.journal run
      → IsRunInThreads (task_of input setting) run.journal trail
      → takes (length (pair_lines (nested_loop input)) + (length (report_asked report input setting run.journal) + 0))

-- the text of an output over how a run of this kind went: the one that is asked for, and early of what was found
abbrev pub IsOutput : AskedKind → Asked → Planned → Course → List ℕ → Type 0
IsOutput (in_waves grid replay later grow) asked planned (by_run journal trail) text =
    text ≡ output_in_waves later grow asked planned journal
IsOutput (early grid) asked planned (by_run journal trail) text =
    IsFoundText asked.report (input_of asked.seed planned) (setting_of asked) journal text
IsOutput (in_groups joiners) asked planned (by_groups journals trail) text =
    text ≡ groups_output_of joiners asked planned journals
IsOutput (over_rings grid) asked planned (by_rings journal ends back) text = text ≡ output_of asked planned journal
IsOutput (in_chain grid chain) asked planned (by_chain first second trail) text =
    text ≡ chain_output asked planned planned.third first second
IsOutput _ asked planned _ text = ⊥

-- the output over a run that went this way was written
pub record WroteOutput (asked : Asked) (planned : Planned) (way : Course) (old new : Option (List ℕ)) : Type 0 where
  pub text : List ℕ
  pub output : IsOutput asked.kind asked planned way text
  pub written : new ≡ append_known old text

-- a front of the output over a run that went as was asked for was
pub record WroteCut (asked : Asked) (planned : Planned) (old new : Option (List ℕ)) : Type 0 where
  pub way : Course
  pub course : WentSo asked planned way
  pub text : List ℕ
  pub output : IsOutput asked.kind asked planned way text
  pub front : AppendsFront old new text

-- nothing was written, but for early output, which may have written a front of the lines of some of the nested loop's
-- pairs, none twice
abbrev pub WroteLines : Bool → Asked → Planned → Option (List ℕ) → Option (List ℕ) → Type 0
WroteLines false asked planned old new = new ≡ old
WroteLines true asked planned old new = WroteSome (input_of asked.seed planned) old new

-- where a put failed: a front of the output, or such lines
abbrev pub StoppedAt : Bool → Asked → Planned → Option (List ℕ) → Option (List ℕ) → Type 0
StoppedAt false asked planned old new = WroteCut asked planned old new
StoppedAt true asked planned old new = WroteLines true asked planned old new ⊎ WroteCut asked planned old new
