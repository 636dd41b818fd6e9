-- A second join, of the joined rows with a third table.
use Rattle.std.specs.Prelude.{◌≡◌, ◌≤◌, ◌<◌, ◌+◌, ◌++◌, ◌^◌, ℕ, ⊤, Bool, true, List, [], ◌∷◌, flat_map, length, Option}
use Rattle.std.specs.Prelude.{None, Some, IfSome, is_some, codes}
use Rattle.std.specs.Fmt.{decimal}
use Rattle.join_rows.specs.Records.{IsTable}
use Rattle.trace_law.specs.declared.input.Input.{Input}
use Rattle.trace_law.specs.declared.setting.Setting.{Setting}
use Rattle.trace_law.specs.Join.{nested_loop}
use Rattle.load_controller.specs.declared.line.TurnLine.{TurnLine}
use Rattle.actor_core.specs.Players.{IsFinishedFamily}
use Rattle.actor_core.specs.Tasks.{task_of}
use Rattle.join_runtime.specs.Endings.{EndsView, lists_left}
use Rattle.chain_join.specs.declared.chain.ChainRun.{ChainRun}
use Rattle.chain_join.specs.declared.second.Third.{Third as ChainThird}
use Rattle.chain_join.specs.declared.triples.Triple.{Triple}
use Rattle.chain_join.specs.Chains.{nested3, second_input}
use Rattle.join_words.specs.Words.{Asked}
use Rattle.join_plan.specs.declared.fault.LimitFault.TheVariants.{Between}
use Rattle.join_plan.specs.declared.fitting.Planned.{Planned}
use Rattle.join_plan.specs.declared.fitting.Third.{Third}
use Rattle.join_cli.specs.declared.outcome.Outcome.{Outcome}
use Rattle.join_cli.specs.declared.outcome.Outcome.TheVariants.{Limit, Memory}
use Rattle.join_cli.specs.Plan.{IsJournalOver, bare_report_of, input_of, report_asked, setting_of}

-- the third table and its predicate, as what runs a chain takes them
abbrev pub third_of : Third → ChainThird
third_of third = record { table = third.table; theta = third.theta }

-- a third table with a predicate over the joined header of this input and its own
pub record IsThirdOver (input : Input) (third : Third) : Type 0 where
  pub table : IsTable third.table
  pub width_r : third.theta.width_r ≡ length input.table_r.names + length input.table_s.names
  pub width_s : third.theta.width_s ≡ length third.table.names

-- the two runs of a chain in threads, whose controllers have these journals: the first has few enough pairs, the second
-- is over
-- the joined rows, and the seats of both left ends whose lists are finished, agreeing families
pub record IsChainOver (input : Input) (third : ChainThird) (seed : ℕ) (setting : Setting)
    (first second : List TurnLine)
    (trail : List EndsView) : Type 0 where
  pub few : length (nested_loop input) ≤ 2 ^ 18
  pub lawful_first : IsJournalOver input setting first
  pub lawful_second : IsJournalOver (second_input input third seed) setting second
  pub ends_first : EndsView
  pub family_first : IsFinishedFamily (task_of input setting) first (lists_left ends_first)
  pub ends_second : EndsView
  pub family_second : IsFinishedFamily (task_of (second_input input third seed) setting) second
      (lists_left ends_second)
  pub only : trail ≡ ends_first ∷ ends_second ∷ []

-- what is answered of a second join that was asked for
pub record IsChainOf (asked : Asked) (planned : Planned) (first second : List TurnLine)
    (trail : List EndsView) : Type 0 where
  pub third : Third
  pub chained : planned.third ≡ Some third
  pub over : IsChainOver (input_of asked.seed planned) (third_of third) asked.seed (setting_of asked) first second trail

-- a second join is asked for, and the first two tables have so many matching pairs, more than it takes
pub record IsBetween (asked : Asked) (planned : Planned) (pairs : ℕ) : Type 0 where
  pub chained : is_some planned.third ≡ true
  pub are : pairs ≡ length (nested_loop (input_of asked.seed planned))
  pub many : 2 ^ 18 < pairs

-- a second join, where one is asked for, takes the pairs of the first
abbrev pub IsFewBetween : Asked → Planned → Type 0
IsFewBetween asked planned = IfSome planned.third (λ third. length (nested_loop (input_of asked.seed planned)) ≤ 2 ^ 18)

-- no text was made over this input: memory ran out, or it has so many matching pairs, more than a second join takes
abbrev pub IsStopped : Input → Outcome → Type 0
IsStopped input Memory = ⊤
IsStopped input (Limit (Between pairs)) = (pairs ≡ length (nested_loop input)) × (2 ^ 18 < pairs)
IsStopped input outcome = ⊥

-- ---- the output

-- the numbers of three rows, counted from 1, with commas between them, and a line feed
abbrev pub triple_line : Triple → List ℕ
triple_line triple =
    decimal (triple.i + 1) ++ codes "," ++ decimal (triple.j + 1) ++ codes "," ++ decimal (triple.l + 1) ++ codes "\n"

-- the lines of triples, in their order
abbrev pub triple_lines : List Triple → List ℕ
triple_lines triples = flat_map triple_line triples

-- the lines of all triples, and then the reports of both runs where they are asked for
abbrev pub chain_text : Bool → Input → ChainThird → ℕ → Setting → List TurnLine → List TurnLine → List ℕ
chain_text report input third seed setting first second =
    triple_lines (nested3 input third) ++ report_asked report input setting first
    ++ report_asked report (second_input input third seed) setting second

-- the same of what two runs answered, the second over so many rows of the third table
abbrev pub bare_text : Bool → Input → Setting → ℕ → ChainRun → List ℕ
bare_text report input setting rows run =
    triple_lines run.triples ++ report_asked report input setting run.first.run.journal
    ++ bare_report_of report setting (length run.first.run.pairs) rows run.second.run

-- the output of a second join with this third table; there is none where there is no such table
abbrev pub chain_output : Asked → Planned → Option Third → List TurnLine → List TurnLine → List ℕ
chain_output asked planned None first second = []
chain_output asked planned (Some third) first second =
    chain_text asked.report (input_of asked.seed planned) (third_of third) asked.seed (setting_of asked) first second
