-- The output of a second join is what the definitions say.
use Rattle.std.proofs.Common.{◌≡◌, ◌∙◌, ◌≤◌, ◌++◌, ◌^◌, ℕ, Bool, true, false, List, [], ◌∷◌, length, arith, Option}
use Rattle.std.proofs.Common.{None, Some, refl, sym, ap, subst}
use Rattle.std.specs.Prelude.{IfSome, is_some}
use Rattle.std.proofs.lemmas.List.{length-map}
use Rattle.row_cells.specs.declared.table.Side.TheVariants.{R}
use Rattle.trace_law.specs.declared.input.Input.{Input}
use Rattle.trace_law.specs.declared.setting.Setting.{Setting}
use Rattle.trace_law.specs.Join.{nested_loop, row_count}
use Rattle.trace_law.specs.Validity.{IsValidInput}
use Rattle.trace_law.proofs.First.{all_pairs}
use Rattle.join_runtime.specs.Endings.{EndsView}
use Rattle.load_controller.specs.declared.line.TurnLine.{TurnLine}
use Rattle.chain_join.specs.declared.chain.ChainRun.{ChainRun}
use Rattle.chain_join.specs.declared.second.Third.{Third as ChainThird}
use Rattle.chain_join.specs.Chains.{IsToldOf, joined_row, nested3, second_input}
use Rattle.join_words.specs.Words.{Asked, chain_of}
use Rattle.join_plan.specs.declared.fitting.Planned.{Planned}
use Rattle.join_plan.specs.declared.fitting.Third.{Third}
use Rattle.join_plan.specs.Plan.{IsFit, IsThirdFit}
use Rattle.join_cli.specs.declared.outcome.Outcome.{Outcome}
use Rattle.join_cli.specs.declared.outcome.Outcome.TheVariants as outcomes
use Rattle.join_plan.specs.declared.fault.LimitFault.TheVariants.{Between, TooLong, TooMany, Total}
use Rattle.join_cli.specs.Chain.{IsChainOver, IsStopped, IsThirdOver, bare_text, chain_text, third_of, triple_lines}
use Rattle.join_cli.specs.ChainSteps.{FitReports, HasParts, IsChainedOf}
use Rattle.join_cli.specs.Courses.{by_chain}
use Rattle.join_cli.specs.declared.chain.Chained.{Chained}
use Rattle.join_cli.specs.Ends.{IsHalted, IsMade}
use Rattle.join_cli.specs.Works.{IsWorkOf, WorkView}
use Rattle.join_cli.specs.declared.work.Work.{Work}
use Rattle.join_cli.specs.Plan.{bare_report_of, input_of, report_asked}
use Rattle.join_cli.proofs.Inputs.{journal_over, view_is}
use Rattle.join_cli.proofs.Made.{made_in_chain}
use Rattle.join_cli.proofs.Reports.{few_steps, report_is, shifts_fit}

-- a third table that fits the tables fits their input
pub third_over : (seed : ℕ) (planned : Planned) (input : Input) → input ≡ input_of seed planned → IsFit planned
    → IfSome planned.third (IsThirdOver input)
third_over seed planned input is fit = subst (λ i. IfSome planned.third (IsThirdOver i)) (sym is)
    (by planned.third fit.third)
  where
    by : (third : Option Third) → IfSome third (IsThirdFit planned.tables)
        → IfSome third (IsThirdOver (input_of seed planned))
    by None fits = tt
    by (Some third) fits = record { table = fits.table; width_r = fits.width_r; width_s = fits.width_s }

-- ---- the two runs

module _ (work : Work) (third : ChainThird) (seed : ℕ) (run : ChainRun) where
  -- what the first joins, with its setting
  abbrev input : Input
  input = work.input.now

  abbrev setting : Setting
  setting = work.setting.now

  -- what the second joins
  abbrev second : Input
  second = second_input input third seed

  -- so many rows as the first has pairs, and those of the third table
  rows_joined : IsToldOf input setting run.first → length run.first.run.pairs ≡ row_count second R
  rows_joined told =
      ap length (told.run.pairs ∙ all_pairs input setting) ∙ sym (length-map (nested_loop input) (joined_row input))

  -- the reports of both can be made
  pub reports_fit : (rows : ℕ) → rows ≡ length third.table.rows → length third.table.rows ≤ 2 ^ 18
      → IsValidInput second → IsToldOf input setting run.first → IsToldOf second setting run.second
      → length (nested_loop input) ≤ 2 ^ 18 → FitReports work rows run
  reports_fit rows rows_are third_few of_second first told few =
      let same : length run.first.run.pairs ≡ length (nested_loop input) =
      ap length (first.run.pairs ∙ all_pairs input setting) in
      record {
        first = first;
        second = record {
          few_r = omega (arith, same, few);
          few_s = omega (arith, rows_are, third_few);
          shifts = shifts_fit second setting run.second.run.journal run.second.run of_second work.valid_setting
              told.run;
          steps = few_steps second setting run.second.run.journal run.second.run of_second work.valid_setting told.run;
        };
      }

  -- the report of the second is the one over its journal
  second_report : (report : Bool) → IsToldOf input setting run.first → IsToldOf second setting run.second
      → bare_report_of report setting (length run.first.run.pairs) (length third.table.rows) run.second.run
      ≡ report_asked report second setting run.second.run.journal
  second_report false first told = refl
  second_report true first told =
      report_is second setting run.second.run (length run.first.run.pairs) (length third.table.rows) told.run
      (rows_joined first) refl

  -- so the text is that of the definitions
  text_is : (report : Bool) (rows : ℕ) → rows ≡ length third.table.rows
      → IsToldOf input setting run.first → IsToldOf second setting run.second → run.triples ≡ nested3 input third
      → bare_text report input setting rows run
      ≡ chain_text report input third seed setting run.first.run.journal run.second.run.journal
  text_is report rows rows_are first told triples =
      let middle = report_asked report input setting run.first.run.journal in
      ap (λ n. triple_lines run.triples ++ middle ++ bare_report_of report setting (length run.first.run.pairs)
      n run.second.run) rows_are
      ∙ ap (λ lines. triple_lines run.triples ++ middle ++ lines) (second_report report first told)
      ∙ ap (λ ts. triple_lines ts ++ middle ++ report_asked report second setting run.second.run.journal) triples

  -- and the runs are a chain's
  chain_is : (trail : List EndsView) → IsValidInput second → IsToldOf input setting run.first
      → IsToldOf second setting run.second → length (nested_loop input) ≤ 2 ^ 18
      → trail ≡ run.first.ends ∷ run.second.ends ∷ []
      → IsChainOver input third seed setting run.first.run.journal run.second.run.journal trail
  chain_is trail of_second first told few only = record {
    few = few;
    lawful_first = journal_over input setting run.first.run work.valid_input work.valid_setting first.run;
    lawful_second = journal_over second setting run.second.run of_second work.valid_setting told.run;
    ends_first = run.first.ends;
    family_first = first.family;
    ends_second = run.second.ends;
    family_second = told.family;
    only = only;
  }

  -- with the text of their output
  pub chained_is : (report : Bool) (rows : ℕ) (chained : Chained) → rows ≡ length third.table.rows
      → IsValidInput second → IsToldOf input setting run.first → IsToldOf second setting run.second
      → length (nested_loop input) ≤ 2 ^ 18 → run.triples ≡ nested3 input third
      → HasParts (bare_text report input setting rows run) run chained
      → IsChainedOf report seed work third chained
  chained_is report rows chained rows_are of_second first told few triples has = record {
    over =
        rw (has.first_is, has.second_is) (chain_is chained.trail of_second first told few has.trail_is);
    text =
        rw (has.first_is, has.second_is) (has.text_is ∙ text_is report rows rows_are first told triples);
  }

-- ---- what is asked for

module _ (asked : Asked) (planned : Planned) (work : Work) (third : Third) (first second : List TurnLine) where
  -- the output over a chain's runs is the one that is asked for
  pub chain_made : (text : List ℕ) (trail : List EndsView) → is_some (chain_of asked.kind) ≡ true
      → work.input.now ≡ input_of asked.seed planned → IsWorkOf asked work → planned.third ≡ Some third
      → IsChainOver work.input.now (third_of third) asked.seed work.setting.now first second trail
      → text ≡ chain_text asked.report work.input.now (third_of third) asked.seed work.setting.now first second
      → IsMade asked planned text (Some (by_chain first second trail))
  chain_made text trail is input_is of third_is over text_is =
      made_in_chain asked planned text (Some (by_chain first second trail)) is (λ grid chain. (
        record {
          third = third;
          chained = third_is;
          over = subst (λ (w : WorkView). IsChainOver w.input (third_of third) asked.seed w.setting first second trail)
              (view_is asked planned work input_is of) over;
        },
        text_is
            ∙ ap (λ (w : WorkView). chain_text asked.report w.input (third_of third) asked.seed w.setting first second)
            (view_is asked planned work input_is of)
            ∙ rw third_is refl,
      ))

-- and why there is none is so of what is asked for
pub chain_halted : (asked : Asked) (planned : Planned) (joined : Input) (third : Third) (outcome : Outcome)
    → joined ≡ input_of asked.seed planned → planned.third ≡ Some third → IsStopped joined outcome
    → IsHalted asked planned outcome
chain_halted asked planned joined third outcomes.Memory input_is third_is stopped = tt
chain_halted asked planned joined third (outcomes.Limit (Between pairs)) input_is third_is stopped = record {
  chained = ap is_some third_is;
  are = stopped.0 ∙ ap (λ i. length (nested_loop i)) input_is;
  many = stopped.1;
}
chain_halted asked planned joined third (outcomes.Limit (TooLong side wave)) input_is third_is stopped =
    elim stopped [ ]
chain_halted asked planned joined third (outcomes.Limit (TooMany side wave)) input_is third_is stopped =
    elim stopped [ ]
chain_halted asked planned joined third (outcomes.Limit (Total side wave rows)) input_is third_is stopped =
    elim stopped [ ]
chain_halted asked planned joined third (outcomes.Done _ _) input_is third_is stopped = elim stopped [ ]
chain_halted asked planned joined third (outcomes.DoneGroups _ _) input_is third_is stopped = elim stopped [ ]
chain_halted asked planned joined third (outcomes.DoneChain _ _ _) input_is third_is stopped = elim stopped [ ]
chain_halted asked planned joined third (outcomes.DoneRings _ _ _) input_is third_is stopped = elim stopped [ ]
chain_halted asked planned joined third (outcomes.Words _) input_is third_is stopped = elim stopped [ ]
chain_halted asked planned joined third (outcomes.Predicate _) input_is third_is stopped = elim stopped [ ]
chain_halted asked planned joined third (outcomes.Then _) input_is third_is stopped = elim stopped [ ]
chain_halted asked planned joined third (outcomes.Input _) input_is third_is stopped = elim stopped [ ]
chain_halted asked planned joined third outcomes.Read input_is third_is stopped = elim stopped [ ]
chain_halted asked planned joined third outcomes.Write input_is third_is stopped = elim stopped [ ]
