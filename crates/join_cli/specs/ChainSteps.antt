-- What the steps of a second join answer.
use Rattle.std.specs.Prelude.{◌≡◌, ℕ, Bool, List, [], ◌∷◌, length}
use Rattle.chain_join.specs.declared.chain.ChainRun.{ChainRun}
use Rattle.chain_join.specs.declared.second.Third.{Third as ChainThird}
use Rattle.chain_join.specs.Chains.{IsToldOf}
use Rattle.join_cli.specs.declared.chain.Chained.{Chained}
use Rattle.join_cli.specs.declared.work.Work.{Work}
use Rattle.join_cli.specs.Chain.{IsChainOver, chain_text}
use Rattle.join_cli.specs.Steps.{FitsReport}

-- the reports of both runs can be made: the first is a run of the work, and the second is a run over as many joined
-- rows as the first has pairs, and so many rows of the third table
pub record FitReports (work : Work) (rows : ℕ) (run : ChainRun) : Type 0 where
  pub first : IsToldOf work.input.now work.setting.now run.first
  pub second : FitsReport work.setting.now (length run.first.run.pairs) rows run.second.run

-- the journals of two runs, and what their seats left, beside this text
pub record HasParts (text : List ℕ) (run : ChainRun) (chained : Chained) : Type 0 where
  pub text_is : chained.text ≡ text
  pub first_is : chained.first ≡ run.first.run.journal
  pub second_is : chained.second ≡ run.second.run.journal
  pub trail_is : chained.trail ≡ run.first.ends ∷ run.second.ends ∷ []

-- two runs of a chain over the work's input and this third table, with the text of their output
pub record IsChainedOf (report : Bool) (seed : ℕ) (work : Work) (third : ChainThird) (chained : Chained)
    : Type 0 where
  pub over : IsChainOver work.input.now third seed work.setting.now chained.first chained.second chained.trail
  pub text : chained.text
      ≡ chain_text report work.input.now third seed work.setting.now chained.first chained.second
