use Rattle.std.proofs.lemmas.Result.{IfOk-weaker}
use Rattle.chain_join.proofs.Chained.{pairs_of_run}
use Rattle.chain_join.proofs.chain.whole_run.Goals as goal

pub returns-clause-pairs : goal.returns-clause-pairs
returns-clause-pairs g c =
    let input = c.args.input.now in
    let setting = c.args.setting.now in
    IfOk-weaker c.run.result _ _ (λ told is. pairs_of_run input setting told.run is) c.run.ensures.run
