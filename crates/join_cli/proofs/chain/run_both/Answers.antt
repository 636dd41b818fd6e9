use Rattle.join_cli.specs.Chain.{third_of}
use Rattle.join_cli.proofs.Chained.{chained_is, reports_fit}
use Rattle.join_cli.proofs.chain.run_both.Goals as goal

pub chained_of-requires : goal.chained_of-requires
chained_of-requires g c =
    reports_fit c.args.work.now (third_of c.args.third) c.args.options.now.seed c.in-Ok.run' c.len-rows.result
    c.len-rows.ensures c.requires.table.few c.in-Ok.ensures.valid c.in-Ok.ensures.first c.in-Ok.ensures.second
    c.in-Ok.ensures.few

pub returns-in-Ok-chained_of-clause-chained : goal.returns-in-Ok-chained_of-clause-chained
returns-in-Ok-chained_of-clause-chained g c =
    chained_is c.args.work.now (third_of c.args.third) c.args.options.now.seed c.in-Ok.run'
    c.args.options.now.report c.len-rows.result c.in-Ok-chained_of.chained c.len-rows.ensures c.in-Ok.ensures.valid
    c.in-Ok.ensures.first c.in-Ok.ensures.second c.in-Ok.ensures.few c.in-Ok.ensures.triples
    c.in-Ok-chained_of.ensures
