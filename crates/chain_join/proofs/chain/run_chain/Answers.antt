use Rattle.std.proofs.Common.{◌∙◌}
use Rattle.chain_join.proofs.Chained.{places, triples_are}
use Rattle.chain_join.proofs.chain.run_chain.Goals as goal

pub run_second-ran-requires-clause-places : goal.run_second-ran-requires-clause-places
run_second-ran-requires-clause-places g c lifetimes within =
    places c.args.first.now c.args.third c.args.seed c.as_slice-2.result.now c.in-Ok.second
    (c.as_slice-2.ensures ∙ c.in_ok-told.ensures.pairs) c.in-Ok.ensures.is

pub returns-in-Ok-ran-clause-triples : goal.returns-in-Ok-ran-clause-triples
returns-in-Ok-ran-clause-triples g c =
    c.in-Ok-ran.ensures.triples
    ∙ triples_are c.args.first.now c.args.third c.args.seed c.as_slice-2.result.now c.in-Ok.second
    (c.as_slice-2.ensures ∙ c.in_ok-told.ensures.pairs) c.in-Ok.ensures.is
