use Rattle.std.proofs.Common.{◌∙◌}
use Rattle.chain_join.proofs.chain.run_second.Goals as goal

pub triples_of-requires : goal.triples_of-requires
triples_of-requires g c = rw (c.as_slice.ensures ∙ c.in_ok-told.ensures.pairs) c.requires.places
