use Rattle.std.proofs.Common.{◌≡◌, map, take}
use Rattle.chain_join.specs.Triples.{triple_at}
use Rattle.chain_join.proofs.triples.triples_of.Given as goal

abbrev pub invariant-loop-pair : goal.invariant-loop-pair
invariant-loop-pair l = l.triples ≡ map (triple_at l.firsts) (take l.pair-index l.seconds)
