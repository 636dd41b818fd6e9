use Rattle.std.proofs.Common.{◌≡◌}
use Rattle.pair_collector.specs.Fresh.{kept_behind}
use Rattle.pair_collector.proofs.answer.fresh_pairs.Given as goal

abbrev pub invariant-loop-joiner : goal.invariant-loop-joiner
invariant-loop-joiner l = l.pairs.items ≡ kept_behind l.given l.parts l.joiner
