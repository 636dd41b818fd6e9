use Rattle.std.proofs.Common.{◌≡◌}
use Rattle.std.specs.Prelude.{replicate}
use Rattle.pair_collector.specs.Standing.{nothing_kept}
use Rattle.pair_collector.proofs.collector.Collector.start.Given as goal

abbrev pub invariant-loop : goal.invariant-loop
invariant-loop l = l.parts.items ≡ replicate l.counter nothing_kept
