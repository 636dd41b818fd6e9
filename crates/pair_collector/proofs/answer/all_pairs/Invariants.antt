use Rattle.std.proofs.Common.{◌≡◌}
use Rattle.std.specs.Prelude.{flat_map}
use Rattle.pair_collector.specs.Kept.{Kept}
use Rattle.pair_collector.proofs.answer.all_pairs.Given as goal

abbrev pub invariant-loop-part : goal.invariant-loop-part
invariant-loop-part l = l.pairs.items ≡ flat_map (λ (kept : Kept). kept.pairs) l.yielded
