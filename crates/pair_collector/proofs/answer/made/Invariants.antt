use Rattle.std.proofs.Common.{◌≡◌, length, take}
use Rattle.std.specs.Prelude.{map}
use Rattle.pair_collector.specs.Kept.{Kept}
use Rattle.pair_collector.proofs.answer.made.Given as goal

abbrev pub invariant-loop-part : goal.invariant-loop-part
invariant-loop-part l = l.made ≡ map (λ (kept : Kept). length kept.pairs) (take l.part-index l.parts)
