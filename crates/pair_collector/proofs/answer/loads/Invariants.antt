use Rattle.std.proofs.Common.{◌≡◌, take}
use Rattle.std.specs.Prelude.{map}
use Rattle.pair_collector.specs.Kept.{Kept}
use Rattle.pair_collector.specs.Standing.{held_of}
use Rattle.pair_collector.proofs.answer.loads.Given as goal

abbrev pub invariant-loop-part : goal.invariant-loop-part
invariant-loop-part l = l.loads ≡ map (λ (kept : Kept). held_of kept.last) (take l.part-index l.parts)
