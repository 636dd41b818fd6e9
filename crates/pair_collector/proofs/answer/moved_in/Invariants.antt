use Rattle.std.proofs.Common.{◌≡◌, ◌-◌, ◌^◌, min}
use Rattle.pair_collector.specs.Standing.{moved_by}
use Rattle.pair_collector.proofs.answer.moved_in.Given as goal

abbrev pub invariant-loop-part : goal.invariant-loop-part
invariant-loop-part l = l.sum ≡ min (moved_by l.parts l.step l.part-index) (2 ^ 64 - 1)
