use Rattle.std.proofs.Common.{◌≡◌, ◌-◌, ◌^◌, min, length}
use Rattle.std.specs.Prelude.{map}
use Rattle.std.specs.List.{range_with_len}
use Rattle.pair_collector.specs.Standing.{moved_by}
use Rattle.pair_collector.proofs.answer.moved.Given as goal

abbrev pub invariant-loop-step : goal.invariant-loop-step
invariant-loop-step l = l.moved ≡ map (λ step. min (moved_by l.parts step (length l.parts)) (2 ^ 64 - 1))
    (range_with_len 0 l.step)
