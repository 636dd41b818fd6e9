use Rattle.std.proofs.Common.{◌≡◌}
use Rattle.pair_collector.specs.Standing.{longest}
use Rattle.pair_collector.proofs.answer.steps.Given as goal

abbrev pub invariant-loop-part : goal.invariant-loop-part
invariant-loop-part l = l.steps ≡ longest l.parts l.part-index
