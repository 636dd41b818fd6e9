use Rattle.std.proofs.Common.{◌≡◌, ◌++◌, take}
use Rattle.reshuffler_core.specs.Standing.{posts_of_batch}
use Rattle.reshuffler_core.proofs.sending.send_batch.Given as goal

abbrev pub invariant-loop-tuple : goal.invariant-loop-tuple
invariant-loop-tuple l = l.sends ≡ l.initial.sends ++ posts_of_batch l.shape.k l.epoch l.shape.shift
    (take l.tuple-index l.batch)
