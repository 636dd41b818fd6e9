use Rattle.std.proofs.Common.{◌≡◌, ◌++◌}
use Rattle.reshuffler_core.specs.Standing.{posts_of_tuple}
use Rattle.reshuffler_core.proofs.sending.send_tuple.Given as goal

abbrev pub invariant-loop-id : goal.invariant-loop-id
invariant-loop-id l = l.sends ≡ l.initial.sends ++ posts_of_tuple l.shape.k l.id l.epoch l.shape.shift l.tuple
