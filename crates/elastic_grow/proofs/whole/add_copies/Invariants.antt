use Rattle.std.proofs.Common.{◌≡◌, ◌++◌, take}
use Rattle.elastic_grow.proofs.whole.add_copies.Given as goal

abbrev pub invariant-loop-tuple : goal.invariant-loop-tuple
invariant-loop-tuple l = l.all ≡ l.initial.all ++ take l.tuple-index l.tuples
