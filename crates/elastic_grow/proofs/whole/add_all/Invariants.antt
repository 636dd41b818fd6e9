use Rattle.std.proofs.Common.{◌≡◌}
use Rattle.elastic_grow.specs.Stores.{with_all}
use Rattle.elastic_grow.proofs.whole.add_all.Given as goal

abbrev pub invariant-loop-tuple : goal.invariant-loop-tuple
invariant-loop-tuple l = l.store ≡ with_all l.initial.store l.yielded
