use Rattle.std.specs.Prelude.{Some}
use Rattle.elastic_grow.specs.Stores.{AreKept}
use Rattle.elastic_grow.proofs.copies.of_one.Given as goal

abbrev pub invariant-loop-id : goal.invariant-loop-id
invariant-loop-id l = AreKept l.shape (λ j. Some l.whole) l.id l.kept
