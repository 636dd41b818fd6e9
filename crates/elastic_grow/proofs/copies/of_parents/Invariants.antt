use Rattle.std.specs.Prelude.{slice_get}
use Rattle.elastic_grow.specs.Children.{parent_of}
use Rattle.elastic_grow.specs.Stores.{AreKept}
use Rattle.elastic_grow.proofs.copies.of_parents.Given as goal

abbrev pub invariant-loop-id : goal.invariant-loop-id
invariant-loop-id l = AreKept l.shape (λ j. slice_get l.stores (parent_of l.shift j)) l.id l.kept
