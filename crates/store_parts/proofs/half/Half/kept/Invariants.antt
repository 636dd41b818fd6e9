use Rattle.std.proofs.Common.{◌≡◌, take, filter}
use Rattle.migration_plan.specs.Steps.{holds}
use Rattle.store_parts.specs.Indexed.{IsIndexed}
use Rattle.store_parts.proofs.half.Half.kept.Given as goal

abbrev pub invariant-loop-tuple : goal.invariant-loop-tuple
invariant-loop-tuple l = record {
  kept : l.copies.tuples ≡ filter (holds l.shape.k l.shape.shift l.id) (take l.tuple-index l.self.tuples);
  indexed : IsIndexed l.key l.access l.side l.copies.tuples l.copies.index;
}
