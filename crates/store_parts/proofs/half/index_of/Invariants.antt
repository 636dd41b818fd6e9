use Rattle.std.proofs.Common.{◌≡◌, take}
use Rattle.store_parts.specs.Indexed.{IsIndexed}
use Rattle.store_parts.proofs.half.index_of.Given as goal

abbrev pub invariant-loop-tuple : goal.invariant-loop-tuple
invariant-loop-tuple l = record {
  place : l.place ≡ l.tuple-index;
  indexed : IsIndexed l.key l.access l.side (take l.tuple-index l.tuples) l.index;
}
