use Rattle.std.proofs.Common.{◌≡◌, [], length}
use Rattle.std.specs.Prelude.{replicate}
use Rattle.link_trace.specs.Worlds.{cores_of, waiting_of}
use Rattle.link_trace.proofs.places.places_of.Given as goal

abbrev pub invariant-loop-core : goal.invariant-loop-core
invariant-loop-core l = record {
  cores : cores_of l.places.items ≡ l.yielded;
  waiting : waiting_of l.places.items ≡ replicate (length l.yielded) (replicate l.count []);
}
