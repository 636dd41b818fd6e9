use Rattle.std.proofs.Common.{◌≡◌, ◌<◌, length, take, filter}
use Rattle.std.specs.List.{All}
use Rattle.store_parts.specs.Accessed.{is_admitted}
use Rattle.store_parts.specs.Keyed.{at_places}
use Rattle.store_parts.proofs.probe.by_access.places_of_admitted.Given as goal

abbrev pub invariant-loop-place : goal.invariant-loop-place
invariant-loop-place l = record {
  same : at_places l.others l.kept ≡ filter (is_admitted l.access l.tuple)
      (at_places l.others (take l.place-index l.places));
  below : All (λ place. place < length l.others) l.kept;
}
