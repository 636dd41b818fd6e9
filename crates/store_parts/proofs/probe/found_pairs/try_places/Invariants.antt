use Rattle.std.proofs.Common.{◌≡◌, ◌+◌, ◌++◌, take, count_by}
use Rattle.store_parts.specs.Matches.{is_named, matches}
use Rattle.store_parts.specs.Keyed.{at_places}
use Rattle.store_parts.proofs.probe.found_pairs.try_places.Given as goal

abbrev pub invariant-loop-place : goal.invariant-loop-place
invariant-loop-place g l = record {
  found : l.found ≡ l.fn.found ++ matches l.query.theta.now l.query.tuple.now l.query.which
      (at_places l.others (take l.place-index l.places));
  steps : l.steps ≡ l.fn.steps + count_by (is_named l.query.which) (at_places l.others (take l.place-index l.places));
}
