use Rattle.std.proofs.Common.{◌≡◌, ◌+◌, ◌++◌, take, count_by}
use Rattle.store_parts.specs.Matches.{is_named, matches}
use Rattle.store_parts.proofs.probe.found_pairs.scan.Given as goal

abbrev pub invariant-loop-other : goal.invariant-loop-other
invariant-loop-other g l = record {
  found : l.found ≡ l.fn.found ++ matches l.query.theta.now l.query.tuple.now l.query.which
      (take l.other-index l.others);
  steps : l.steps ≡ l.fn.steps + count_by (is_named l.query.which) (take l.other-index l.others);
}
