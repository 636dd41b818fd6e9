use Rattle.std.proofs.Common.{◌≡◌, ◌+◌, ◌++◌, take, count_by, filter}
use Rattle.store_parts.specs.Keyed.{is_key_true}
use Rattle.store_parts.specs.Matches.{is_named, matches}
use Rattle.store_parts.proofs.probe.by_key.sift_each.Given as goal

abbrev pub invariant-loop-other : goal.invariant-loop-other
invariant-loop-other g l = record {
  found : l.found ≡ l.fn.found ++ matches l.query.theta.now l.query.tuple.now l.query.which
      (filter (is_key_true l.key l.query.tuple.now) (take l.other-index l.others));
  steps : l.steps ≡ l.fn.steps + count_by (is_named l.query.which)
      (filter (is_key_true l.key l.query.tuple.now) (take l.other-index l.others));
}
