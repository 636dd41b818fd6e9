use Rattle.std.proofs.Common.{◌≡◌, true, arith, append_assoc, ◌∙◌}
use Rattle.std.proofs.lemmas.Result.{err_from_is_err_and}
use Rattle.std.proofs.lemmas.Option.{slice_get-get_or}
use Rattle.store_parts.proofs.KeyProbes.{matches_at_more, count_at_more, front_of_places, holds_at_place}
use Rattle.store_parts.specs.Matches.{does_match}
use Rattle.store_parts.proofs.probe.found_pairs.try_places.Goals as goal

pub returns-in_err-try_one-clause-err : goal.returns-in_err-try_one-clause-err
returns-in_err-try_one-clause-err g c =
    let p = err_from_is_err_and c.from_residual.result c.from_residual.ensures.1 in
    rw (p.1) (front_of_places c.args.query.now.theta.now c.args.query.now.tuple.now c.args.query.now.which
    c.args.others.now
    c.args.places.now
    c.loop-place.place-index c.args.found.now c.try_one.new.found
    (c.in_err-try_one.ensures.err ∙ c.loop-place.invariant.found))

pub try_one-requires-clause-sure : goal.try_one-requires-clause-sure
try_one-requires-clause-sure g c = λ is.
    holds_at_place (λ other. does_match c.args.query.now.theta.now c.args.query.now.tuple.now other ≡ true)
    c.args.others.now
    c.args.places.now c.loop-place.place-index _ c.at.result.now (c.requires.sure is)
    (slice_get-get_or c.args.places.now c.loop-place.place-index 0 c.loop-place-test.true) c.at.ensures

pub loop-place-preserved : goal.loop-place-preserved
loop-place-preserved g c =
    let place = slice_get-get_or c.args.places.now c.loop-place.place-index 0 c.loop-place-test.true in
    record {
      found =
          let more = matches_at_more c.args.query.now.theta.now c.args.query.now.tuple.now c.args.query.now.which
          c.args.others.now
          c.args.places.now
          c.loop-place.place-index _ c.at.result.now place c.at.ensures in
          let ok = c.in_ok-try_one.ensures.ok in
          grind (arith, append_assoc, more, ok, c.loop-place.invariant.found);
      steps =
          let more = count_at_more c.args.query.now.which c.args.others.now c.args.places.now c.loop-place.place-index _
          c.at.result.now place c.at.ensures in
          omega (arith, more, c.try_one.ensures.steps, c.loop-place.invariant.steps);
    }
