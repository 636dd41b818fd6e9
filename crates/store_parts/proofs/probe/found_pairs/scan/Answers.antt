use Rattle.std.proofs.Common.{◌∙◌}
use Rattle.std.proofs.lemmas.Result.{err_from_is_err_and}
use Rattle.store_parts.proofs.OneMoreTuple.{front_of_matches}
use Rattle.store_parts.proofs.probe.found_pairs.scan.Goals as goal

pub returns-in_err-try_one-clause-err : goal.returns-in_err-try_one-clause-err
returns-in_err-try_one-clause-err g c =
    let refused = err_from_is_err_and c.from_residual.result c.from_residual.ensures.1 in
    let front = front_of_matches c.args.query.now.theta.now c.args.query.now.tuple.now c.args.query.now.which
    c.args.others.now
    c.loop-other.other-index c.args.found.now c.try_one.new.found
    (c.in_err-try_one.ensures.err ∙ c.loop-other.invariant.found) in
    rw (refused.1) front
