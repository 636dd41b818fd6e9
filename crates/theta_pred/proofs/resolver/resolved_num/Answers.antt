use Rattle.std.proofs.lemmas.Result.{err_from_is_err_and}
use Rattle.theta_pred.specs.Names.{sum_names}
use Rattle.theta_pred.proofs.Wrong.{Tells-right}
use Rattle.theta_pred.proofs.resolver.resolved_num.Goals as goal

pub returns-in_err-right_sum-clause-err : goal.returns-in_err-right_sum-clause-err
returns-in_err-right_sum-clause-err c =
    let exit = c.from_residual-in_err-right_sum in
    let p = err_from_is_err_and exit.result exit.ensures.1 in
    rw (p.1, p.2) (Tells-right c.args.names_r.now c.args.names_s.now (sum_names c.args.left.now)
    (sum_names c.args.right.now)
    c.in_err-right_sum.field-0.0 c.in_ok-left_sum.ensures.once c.in_err-right_sum.ensures.err)
