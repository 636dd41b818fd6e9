use Rattle.std.proofs.Common.{inr, ap, sym, ◌∙◌, Ok}
use Rattle.join_plan.proofs.Refusals.{columns_refuse}
use Rattle.join_plan.proofs.Wrong.{theta_found, refused_over}
use Rattle.join_plan.proofs.columns.theta.Goals as goal

pub returns-in-Ok-clause-answer : goal.returns-in-Ok-clause-answer
returns-in-Ok-clause-answer c =
    inr (ap Ok c.in-Ok.ensures.ok
    ∙ sym (theta_found c.args.which c.args.names_r.now c.args.names_s.now c.args.pred.now c.in-Ok.ensures.once))

pub returns-in-Ok-clause-found : goal.returns-in-Ok-clause-found
returns-in-Ok-clause-found c =
    theta_found c.args.which c.args.names_r.now c.args.names_s.now c.args.pred.now c.in-Ok.ensures.once
    ∙ ap Ok (sym c.in-Ok.ensures.ok)

pub returns-in-Err-clause-answer : goal.returns-in-Err-clause-answer
returns-in-Err-clause-answer c =
    rw c.columns_refused.ensures
    (refused_over c.args.which c.args.names_r.now c.args.names_s.now c.args.pred.now c.in-Err.fault
    c.in-Err.ensures.err)

pub returns-in-Err-clause-refused : goal.returns-in-Err-clause-refused
returns-in-Err-clause-refused c = λ old new told spot asked has.
    rw c.columns_refused.ensures (columns_refuse c.args.which c.in-Err.fault old new told spot asked has)
