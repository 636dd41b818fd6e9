use Rattle.std.proofs.Common.{◌∷◌, ◌∙◌}
use Rattle.std.proofs.lemmas.Result.{err_from_is_err_and}
use Rattle.theta_text.specs.Machine.{sum, op}
use Rattle.theta_text.proofs.Turns.{same_fault}
use Rattle.theta_text.proofs.parser.units.num_of.Goals as goal

pub returns-in_err-left-clause-run : goal.returns-in_err-left-clause-run
returns-in_err-left-clause-run c s =
    let p = err_from_is_err_and c.from_residual.result c.from_residual.ensures.1 in
    rw (p.1, p.2) (c.in_err-left.ensures.run (op ∷ sum ∷ s))

pub returns-in_err-op-clause-run : goal.returns-in_err-op-clause-run
returns-in_err-op-clause-run c s =
    let p = err_from_is_err_and c.from_residual-in_err-op.result c.from_residual-in_err-op.ensures.1 in
    rw (p.1, p.2) (same_fault _ _ c.in_err-op.field-0.0 (c.in_ok-left.ensures.run (op ∷ sum ∷ s))
    (c.in_err-op.ensures.run (sum ∷ s)))

pub returns-in_err-right-clause-run : goal.returns-in_err-right-clause-run
returns-in_err-right-clause-run c s =
    let p = err_from_is_err_and c.from_residual-in_err-right.result c.from_residual-in_err-right.ensures.1 in
    rw (p.1, p.2) (same_fault _ _ c.in_err-right.field-0.0 (c.in_ok-left.ensures.run (op ∷ sum ∷ s)
    ∙ c.in_ok-op.ensures.run (sum ∷ s)) (c.in_err-right.ensures.run s))
