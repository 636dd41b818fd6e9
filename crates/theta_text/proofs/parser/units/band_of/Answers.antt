use Rattle.std.proofs.Common.{◌∷◌, ◌∙◌}
use Rattle.std.proofs.lemmas.Result.{err_from_is_err_and}
use Rattle.theta_text.specs.Machine.{close, sum, op, bound}
use Rattle.theta_text.proofs.Turns.{same_fault}
use Rattle.theta_text.proofs.parser.units.band_of.Goals as goal

pub returns-in_err-rest1-clause-run : goal.returns-in_err-rest1-clause-run
returns-in_err-rest1-clause-run c s =
    let p = err_from_is_err_and c.from_residual.result c.from_residual.ensures.1 in
    rw (p.1, p.2) (c.in_err-rest1.ensures.run (sum ∷ close ∷ op ∷ bound ∷ s))

pub returns-in_err-sum-clause-run : goal.returns-in_err-sum-clause-run
returns-in_err-sum-clause-run c s =
    let p = err_from_is_err_and c.from_residual-in_err-sum.result c.from_residual-in_err-sum.ensures.1 in
    rw (p.1, p.2) (same_fault _ _ c.in_err-sum.field-0.0 (c.in_ok-rest1.ensures.run (sum ∷ close ∷ op ∷ bound ∷ s))
    (c.in_err-sum.ensures.run (close ∷ op ∷ bound ∷ s)))

pub returns-in_err-rest3-clause-run : goal.returns-in_err-rest3-clause-run
returns-in_err-rest3-clause-run c s =
    let p = err_from_is_err_and c.from_residual-in_err-rest3.result c.from_residual-in_err-rest3.ensures.1 in
    rw (p.1, p.2) (same_fault _ _ c.in_err-rest3.field-0.0 (c.in_ok-rest1.ensures.run (sum ∷ close ∷ op ∷ bound ∷ s)
    ∙ c.in_ok-sum.ensures.run (close ∷ op ∷ bound ∷ s)) (c.in_err-rest3.ensures.run (op ∷ bound ∷ s)))

pub returns-in_err-op-clause-run : goal.returns-in_err-op-clause-run
returns-in_err-op-clause-run c s =
    let p = err_from_is_err_and c.from_residual-in_err-op.result c.from_residual-in_err-op.ensures.1 in
    rw (p.1, p.2) (same_fault _ _ c.in_err-op.field-0.0 (c.in_ok-rest1.ensures.run (sum ∷ close ∷ op ∷ bound ∷ s)
    ∙ c.in_ok-sum.ensures.run (close ∷ op ∷ bound ∷ s) ∙ c.in_ok-rest3.ensures.run (op ∷ bound ∷ s))
    (c.in_err-op.ensures.run (bound ∷ s)))

pub returns-in_err-bound-clause-run : goal.returns-in_err-bound-clause-run
returns-in_err-bound-clause-run c s =
    let p = err_from_is_err_and c.from_residual-in_err-bound.result c.from_residual-in_err-bound.ensures.1 in
    rw (p.1, p.2) (same_fault _ _ c.in_err-bound.field-0.0 (c.in_ok-rest1.ensures.run (sum ∷ close ∷ op ∷ bound ∷ s)
    ∙ c.in_ok-sum.ensures.run (close ∷ op ∷ bound ∷ s) ∙ c.in_ok-rest3.ensures.run (op ∷ bound ∷ s)
    ∙ c.in_ok-op.ensures.run (bound ∷ s)) (c.in_err-bound.ensures.run s))
