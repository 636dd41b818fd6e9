use Rattle.std.proofs.Common.{◌∷◌, ◌∙◌}
use Rattle.std.proofs.lemmas.Result.{err_from_is_err_and}
use Rattle.theta_text.specs.Machine.{close, name}
use Rattle.theta_text.proofs.Turns.{same_fault}
use Rattle.theta_text.proofs.parser.parts.text_of.Goals as goal

pub returns-in_err-inside-clause-run : goal.returns-in_err-inside-clause-run
returns-in_err-inside-clause-run c s =
    let p = err_from_is_err_and c.from_residual.result c.from_residual.ensures.1 in
    rw (p.1, p.2) ((c.in_err-inside.ensures.run (name ∷ close ∷ s)))

pub returns-in_err-name-clause-run : goal.returns-in_err-name-clause-run
returns-in_err-name-clause-run c s =
    let p = err_from_is_err_and c.from_residual-in_err-name.result c.from_residual-in_err-name.ensures.1 in
    rw (p.1, p.2) (same_fault _ _ c.in_err-name.field-0.0 (c.in_ok-inside.ensures.run (name ∷ close ∷ s))
    (c.in_err-name.ensures.run (close ∷ s)))

pub returns-in_err-left-clause-run : goal.returns-in_err-left-clause-run
returns-in_err-left-clause-run c s =
    let p = err_from_is_err_and c.from_residual-in_err-left.result c.from_residual-in_err-left.ensures.1 in
    rw (p.1, p.2) (same_fault _ _ c.in_err-left.field-0.0 (c.in_ok-inside.ensures.run (name ∷ close ∷ s)
    ∙ c.in_ok-name.ensures.run (close ∷ s)) (c.in_err-left.ensures.run s))
