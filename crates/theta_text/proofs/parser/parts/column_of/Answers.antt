use Rattle.std.proofs.Common.{◌∷◌}
use Rattle.std.proofs.lemmas.Result.{err_from_is_err_and}
use Rattle.theta_text.specs.Machine.{field}
use Rattle.theta_text.proofs.Turns.{same_fault}
use Rattle.theta_text.proofs.parser.parts.column_of.Goals as goal

pub returns-in_err-rest-clause-run : goal.returns-in_err-rest-clause-run
returns-in_err-rest-clause-run c s =
    let p = err_from_is_err_and c.from_residual.result c.from_residual.ensures.1 in
    rw (p.1, p.2) ((c.in_err-rest.ensures.run (field ∷ s)))

pub returns-in_err-word-clause-run : goal.returns-in_err-word-clause-run
returns-in_err-word-clause-run c s =
    let p = err_from_is_err_and c.from_residual-in_err-word.result c.from_residual-in_err-word.ensures.1 in
    rw (p.1, p.2) (same_fault _ _ c.in_err-word.field-0.0 (c.in_ok-rest.ensures.run (field ∷ s))
    (c.in_err-word.ensures.run s))
