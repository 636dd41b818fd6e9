use Rattle.std.proofs.Common.{◌∷◌, refl}
use Rattle.std.proofs.lemmas.Result.{err_from_is_err_and}
use Rattle.theta_tree.specs.declared.token.Token.TheVariants.{Sign}
use Rattle.theta_text.specs.Machine.{term, sum, more}
use Rattle.theta_tree.specs.Texts.{limits}
use Rattle.theta_text.proofs.Turns.{turn_ok, turn_same, same_fault, sum_plain}
use Rattle.theta_text.proofs.parser.sums.first_of.Goals as goal

pub returns-in_err-term-in-Sign-clause-run : goal.returns-in_err-term-in-Sign-clause-run
returns-in_err-term-in-Sign-clause-run c s =
    let p = err_from_is_err_and c.from_residual.result c.from_residual.ensures.1 in
    let turned = turn_ok limits c.args.end (sum ∷ s) (term ∷ more limits.more ∷ s) (Sign c.in-Sign.minus)
    c.args.tokens.now c.in-Some.first.now c.in-Some.rest.now c.in-Some.ensures c.in-Sign.is refl in
    rw (p.1, p.2) (same_fault _ _ c.in_err-term-in-Sign.field-0.0 turned
    (c.in_err-term-in-Sign.ensures.run (more limits.more ∷ s)))

pub returns-in_err-term-in_default-token : goal.returns-in_err-term-in_default-token
returns-in_err-term-in_default-token c =
    let r = c.from_residual-in_err-term-in_default-token in
    let p = err_from_is_err_and r.result r.ensures.1 in
    let e = c.in_err-term-in_default-token in
    rw (p.1, p.2) (record {
      read = tt;
      run = λ s. same_fault _ _ e.field-0.0 (turn_same limits c.args.end (sum ∷ s) (term ∷ more limits.more ∷ s)
          c.in-Some.first.now.token c.args.tokens.now c.in-Some.first.now c.in-Some.rest.now c.in-Some.ensures refl
          (sum_plain limits s c.in-Some.first.now.token c.in_default-token.not-Sign))
          (e.ensures.run (more limits.more ∷ s));
      shorter = tt;
    })
