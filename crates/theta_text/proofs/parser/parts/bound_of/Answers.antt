use Rattle.std.proofs.Common.{◌≡◌, ◌<◌, ◌≤◌, ◌∷◌, ap, ◌∙◌, arith, pos}
use Rattle.theta_tree.specs.declared.token.Token.TheVariants.{Number}
use Rattle.theta_tree.specs.Tokens.{number_of}
use Rattle.theta_text.specs.Machine.{bound, literal}
use Rattle.theta_tree.specs.Texts.{limits}
use Rattle.theta_text.proofs.Numbers.{number-copied}
use Rattle.theta_text.proofs.Turns.{greatest_is, turn_ok, turn_err, words_at, small_ok, small_err}
use Rattle.theta_text.proofs.parser.parts.bound_of.Goals as goal

pub returns-in-None-clause-run : goal.returns-in-None-clause-run
returns-in-None-clause-run c s =
    let digits = c.in-Number.digits in
    let same : number_of c.as_slice.result.now ≡ number_of digits = ap number_of c.as_slice.ensures in
    let big : limits.greatest < number_of digits = omega (arith, greatest_is, same, c.in-None.ensures) in
    turn_err limits c.args.end (bound ∷ s) literal (Number digits)
    c.args.tokens.now c.in-Some.first.now c.in-Some.rest.now c.in-Some.ensures c.in-Number.is
    (small_err limits (number_of digits) s big)

pub returns-in-Some-number-clause-run : goal.returns-in-Some-number-clause-run
returns-in-Some-number-clause-run c s =
    let digits = c.in-Number.digits in
    let same : number_of c.as_slice.result.now ≡ number_of digits = ap number_of c.as_slice.ensures in
    let le : number_of digits ≤ limits.greatest = omega (arith, greatest_is, same, c.in-Some-number.ensures.1) in
    turn_ok limits c.args.end (bound ∷ s) s (Number digits)
    c.args.tokens.now c.in-Some.first.now c.in-Some.rest.now c.in-Some.ensures c.in-Number.is
    (small_ok limits (number_of digits) s le)

pub returns-in-Some-number-clause-read : goal.returns-in-Some-number-clause-read
returns-in-Some-number-clause-read c =
    let digits = c.in-Number.digits in
    let same : number_of c.as_slice.result.now ≡ number_of digits = ap number_of c.as_slice.ensures in
    let le : number_of digits ≤ limits.greatest = omega (arith, greatest_is, same, c.in-Some-number.ensures.1) in (
      digits,
      words_at (Number digits) c.args.tokens.now c.in-Some.first.now c.in-Some.rest.now c.in-Some.ensures
          c.in-Number.is,
      number-copied c.in-Some-number.value (number_of digits)
          (c.in-Some-number.ensures.0 ∙ ap (λ n. pos n) same) (omega (arith, greatest_is, le)),
      le,
    )
