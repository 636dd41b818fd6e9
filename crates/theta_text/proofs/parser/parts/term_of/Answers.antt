use Rattle.std.proofs.Common.{◌≡◌, ◌<◌, ◌≤◌, ◌∷◌, refl, sym, subst, ap, ◌∙◌, arith, pos, w64, to_z, of_z}
use Rattle.std.proofs.lemmas.Result.{err_from_is_err_and}
use Rattle.theta_tree.specs.declared.token.Token.TheVariants.{Word, Number}
use Rattle.theta_tree.specs.declared.tree.Term.TheVariants.{Const}
use Rattle.theta_tree.specs.Tokens.{number_of}
use Rattle.theta_tree.specs.Grammar.{TermText}
use Rattle.theta_text.specs.Machine.{name, term, literal}
use Rattle.theta_tree.specs.Faults.{words}
use Rattle.theta_tree.specs.Texts.{limits}
use Rattle.theta_text.proofs.Numbers.{number-copied}
use Rattle.theta_text.proofs.Turns.{greatest_is, turn_ok, turn_err, turn_same, words_at, small_ok, small_err}
use Rattle.theta_text.proofs.Turns.{same_fault}
use Rattle.theta_text.proofs.parser.parts.term_of.Goals as goal

pub returns-in-None-clause-run : goal.returns-in-None-clause-run
returns-in-None-clause-run c s =
    let digits = c.in-Number.digits in
    let same : number_of c.as_slice.result.now ≡ number_of digits = ap number_of c.as_slice.ensures in
    let big : limits.greatest < number_of digits = omega (arith, greatest_is, same, c.in-None.ensures) in
    turn_err limits c.args.end (term ∷ s) literal (Number digits)
    c.args.tokens.now c.in-Some.first.now c.in-Some.rest.now c.in-Some.ensures c.in-Number.is
    (small_err limits (number_of digits) s big)

pub returns-in-Some-number-clause-run : goal.returns-in-Some-number-clause-run
returns-in-Some-number-clause-run c s =
    let digits = c.in-Number.digits in
    let same : number_of c.as_slice.result.now ≡ number_of digits = ap number_of c.as_slice.ensures in
    let le : number_of digits ≤ limits.greatest = omega (arith, greatest_is, same, c.in-Some-number.ensures.1) in
    turn_ok limits c.args.end (term ∷ s) s (Number digits) c.args.tokens.now c.in-Some.first.now c.in-Some.rest.now
    c.in-Some.ensures c.in-Number.is (small_ok limits (number_of digits) s le)

pub returns-in_err-name-in-Word-clause-run : goal.returns-in_err-name-in-Word-clause-run
returns-in_err-name-in-Word-clause-run c s =
    let p = err_from_is_err_and c.from_residual.result c.from_residual.ensures.1 in
    let turned = turn_same limits c.args.end (term ∷ s) (name ∷ s) (Word c.in-Word.field-0 c.in-Word.field-1)
    c.args.tokens.now c.in-Some.first.now c.in-Some.rest.now c.in-Some.ensures c.in-Word.is refl in
    rw (p.1, p.2) (same_fault _ _ c.in_err-name-in-Word.field-0.0 turned (c.in_err-name-in-Word.ensures.run s))

pub returns-in-Some-number-clause-read : goal.returns-in-Some-number-clause-read
returns-in-Some-number-clause-read c =
    let digits = c.in-Number.digits in
    let same : number_of c.as_slice.result.now ≡ number_of digits = ap number_of c.as_slice.ensures in
    let le : number_of digits ≤ limits.greatest = omega (arith, greatest_is, same, c.in-Some-number.ensures.1) in
    let value = c.in-Some-number.ensures.0 ∙ ap (λ n. pos n) same in
    let written = number-copied c.in-Some-number.value (number_of digits) value (omega (arith, greatest_is, le)) in
    subst (λ z. TermText limits.greatest z (Const (to_z w64 (of_z w64 c.in-Some-number.value)))
    (words c.in-Some.rest.now)) (sym (words_at (Number digits)
    c.args.tokens.now c.in-Some.first.now c.in-Some.rest.now c.in-Some.ensures c.in-Number.is))
    (ap (λ z. Const z) written, le, refl)
