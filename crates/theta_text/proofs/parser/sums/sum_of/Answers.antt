use Rattle.std.proofs.Common.{◌≡◌, ◌+◌, ◌-◌, ◌<◌, List, [], ◌∷◌, ◌++◌, length, refl, ap, ◌∙◌, arith, rules}
use Rattle.std.proofs.lemmas.Result.{err_from_is_err_and}
use Rattle.std.proofs.lemmas.List.{length-append}
use Rattle.theta_tree.specs.declared.token.Token.TheVariants.{Sign}
use Rattle.theta_tree.specs.declared.tree.Signed.{Signed}
use Rattle.theta_text.specs.Machine.{Symbol, term, more, verdict}
use Rattle.theta_tree.specs.Faults.{words}
use Rattle.theta_tree.specs.Texts.{limits}
use Rattle.theta_text.proofs.Turns.{more_is, turn_ok, words_at, same_fault, more_sign, terms_push, past_more}
use Rattle.theta_text.proofs.parser.sums.sum_of.Goals as goal

pub loop-minus-init : goal.loop-minus-init
loop-minus-init c =
    let first = c.in_ok-first in
    let pushed : c.push.new.self ≡ first.first ∷ [] = search rules in
    record {
      read = (first.first, [], pushed, omega (arith, more_is), first.ensures.read, refl);
      run = λ s. first.ensures.run s ∙ ap (λ n. verdict limits c.args.end (more n ∷ s) first.rest.now) more_is;
      shorter = first.ensures.shorter;
    }

pub returns-in_err-first-clause-run : goal.returns-in_err-first-clause-run
returns-in_err-first-clause-run c s =
    let p = err_from_is_err_and c.from_residual.result c.from_residual.ensures.1 in
    rw (p.1, p.2) (c.in_err-first.ensures.run s)

pub returns-in_err-term-clause-run : goal.returns-in_err-term-clause-run
returns-in_err-term-clause-run c s =
    let p = err_from_is_err_and c.from_residual-in_err-term.result c.from_residual-in_err-term.ensures.1 in
    let l = c.loop-minus in
    let room : 0 < l.room = omega arith in
    let here = c.in-Some.ensures in
    let turned = turn_ok limits c.args.end (more l.room ∷ s) (term ∷ more (l.room - 1) ∷ s) (Sign c.in-Some.minus)
    l.rest.now here.0 c.in-Some.after.now here.1 here.2 (more_sign limits l.room s c.in-Some.minus room) in
    rw (p.1, p.2) (same_fault _ _ c.in_err-term.field-0.0 (l.invariant.run s ∙ turned)
    (c.in_err-term.ensures.run (more (l.room - 1) ∷ s)))

pub loop-minus-preserved : goal.loop-minus-preserved
loop-minus-preserved c =
    let l = c.loop-minus in
    let it = l.invariant in
    let (x, xs, e, count, first, f) = it.read in
    let room : 0 < l.room = omega arith in
    let here = c.in-Some.ensures in
    let after = c.in-Some.after.now in
    let m = c.in_ok-term in
    let turned : (s : List Symbol) → verdict limits c.args.end (more l.room ∷ s) l.rest.now
    ≡ verdict limits c.args.end (term ∷ more (l.room - 1) ∷ s) after =
    λ s. turn_ok limits c.args.end (more l.room ∷ s) (term ∷ more (l.room - 1) ∷ s) (Sign c.in-Some.minus)
    l.rest.now here.0 after here.1 here.2 (more_sign limits l.room s c.in-Some.minus room) in
    let y : Signed = record { minus = c.in-Some.minus; term = m.term } in
    let pushed : c.push-in-Some.new.self ≡ l.terms ++ y ∷ [] = search rules in
    let mid : words l.rest.now ≡ Sign y.minus ∷ words after =
    words_at (Sign y.minus) l.rest.now here.0 after here.1 here.2 in
    let less : length xs < limits.more = omega (arith, count) in
    let longer : length (xs ++ y ∷ []) ≡ length xs + 1 = length-append xs (y ∷ []) in
    record {
      read = (
        x,
        xs ++ y ∷ [],
        pushed ∙ ap (λ z. z ++ y ∷ []) e,
        omega (arith, count, longer),
        first,
        terms_push limits.greatest limits.more (words c.in_ok-first.rest.now) (words l.rest.now) (words after)
            (words m.left.now) xs y f mid m.ensures.read less,
      );
      run = λ s. it.run s ∙ turned s ∙ m.ensures.run (more (l.room - 1) ∷ s);
      shorter = grind (arith, here.1);
    }

pub returns-clause-run : goal.returns-clause-run
returns-clause-run c s = c.loop-minus.invariant.run s ∙ past_more limits c.args.end c.loop-minus.room s
    c.loop-minus.rest.now c.in_default.ensures

pub returns-clause-narrow : goal.returns-clause-narrow
returns-clause-narrow c =
    let (x, xs, e, count, first, f) = c.loop-minus.invariant.read in
    let long : length c.loop-minus.terms ≡ length (x ∷ xs) = ap length e in
    grind (arith, long, count, more_is)
