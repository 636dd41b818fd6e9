use Rattle.std.proofs.Common.{◌∙◌, ◌++◌, ◌+◌, ◌-◌, ◌<◌, ap, subst, sym, arith}
use Rattle.std.specs.Prelude.{All}
use Rattle.group_split.proofs.BinaryDigits.{digits_below, digits-below, more_digits, at_last, digits_small, same_test}
use Rattle.group_split.proofs.sizing.digits.Goals as goal

pub loop-step-init : goal.loop-step-init
loop-step-init c =
    ap (λ places. places ++ digits_below c.args.joiners 7) c.new-places.ensures ∙ sym (digits-below c.args.joiners)

pub loop-step-preserved : goal.loop-step-preserved
loop-step-preserved c =
    let n = c.args.joiners in
    let step = c.loop-step.step in
    ap (λ places. places ++ digits_below n (7 - (step + 1))) c.in_ok-push_if.ensures
    ∙ more_digits n step c.loop-step.places _ c.loop-step-test.true c.loop-step.invariant
    (same_test c.has_digit.ensures c.from.ensures)

pub returns-clause-are : goal.returns-clause-are
returns-clause-are c = at_last c.args.joiners c.loop-step.places c.loop-step.step (omega arith) c.loop-step.invariant

pub returns-clause-small : goal.returns-clause-small
returns-clause-small c =
    let are = at_last c.args.joiners c.loop-step.places c.loop-step.step (omega arith) c.loop-step.invariant in
    subst (All (λ place. place < 7)) (sym are) (digits_small c.args.joiners)
