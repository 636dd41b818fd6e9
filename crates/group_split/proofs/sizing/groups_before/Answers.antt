use Rattle.std.proofs.Common.{◌∙◌, ◌-◌, ◌+◌, ap, sym, refl, arith, drop}
use Rattle.group_split.specs.Sizes.{digits, before}
use Rattle.group_split.proofs.BinaryDigits.{digits_below, digits-below, here_is_one, here_is_none, next_place, next_sum}
use Rattle.group_split.proofs.BinaryDigits.{none_left}
use Rattle.group_split.proofs.sizing.groups_before.Goals as goal
use Rattle.group_split.proofs.sizing.groups_before.Goals.{then-has_digit+else-number-joined, else-has_digit}

pub loop-step-init : goal.loop-step-init
loop-step-init c = record { rest = digits-below c.args.joiners; joined = refl; passed = omega arith; few = omega arith }

pub loop-step-preserved : goal.loop-step-preserved
loop-step-preserved c =
    let n = c.args.joiners in
    let step = c.loop-step.step in
    elim c.if-has_digit.branch [
      | then-has_digit+else-number-joined w ↦
          let one = sym c.has_digit.ensures ∙ w.if-has_digit.true in
          let next = here_is_one n step c.loop-step.group c.loop-step-test.true c.loop-step.invariant.rest one in
          let more = next_sum (digits n) (digits_below n (7 - (step + 1))) c.loop-step.group (6 - step) next in
          let rest = next_place (digits n) (digits_below n (7 - (step + 1))) c.loop-step.group (6 - step) next in
          record {
            rest = ap (λ g. drop g (digits n)) w.group-is ∙ rest;
            joined = w.joined-is ∙ ap (λ m. m + w.size_at-joined.result) c.loop-step.invariant.joined
                ∙ ap (λ m. before n c.loop-step.group + m) w.size_at-joined.ensures.size
                ∙ sym more ∙ ap (before n) (sym w.group-is);
            passed = omega arith;
            few = omega arith;
          }
      | else-has_digit w ↦
          let none = sym c.has_digit.ensures ∙ w.if-has_digit.false in
          let rest = here_is_none n step c.loop-step.group c.loop-step-test.true c.loop-step.invariant.rest none in
          record {
            rest = ap (λ g. drop g (digits n)) w.group-is ∙ rest;
            joined = w.joined-is ∙ c.loop-step.invariant.joined ∙ ap (before n) (sym w.group-is);
            passed = omega arith;
            few = omega arith;
          }
    ]

pub returns-then-number-joined : goal.returns-then-number-joined
returns-then-number-joined c =
    let n = c.args.joiners in
    let step = c.loop-step.step in
    let one = sym c.has_digit.ensures ∙ c.if-has_digit.true in
    let next = here_is_one n step c.loop-step.group c.loop-step-test.true c.loop-step.invariant.rest one in
    let more = next_sum (digits n) (digits_below n (7 - (step + 1))) c.loop-step.group (6 - step) next in
    let size = c.size_at-joined.ensures.size in
    record { from = omega arith; below = omega arith }

pub returns : goal.returns
returns c =
    let none =
    none_left c.args.joiners c.loop-step.step c.loop-step.group (omega arith) (omega arith)
    c.loop-step.invariant.rest in
    absurd (omega arith)
