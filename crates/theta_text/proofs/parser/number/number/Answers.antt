use Rattle.std.proofs.Common.{◌≡◌, ◌+◌, ◌*◌, ◌≤◌, drop, sym, ap, ◌∙◌, arith}
use Rattle.theta_tree.specs.Tokens.{number_from, number_of}
use Rattle.theta_text.proofs.Numbers.{number_from-le, number_from-drop}
use Rattle.theta_text.proofs.parser.number.number.Goals as goal

pub loop-b-preserved : goal.loop-b-preserved
loop-b-preserved c =
    let l = c.loop-b in
    let digits = c.args.digits.now in
    record {
      value = ap (λ digit. number_from (l.value * 10 + digit) (drop (l.b-index + 1) digits)) c.saturating_sub.ensures
          ∙ sym (number_from-drop l.value l.b-index digits c.loop-b-test.true) ∙ l.invariant.value;
      within = c.if-value-gt-GREATEST.false;
    }

pub returns-then-value-gt-GREATEST : goal.returns-then-value-gt-GREATEST
returns-then-value-gt-GREATEST c =
    let l = c.loop-b in
    let digits = c.args.digits.now in
    let next = l.value * 10 + c.saturating_sub.result in
    let whole : number_from next (drop (l.b-index + 1) digits) ≡ number_of digits =
    ap (λ digit. number_from (l.value * 10 + digit) (drop (l.b-index + 1) digits)) c.saturating_sub.ensures
    ∙ sym (number_from-drop l.value l.b-index digits c.loop-b-test.true) ∙ l.invariant.value in
    let le : next ≤ number_from next (drop (l.b-index + 1) digits) =
    number_from-le next (drop (l.b-index + 1) digits) in
    let big = c.if-value-gt-GREATEST.true in
    omega (arith, whole, le, big)
