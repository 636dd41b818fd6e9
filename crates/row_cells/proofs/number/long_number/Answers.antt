use Rattle.std.proofs.Common.{◌∙◌, sym}
use Rattle.row_cells.proofs.Numbers.{parsed-cut, strange-cut, unspaced-cut}
use Rattle.row_cells.proofs.number.long_number.Goals as goal

pub returns-then-spaces_before-after : goal.returns-then-spaces_before-after
returns-then-spaces_before-after c =
    unspaced-cut c.args.text.now c.spaces_before.result c.others_before-size.result c.spaces_before.ensures.count
    c.others_before-size.ensures.count
    (λ e. c.if-spaces_before-after.true (c.spaces_before-2.ensures.count ∙ e))

pub returns-in_default : goal.returns-in_default
returns-in_default c =
    strange-cut c.args.text.now c.spaces_before.result c.others_before-size.result c.spaces_before.ensures.count
    c.others_before-size.ensures.count
    c.in_default.ensures.cases.0

pub returns : goal.returns
returns c =
    c.ok.ensures.value
    ∙ parsed-cut c.args.text.now c.spaces_before.result c.others_before-size.result c.parse.result
    c.spaces_before.ensures.count c.others_before-size.ensures.count
    (sym c.spaces_before-2.ensures.count ∙ c.if-spaces_before-after.false)
    (rw c.in-Ok.ensures.cases.0 at c.parse.ensures.value.0)
