use Rattle.std.proofs.Common.{◌≡◌, ◌∙◌, true, false, sym}
use Rattle.join_rows.specs.Records.{has_mark}
use Rattle.join_rows.proofs.Marks.{mark-cut, mark-none}
use Rattle.join_rows.proofs.byte_order_marks.without_marks.Goals as goal

pub loop-rest-preserved : goal.loop-rest-preserved
loop-rest-preserved c =
    let marked : has_mark c.loop-rest.rest.now ≡ true = sym c.begins_with_mark.ensures ∙ c.loop-rest-test.true in
    mark-cut c.loop-rest.rest.now marked ∙ c.loop-rest.invariant

pub returns : goal.returns
returns c =
    let plain : has_mark c.loop-rest.rest.now ≡ false = sym c.begins_with_mark.ensures ∙ c.loop-rest-test.false in
    sym (mark-none c.loop-rest.rest.now plain) ∙ c.loop-rest.invariant
