use Rattle.std.proofs.Common.{◌≡◌, length}
use Rattle.join_rows.specs.Records.{after_marks}
use Rattle.join_rows.proofs.byte_order_marks.without_marks.Given as goal

abbrev pub invariant-loop-rest : goal.invariant-loop-rest
invariant-loop-rest l = after_marks l.rest ≡ after_marks l.fn.text

abbrev pub decreases-loop-rest : goal.decreases-loop-rest
decreases-loop-rest l = length l.rest
