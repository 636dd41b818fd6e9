use Rattle.std.proofs.Common.{arith, inr}
use Rattle.join_rows.proofs.Answered.{long-table, short-table}
use Rattle.join_rows.proofs.judged.judge.Goals as goal

pub returns-then-bytes-gt-MOST_BYTES-clause-bad : goal.returns-then-bytes-gt-MOST_BYTES-clause-bad
returns-then-bytes-gt-MOST_BYTES-clause-bad c =
    inr (long-table c.args.bytes.now (omega (arith, c.if-bytes-gt-MOST_BYTES.true)))

pub returns-clause-good : goal.returns-clause-good
returns-clause-good c =
    rw (short-table c.args.bytes.now (omega (arith, c.if-bytes-gt-MOST_BYTES.false))) c.judge_records.ensures.good

pub returns-clause-bad : goal.returns-clause-bad
returns-clause-bad c =
    rw (short-table c.args.bytes.now (omega (arith, c.if-bytes-gt-MOST_BYTES.false))) c.judge_records.ensures.bad
