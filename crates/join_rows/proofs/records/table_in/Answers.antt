use Rattle.std.proofs.Common.{arith, inr, sym}
use Rattle.join_rows.proofs.Answered.{long-table, short-table}
use Rattle.join_rows.proofs.Shapes.{table-in-shape}
use Rattle.join_rows.proofs.records.table_in.Goals as goal

pub returns-then-bytes-gt-MOST_BYTES-clause-answer : goal.returns-then-bytes-gt-MOST_BYTES-clause-answer
returns-then-bytes-gt-MOST_BYTES-clause-answer c =
    inr (sym (long-table c.args.bytes.now (omega (arith, c.if-bytes-gt-MOST_BYTES.true))))

pub returns-clause-answer : goal.returns-clause-answer
returns-clause-answer c =
    rw (short-table c.args.bytes.now (omega (arith, c.if-bytes-gt-MOST_BYTES.false))) c.table_from.ensures

pub returns-clause-table : goal.returns-clause-table
returns-clause-table c = table-in-shape c.args.bytes.now c.table_from.result c.table_from.ensures
