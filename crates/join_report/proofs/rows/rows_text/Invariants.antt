use Rattle.std.proofs.Common.{take}
use Rattle.join_report.specs.RowLines.{row_lines}
use Rattle.join_report.specs.Writers.{HasWritten}
use Rattle.join_report.proofs.rows.rows_text.Given as goal

abbrev pub invariant-loop-pair : goal.invariant-loop-pair
invariant-loop-pair l = HasWritten l.writer (row_lines l.rows_r l.rows_s (take l.pair-index l.pairs))
