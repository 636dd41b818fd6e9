use Rattle.std.proofs.Common.{◌≡◌, ◌++◌, take}
use Rattle.std.specs.Prelude.{string_bytes}
use Rattle.report_lines.specs.Lines.{joiner_line}
use Rattle.report_lines.proofs.Numbered.{lines_from}
use Rattle.report_lines.proofs.text_of_each_line.write_joiners.Given as goal

abbrev pub invariant-loop-id : goal.invariant-loop-id
invariant-loop-id l =
    string_bytes l.text ≡ string_bytes l.initial.text ++ lines_from (joiner_line) 0 (take l.id l.joiners)
