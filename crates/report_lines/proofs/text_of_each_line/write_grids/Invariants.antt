use Rattle.std.proofs.Common.{◌≡◌, ◌+◌, ◌++◌, take}
use Rattle.std.specs.Prelude.{string_bytes}
use Rattle.report_lines.specs.Lines.{grid_line}
use Rattle.report_lines.proofs.Numbered.{lines_from}
use Rattle.report_lines.proofs.text_of_each_line.write_grids.Given as goal

abbrev pub invariant-loop-index : goal.invariant-loop-index
invariant-loop-index l =
    string_bytes l.text ≡ string_bytes l.initial.text ++ lines_from (λ index step. grid_line (index + 1) step) l.before
    (take l.index l.steps)
