use Rattle.std.proofs.Common.{◌≡◌, ◌+◌, ◌++◌, take}
use Rattle.std.specs.Prelude.{string_bytes}
use Rattle.report_picture.specs.Drawing.{step_of}
use Rattle.report_lines.proofs.Numbered.{lines_from}
use Rattle.report_picture.proofs.life.write_steps.Given as goal

abbrev pub invariant-loop-index : goal.invariant-loop-index
invariant-loop-index l =
    string_bytes l.text ≡ string_bytes l.initial.text
    ++ lines_from (λ index step. step_of l.aside (index + 1) step) l.before (take l.index l.steps)
