use Rattle.std.proofs.Common.{◌+◌, string_bytes, arith}
use Rattle.std.proofs.lemmas.Option.{slice_get-get_or}
use Rattle.report_lines.specs.Lines.{grid_line}
use Rattle.report_lines.proofs.Numbered.{lines_more_from}
use Rattle.report_lines.proofs.text_of_each_line.write_grids.Goals as goal

pub loop-index-preserved : goal.loop-index-preserved
loop-index-preserved c =
    lines_more_from (λ index step. grid_line (index + 1) step) c.args.before (string_bytes c.args.text.now)
    (string_bytes c.loop-index.text) (string_bytes c.write_grid.new.text) c.loop-index.index
    c.args.steps.now _ (slice_get-get_or c.args.steps.now c.loop-index.index _ (omega arith))
    c.loop-index.invariant c.in_ok-write_grid.ensures
