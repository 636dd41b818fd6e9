use Rattle.std.proofs.Common.{string_bytes, arith}
use Rattle.std.proofs.lemmas.Option.{slice_get-get_or}
use Rattle.report_lines.specs.Lines.{joiner_line}
use Rattle.report_lines.proofs.Numbered.{lines_more}
use Rattle.report_lines.proofs.text_of_each_line.write_joiners.Goals as goal

pub loop-id-preserved : goal.loop-id-preserved
loop-id-preserved c =
    lines_more (joiner_line) (string_bytes c.args.text.now) (string_bytes c.loop-id.text)
    (string_bytes c.write_joiner.new.text) c.loop-id.id
    c.args.joiners.now _ (slice_get-get_or c.args.joiners.now c.loop-id.id _ (omega arith))
    c.loop-id.invariant c.in_ok-write_joiner.ensures
