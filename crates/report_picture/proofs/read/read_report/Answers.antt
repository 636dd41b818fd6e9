use Rattle.std.proofs.Common.{◌≡◌, ◌≤◌, ◌+◌, ◌∙◌, ap, sym, length, arith}
use Rattle.std.proofs.lemmas.Bool.{false≢true}
use Rattle.std.proofs.lemmas.Slice.{between_to_end}
use Rattle.report_lines.specs.Lines.{report_lines}
use Rattle.report_picture.proofs.Feeds.{feeds_more}
use Rattle.report_picture.proofs.Quiet.{begins_there}
use Rattle.report_picture.proofs.read.read_report.Goals as goal

pub returns-clause-behind : goal.returns-clause-behind
returns-clause-behind c line place is may =
    let named : c.line_at-line.result ≡ line = cc in
    let low : place ≤ c.report_start-start.result = c.report_start-start.ensures.last place may in
    let more = feeds_more c.args.text.now place (c.report_start-start.result + c.alike.result) (omega (arith, low)) in
    let counted = c.line_at-line.ensures in
    omega (arith, named, more, counted)

pub returns-clause-complete : goal.returns-clause-complete
returns-clause-complete c report line whole fit ends refused =
    let text = c.args.text.now in
    let starts = c.report_start-start.ensures in
    let there =
    begins_there c.args.text.now c.report_start-start.result report whole fit ends starts.last starts.found
    starts.there in
    let rest =
    between_to_end c.args.text.now c.report_start-start.result (length c.args.text.now) (omega arith) ∙ there.rest in
    let same = c.in_ok-report.ensures.exact report whole fit rest in
    let lines = c.as_bytes.ensures.value ∙ c.in_ok-wanted.ensures ∙ ap report_lines same in
    false≢true (sym c.if-ends_with.false ∙ c.ends_with.ensures.found there.line (there.rest ∙ sym lines))

pub returns-then-ends_with-clause-same : goal.returns-then-ends_with-clause-same
returns-then-ends_with-clause-same c report whole fit ends =
    let starts = c.report_start-start.ensures in
    let there =
    begins_there c.args.text.now c.report_start-start.result report whole fit ends starts.last starts.found
    starts.there in
    let rest =
    between_to_end c.args.text.now c.report_start-start.result (length c.args.text.now) (omega arith) ∙ there.rest in
    c.in_ok-report.ensures.exact report whole fit rest
