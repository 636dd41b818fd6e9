use Rattle.std.proofs.Common.{◌≡◌, ◌∙◌, ◌*◌, ap, fold, length, subst, sym}
use Rattle.report_lines.specs.declared.report_numbers.Report.{Report}
use Rattle.report_picture.specs.Reading.{taken}
use Rattle.report_picture.proofs.Entries.{report_text, report_readable}
use Rattle.report_picture.proofs.Folded.{entries_of, report_taken}
use Rattle.report_picture.proofs.nearest.nearest.Goals as goal

pub returns-clause-exact : goal.returns-clause-exact
returns-clause-exact c wanted whole fit is =
    let read : c.take_lines.new.report ≡ wanted =
    c.in_ok-take_lines.ensures.exact (entries_of wanted) (report_readable wanted whole fit) (is ∙ report_text wanted)
    ∙ ap (λ first. fold taken first (entries_of wanted)) c.nothing_yet-report.ensures.nothing
    ∙ report_taken wanted whole in
    c.in_ok-fit_joiners.ensures.same
    (subst (λ (report : Report). length report.joiners ≡ report.n * report.m) (sym read) whole.joiners) ∙ read
