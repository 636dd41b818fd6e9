use Rattle.std.proofs.Common.{◌∙◌, take, ap, ◌+◌}
use Rattle.load_controller.specs.Journal.{last_epoch}
use Rattle.join_report.proofs.Journals.{read_at}
use Rattle.join_report.proofs.grids.last_epoch.Goals as goal

pub loop-line-preserved : goal.loop-line-preserved
loop-line-preserved c =
    read_at c.loop-line.line-index c.as_slice-line-items.result.now _ c.loop-line-test.true
    ∙ ap (λ journal. last_epoch (take (c.loop-line.line-index + 1) journal)) c.as_slice-line-items.ensures
