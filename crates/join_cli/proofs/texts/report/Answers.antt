use Rattle.join_cli.proofs.Reports.{whole_fits}
use Rattle.join_cli.proofs.texts.report.Goals as goal

pub bare_report-requires : goal.bare_report-requires
bare_report-requires c =
    rw (c.len-rows_r.ensures, c.len-rows_s.ensures) (whole_fits c.args.work.now c.args.run.now c.requires)
