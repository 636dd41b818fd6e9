use Rattle.join_cli.proofs.wave_output.add_report.Goals as goal

pub bare_report-requires : goal.bare_report-requires
bare_report-requires c = rw (c.len-rows_r.ensures, c.len-rows_s.ensures) c.requires
