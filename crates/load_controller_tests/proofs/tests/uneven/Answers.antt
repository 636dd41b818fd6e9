use Rattle.load_controller_tests.proofs.RowFits.{row_fits}
use Rattle.load_controller_tests.proofs.tests.uneven.Goals as goal

pub start_at-requires-clause-fits : goal.start_at-requires-clause-fits
start_at-requires-clause-fits c = row_fits c.args.epoch
