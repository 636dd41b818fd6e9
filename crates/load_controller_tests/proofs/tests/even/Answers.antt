use Rattle.load_controller_tests.proofs.RowFits.{wave_fits}
use Rattle.load_controller_tests.proofs.tests.even.Goals as goal

pub start_at-requires-clause-fits : goal.start_at-requires-clause-fits
start_at-requires-clause-fits c = wave_fits
