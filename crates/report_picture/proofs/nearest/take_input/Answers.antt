use Rattle.std.proofs.Common.{ap, slice_get}
use Rattle.report_picture.proofs.Made.{same_input}
use Rattle.report_picture.proofs.nearest.take_input.Goals as goal

pub returns-clause-exact : goal.returns-clause-exact
returns-clause-exact c x y fits words =
    same_input c.args.report.now _ _ x y
    (c.number-x.ensures x fits.0 (ap (λ ws. slice_get ws 1) words))
    (c.number-y.ensures y fits.1 (ap (λ ws. slice_get ws 2) words))
