use Rattle.std.proofs.Common.{ap, slice_get}
use Rattle.report_picture.proofs.Made.{same_step}
use Rattle.report_picture.proofs.nearest.read_step.Goals as goal

pub returns-clause-exact : goal.returns-clause-exact
returns-clause-exact c epoch wanted fits words =
    same_step _ _ _ wanted
    (c.side-n.ensures.exact wanted.n fits.1.0 (ap (λ ws. slice_get ws 2) words))
    (c.side-m.ensures.exact wanted.m fits.1.1 (ap (λ ws. slice_get ws 3) words))
    (c.number-moved.ensures wanted.moved fits.2 (ap (λ ws. slice_get ws 5) words))
