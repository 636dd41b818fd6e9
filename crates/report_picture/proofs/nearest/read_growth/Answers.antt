use Rattle.std.proofs.Common.{ap, slice_get}
use Rattle.report_picture.proofs.Made.{same_growth}
use Rattle.report_picture.proofs.nearest.read_growth.Goals as goal

pub returns-clause-exact : goal.returns-clause-exact
returns-clause-exact c wanted fits words =
    same_growth _ _ _ wanted
    (c.side-n.ensures.exact wanted.n fits.0.0 (ap (λ ws. slice_get ws 1) words))
    (c.side-m.ensures.exact wanted.m fits.0.1 (ap (λ ws. slice_get ws 2) words))
    (c.number-placed.ensures wanted.placed fits.1 (ap (λ ws. slice_get ws 4) words))
