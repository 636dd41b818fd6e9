use Rattle.std.proofs.Common.{ap, slice_get}
use Rattle.report_picture.proofs.Made.{same_joiner}
use Rattle.report_picture.proofs.nearest.read_joiner.Goals as goal

pub returns : goal.returns
returns c id wanted fits words =
    same_joiner _ _ _ wanted
    (c.number-rows_r.ensures wanted.rows_r fits.1.0 (ap (λ ws. slice_get ws 3) words))
    (c.number-rows_s.ensures wanted.rows_s fits.1.1 (ap (λ ws. slice_get ws 4) words))
    (c.number-made.ensures wanted.made fits.1.2 (ap (λ ws. slice_get ws 6) words))
