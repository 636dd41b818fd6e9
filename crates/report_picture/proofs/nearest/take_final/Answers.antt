use Rattle.std.proofs.Common.{ap, slice_get}
use Rattle.report_picture.proofs.Made.{same_final}
use Rattle.report_picture.proofs.nearest.take_final.Goals as goal

pub returns-clause-exact : goal.returns-clause-exact
returns-clause-exact c n m copies best fits words =
    same_final c.args.report.now _ _ _ _ n m copies best
    (c.side-n.ensures.exact n fits.0 (ap (λ ws. slice_get ws 1) words))
    (c.side-m.ensures.exact m fits.1 (ap (λ ws. slice_get ws 2) words))
    (c.number-copies.ensures copies fits.2 (ap (λ ws. slice_get ws 4) words))
    (c.number-best.ensures best fits.3 (ap (λ ws. slice_get ws 6) words))
