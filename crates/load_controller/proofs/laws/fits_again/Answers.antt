use Rattle.load_controller.proofs.Again.{fits_again}
use Rattle.load_controller.proofs.laws.fits_again.Goals as goal

pub returns : goal.returns
returns c =
    λ rules first line past fits follows still few_r few_s.
    fits_again rules first line past fits follows still few_r few_s
