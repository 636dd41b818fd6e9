use Rattle.load_controller.proofs.SettledCounts.{each_settled}
use Rattle.load_controller.proofs.laws.each_has_settled.Goals as goal

pub returns : goal.returns
returns c =
    λ rules first line past not_moving follows still j epochs low are.
    each_settled rules first line past not_moving follows still j epochs low are
