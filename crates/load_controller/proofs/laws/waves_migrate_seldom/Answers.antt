use Rattle.load_controller.proofs.Bound.{waves_migrate_seldom}
use Rattle.load_controller.proofs.laws.waves_migrate_seldom.Goals as goal

pub returns : goal.returns
returns c =
    λ rules first waves fits are a d small_r small_s.
    waves_migrate_seldom rules first waves fits are a d small_r small_s
