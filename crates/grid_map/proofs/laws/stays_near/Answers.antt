use Rattle.grid_map.proofs.Near.{near_weighed}
use Rattle.grid_map.proofs.laws.stays_near.Goals as goal

pub returns : goal.returns
returns c =
    λ k b r s x0 y0 x y fewest low_x high_x low_y high_y.
    near_weighed k b r s x0 y0 x y fewest low_x high_x low_y high_y
