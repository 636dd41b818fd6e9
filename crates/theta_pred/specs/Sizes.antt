-- How large whole numbers are.
use Rattle.std.specs.Prelude.{ℕ, ℤ, pos, neg_ℤ, ◌≤ℤ◌}

-- the number lies from -limit to limit
pub record IsAtMost (limit : ℕ) (value : ℤ) : Type 0 where
  pub above : neg_ℤ (pos limit) ≤ℤ value
  pub below : value ≤ℤ pos limit
