-- Neighbouring shifts.
use Rattle.std.proofs.Common.{ℕ, ◌<◌, ◌≤◌, inl, inr, arith}
use Rattle.std.specs.Prelude.{min}
use Rattle.migration_plan.specs.Steps.{AreNeighbours}

-- the lesser of two neighbours isn't the last shift
pub lesser_below : (k b c : ℕ) → b ≤ k → c ≤ k → AreNeighbours b c → min b c < k
lesser_below k b c low low' next = elim next [
  | inl up ↦ omega arith
  | inr down ↦ omega arith
]
