-- What one step does to what the joiners hold.
use Rattle.std.specs.Prelude.{◌≡◌, ◌≢◌, ℕ, ◌≤◌, IsTrue, ◌||◌, ◌&&◌, not}
use Rattle.epoch_tags.specs.declared.tuple.Tuple.{Tuple}
use Rattle.migration_plan.specs.Steps.{AreNeighbours, exchanged_side, partner_in_step, holds}

-- a joiner's tuples before and after a step from shift b to shift c
pub record StepKeeps (k b c id : ℕ) (t : Tuple) : Type 0 where
  -- of the exchanged side it keeps what it held,
  pub keeps : t.side ≡ exchanged_side b c → IsTrue (holds k b id t) → IsTrue (holds k c id t)
  -- and holds what it and its partner held,
  pub joins : t.side ≡ exchanged_side b c → holds k c id t ≡ (holds k b id t || holds k b (partner_in_step b c id) t)
  -- of which the two had nothing in common;
  pub apart : t.side ≡ exchanged_side b c → IsTrue (not (holds k b id t && holds k b (partner_in_step b c id) t))
  -- of the other side it holds a part of what it held
  pub lessens : t.side ≢ exchanged_side b c → IsTrue (holds k c id t) → IsTrue (holds k b id t)

-- whatever the grid, its joiner and its tuple, each step to a neighbouring shift does this
abbrev pub OneStep : Type 0
OneStep = (k b c id : ℕ) → k ≤ 8 → b ≤ k → c ≤ k → AreNeighbours b c → (t : Tuple) → StepKeeps k b c id t
