-- What a joiner took, step by step, the latest first: the stores and the pairs that follow from it.
use Rattle.std.specs.Prelude.{◌≡◌, ℕ, ◌+◌, ◌≤◌, ◌==◌, Bool, true, ◌&&◌, ⊤, List, [], ◌∷◌, ◌++◌, filter, map, length}
use Rattle.std.specs.List.{AllByRecursion}
use Rattle.epoch_tags.specs.declared.tuple.Tuple.{Tuple}
use Rattle.epoch_tags.specs.declared.tuple.Pair.{Pair}
use Rattle.row_cells.specs.declared.table.Side.{Side}
use Rattle.row_cells.specs.declared.table.Side.TheVariants.{R, S}
use Rattle.migration_plan.specs.Steps.{holds, is_of}
use Rattle.joiner_law.specs.Law.{pair_of, pairs_by, is_greater_stamp}

-- one epoch: its shift, the tuples that the partner moved here (in the first epoch those of the base),
-- and the tuples that feeders sent with this epoch as their stamp
pub record Step : Type 0 where
  pub shift : ℕ
  pub came : List Tuple
  pub arrived : List Tuple

-- the store of the latest epoch: what is kept of the one before, what came and what arrived
abbrev pub stored : ℕ → ℕ → List Step → List Tuple
stored k id [] = []
stored k id (step ∷ past) = filter (holds k step.shift id) (stored k id past) ++ (step.came ++ step.arrived)

-- which pairs of a store count for its epoch: in the first all that match, later those whose greater stamp is that
-- epoch
abbrev pub counts_at : (Tuple → Tuple → Bool) → ℕ → List Step → Tuple → Tuple → Bool
counts_at matches epoch [] r q = matches r q
counts_at matches epoch (step ∷ past) r q = matches r q && is_greater_stamp (epoch + length (step ∷ past)) r q

-- the pairs of all epochs, those of the base with itself included
abbrev pub all_found : (Tuple → Tuple → Bool) → ℕ → ℕ → ℕ → List Step → List Pair
all_found matches epoch k id [] = []
all_found matches epoch k id (step ∷ past) =
    all_found matches epoch k id past
    ++ pairs_by (counts_at matches epoch past) (stored k id (step ∷ past)) (stored k id (step ∷ past))

-- no stamp is above e
abbrev pub AllUpTo : ℕ → List Tuple → Type 0
AllUpTo e xs = AllByRecursion (λ (x : Tuple). x.stamp ≤ e) xs

-- what came is older than its epoch, and so is the base or of the first epoch
abbrev pub CameOlder : ℕ → List Step → Type 0
CameOlder epoch [] = ⊤
CameOlder epoch (step ∷ []) = AllUpTo epoch step.came
CameOlder epoch (step ∷ (before ∷ past)) = AllUpTo (epoch + length past) step.came × CameOlder epoch (before ∷ past)

-- what arrived has its epoch as its stamp
abbrev pub ArrivedInTime : ℕ → List Step → Type 0
ArrivedInTime epoch [] = ⊤
ArrivedInTime epoch (step ∷ past) = AllByRecursion (λ (x : Tuple). x.stamp ≡ epoch + length past) step.arrived
    × ArrivedInTime epoch past

-- the step with one tuple more that arrived
abbrev pub with_arrived : Tuple → Step → Step
with_arrived x step = record step { arrived = x ∷ step.arrived }

-- the step with one tuple more that came
abbrev pub with_came : Tuple → Step → Step
with_came x step = record step { came = x ∷ step.came }

-- a step in which nothing came or arrived yet
abbrev pub new_step : ℕ → Step
new_step shift = record { shift = shift; came = []; arrived = [] }

-- ---- probes

-- the test of a probe of all stored tuples
abbrev pub all_tuples : Tuple → Bool
all_tuples other = true

-- the test of a probe of the stored tuples of one epoch
abbrev pub only_stamp : ℕ → Tuple → Bool
only_stamp stamp other = other.stamp == stamp

-- the pairs of a tuple of this side, R first in each
abbrev pub probed_at : Side → (Tuple → Tuple → Bool) → (Tuple → Bool) → Tuple → List Tuple → List Pair
probed_at R matches names x ys = map (pair_of x) (filter (λ q. is_of S q && (matches x q && names q)) ys)
probed_at S matches names x ys = map (λ r. pair_of r x) (filter (λ r. is_of R r && (matches r x && names r)) ys)

-- the pairs of a tuple with the stored ones of the other side that are named and match, in stored order
abbrev pub probed : (Tuple → Tuple → Bool) → (Tuple → Bool) → Tuple → List Tuple → List Pair
probed matches names x ys = probed_at x.side matches names x ys
