-- One migration step: from a shift to a neighbouring one.
use Rattle.std.specs.Prelude.{◌≡◌, ◌≢◌, ℕ, ◌+◌, ◌-◌, min, nat_lt, Bool, true, false, ◌⊎◌, List, [], ◌∷◌, if◌then◌else◌}
use Rattle.row_cells.specs.declared.table.Side.{Side}
use Rattle.row_cells.specs.declared.table.Side.TheVariants.{R, S}
use Rattle.epoch_tags.specs.declared.tuple.Tuple.{Tuple}
use Rattle.grid_map.specs.Grid.{holds_r, holds_s, partner}

-- the two shifts differ by 1
abbrev pub AreNeighbours : ℕ → ℕ → Type 0
AreNeighbours old new = (new ≡ old + 1) ⊎ (old ≡ new + 1)

-- the shift nearer to the goal by 1
abbrev pub next_step : ℕ → ℕ → ℕ
next_step shift goal = if nat_lt shift goal then shift + 1 else shift - 1

-- the side whose tuples partners exchange: R where the shift rises, S where it falls
abbrev pub exchanged_side : ℕ → ℕ → Side
exchanged_side old new = if nat_lt old new then R else S

-- the joiner with whom `id` exchanges them
abbrev pub partner_in_step : ℕ → ℕ → ℕ → ℕ
partner_in_step old new id = partner (min old new) id

-- at shift b of a grid of 2 ^ k joiners, joiner `id` holds this ticket of that side
abbrev pub holds_ticket : ℕ → ℕ → ℕ → Side → ℕ → Bool
holds_ticket k b id R ticket = holds_r k b id ticket
holds_ticket k b id S ticket = holds_s b id ticket

-- it holds this tuple
abbrev pub holds : ℕ → ℕ → ℕ → Tuple → Bool
holds k b id t = holds_ticket k b id t.side t.ticket

-- the two sides are one
abbrev pub same_side : Side → Side → Bool
same_side R R = true
same_side R S = false
same_side S R = false
same_side S S = true

-- the tuple is of that side
abbrev pub is_of : Side → Tuple → Bool
is_of side t = same_side side t.side

-- these are all shifts after `shift` up to and with the goal, each nearer to it by 1
abbrev pub IsChain : ℕ → ℕ → List ℕ → Type 0
IsChain shift goal [] = shift ≡ goal
IsChain shift goal (next ∷ shifts) = (shift ≢ goal) × (next ≡ next_step shift goal) × IsChain next goal shifts
