-- A store, as its callers see it.
use Rattle.std.specs.Prelude.{◌≡◌, ℕ, Option, List, [], ◌∷◌, ◌++◌, filter, All}
use Rattle.row_cells.specs.declared.table.Side.{Side}
use Rattle.row_cells.specs.declared.table.Side.TheVariants.{R, S}
use Rattle.epoch_tags.specs.declared.tuple.Tuple.{Tuple}
use Rattle.grid_map.specs.declared.shape.Shape.{Shape}
use Rattle.migration_plan.specs.Steps.{holds}
use Rattle.theta_pred.specs.Formula.{Meaning}
use Rattle.theta_pred.specs.declared.atom.KeyAtom.{KeyAtom}
use Rattle.theta_pred.specs.declared.agree.Access.{Access}
use Rattle.store_parts.specs.Matches.{other_side, HasWidth}

-- the key and the access that it was made with, and the tuples of each side in the order of adding
pub record Stored : Type 0 where
  pub key : Option KeyAtom
  pub access : Option Access
  pub r : List Tuple
  pub s : List Tuple

-- the tuples of a side
abbrev pub side_of : Stored → Side → List Tuple
side_of store R = store.r
side_of store S = store.s

-- the tuples that a probe with this one may find
abbrev pub others_of : Stored → Tuple → List Tuple
others_of store t = side_of store (other_side t.side)

-- the tuple is the last of this side
abbrev pub with_tuple_at : Side → Stored → Tuple → Stored
with_tuple_at R store t = record store { r = store.r ++ t ∷ [] }
with_tuple_at S store t = record store { s = store.s ++ t ∷ [] }

-- the tuple is the last of its side
abbrev pub with_tuple : Stored → Tuple → Stored
with_tuple store t = with_tuple_at t.side store t

-- the tuples that the joiner holds in a grid of this shape
abbrev pub kept_of : Shape → ℕ → Stored → Stored
kept_of shape id store = record store {
  r = filter (holds shape.k shape.shift id) store.r;
  s = filter (holds shape.k shape.shift id) store.s;
}

-- each tuple stands in the list of its side
pub record AreSided (rs ss : List Tuple) : Type 0 where
  pub r : All (λ t. t.side ≡ R) rs
  pub s : All (λ t. t.side ≡ S) ss

-- each tuple has a cell for each column of its side
pub record HaveWidths (theta : Meaning) (store : Stored) : Type 0 where
  pub r : All (HasWidth theta R) store.r
  pub s : All (HasWidth theta S) store.s
