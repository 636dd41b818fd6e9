-- What the stores of a grown grid are made of.
use Rattle.std.specs.Prelude.{◌≡◌, ℕ, ◌+◌, ◌-◌, ◌*◌, ◌^◌, ◌<◌, Option, Some, List, [], ◌++◌, map, filter, length}
use Rattle.std.specs.Prelude.{slice_get, slice_index_or}
use Rattle.std.specs.List.Sorted.{IsNonDecreasingBy}
use Rattle.row_cells.specs.declared.table.Side.{Side}
use Rattle.row_cells.specs.declared.table.Side.TheVariants.{R, S}
use Rattle.row_cells.specs.Lists.{SameBag, gather}
use Rattle.epoch_tags.specs.declared.tuple.Tuple.{Tuple}
use Rattle.grid_map.specs.declared.shape.Shape.{Shape}
use Rattle.migration_plan.specs.Steps.{is_of}
use Rattle.theta_pred.specs.Formula.{Meaning}
use Rattle.store_parts.specs.Stored.{Stored, kept_of}
use Rattle.joiner_core.specs.State.{tuples_of, IsKeyOf}
use Rattle.elastic_grow.specs.Children.{child}

-- ---- one store with all rows

-- the tuples of one side in the store at this place
abbrev pub side_at : List Stored → Side → ℕ → List Tuple
side_at stores side i = filter (is_of side) (slice_index_or (map tuples_of stores) i [])

-- those of R in the stores of the first column, which together have each once, and those of S in the first row's
abbrev pub all_of : ℕ → ℕ → List Stored → List Tuple
all_of k b stores =
    gather (2 ^ (k - b)) (λ row. side_at stores R (row * 2 ^ b))
    ++ gather (2 ^ b) (λ column. side_at stores S (column * 1))

-- the store with these tuples more, each behind those of its side
abbrev pub with_all : Stored → List Tuple → Stored
with_all store tuples = record store {
  r = store.r ++ filter (is_of R) tuples;
  s = store.s ++ filter (is_of S) tuples;
}

-- its tuples stand by their rows' numbers, those of R before those of S
pub record IsByIndex (store : Stored) : Type 0 where
  pub r : IsNonDecreasingBy (λ (t : Tuple). t.index) store.r
  pub s : IsNonDecreasingBy (λ (t : Tuple). t.index) store.s

-- a store with the predicate's key and all rows that stores of a grid at shift b have, by their numbers
pub record IsWhole (theta : Meaning) (k b : ℕ) (stores : List Stored) (whole : Stored) : Type 0 where
  pub tuples : SameBag (tuples_of whole) (all_of k b stores)
  pub order : IsByIndex whole
  pub key : IsKeyOf theta whole.key

-- ---- the stores of a grid

-- so many stores, each with what its joiner holds of the store that `from` has for it
pub record AreKept (shape : Shape) (from : ℕ → Option Stored) (count : ℕ) (stores : List Stored) : Type 0 where
  pub all : length stores ≡ count
  pub each : (j : ℕ) (store : Stored) → slice_get stores j ≡ Some store
      → (own : Stored) × (from j ≡ Some own) × (store ≡ kept_of shape j own)

-- the store of each child is the kept copy of its parent's
abbrev pub AreKeptCopies : ℕ → ℕ → List Stored → List Stored → Type 0
AreKeptCopies k b old new =
    (id a d : ℕ) (store : Stored) → slice_get old id ≡ Some store → a < 2 → d < 2
    → slice_get new (child b id a d)
    ≡ Some (kept_of (record { k = k + 2; shift = b + 1 }) (child b id a d) store)
