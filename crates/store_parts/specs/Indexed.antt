-- The index of a side's tuples.
use Rattle.std.specs.Prelude.{ℕ, ℤ, Option, Some, None, List, map, All}
use Rattle.row_cells.specs.declared.table.Side.{Side}
use Rattle.epoch_tags.specs.declared.tuple.Tuple.{Tuple}
use Rattle.theta_pred.specs.declared.atom.KeyAtom.{KeyAtom}
use Rattle.theta_pred.specs.declared.agree.Access.{Access}
use Rattle.store_parts.specs.Accessed.{number_at}
use Rattle.store_parts.specs.Keyed.{value_at, FitsKeyAt}
use Rattle.store_parts.specs.Places.{IsMapOf}

-- by what number a tuple of this side stands in the index: that of the access; where there is none, the key's value
abbrev pub indexed_at : Option KeyAtom → Option Access → Side → Tuple → Option ℤ
indexed_at key (Some access) side t = number_at access side t
indexed_at (Some key) None side t = value_at key side t
indexed_at None None side t = None

-- the numbers of tuples of this side
abbrev pub numbers_at : Access → Side → List Tuple → List (Option ℤ)
numbers_at access side ts = map (number_at access side) ts

-- the index of a side's tuples, which have the key's columns
pub record IsIndexed (key : Option KeyAtom) (access : Option Access) (side : Side) (ts : List Tuple)
    (entries : List (ℤ × List ℕ)) : Type 0 where
  pub index : IsMapOf (map (indexed_at key access side) ts) entries
  pub columns : All (FitsKeyAt key side) ts
