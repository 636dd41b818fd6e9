-- What a probe finds.
use Rattle.std.specs.Prelude.{◌≡◌, ◌==◌, Bool, true, ◌&&◌, List, ◌++◌, map, filter}
use Rattle.std.specs.Prelude.{IsTrue}
use Rattle.std.specs.List as lists
use Rattle.row_cells.specs.declared.table.Side.{Side}
use Rattle.row_cells.specs.declared.table.Side.TheVariants.{R, S}
use Rattle.row_cells.specs.Lists.{IsPrefix}
use Rattle.epoch_tags.specs.declared.tuple.Tuple.{Tuple}
use Rattle.epoch_tags.specs.declared.tuple.Pair.{Pair}
use Rattle.theta_pred.specs.Formula.{Meaning}
use Rattle.theta_pred.specs.Truth.{holds, IsRowOf}
use Rattle.store_parts.specs.declared.by_stamp.Which.{Which}
use Rattle.store_parts.specs.declared.by_stamp.Which.TheVariants.{All, OnlyStamp}

-- the side that isn't this one
abbrev pub other_side : Side → Side
other_side R = S
other_side S = R

-- the tuple has a cell for each column of this side
abbrev pub HasWidth : Meaning → Side → Tuple → Type 0
HasWidth theta side t = IsRowOf theta side t.cells

-- whether the probe looks at the stored tuple
abbrev pub is_named : Which → Tuple → Bool
is_named All other = true
is_named (OnlyStamp stamp) other = other.stamp == stamp

-- whether the predicate is true of a tuple of this side and one of the other
abbrev pub does_match_at : Side → Meaning → Tuple → Tuple → Bool
does_match_at R theta t other = holds theta t.cells other.cells
does_match_at S theta t other = holds theta other.cells t.cells

-- whether the predicate is true of two tuples of different sides
abbrev pub does_match : Meaning → Tuple → Tuple → Bool
does_match theta t other = does_match_at t.side theta t other

-- the predicate is true of a tuple and each of these of the other side
abbrev pub DoMatch : Meaning → Tuple → List Tuple → Type 0
DoMatch theta t others = lists.All (λ other. IsTrue (does_match theta t other)) others

-- the pair of a tuple of this side and one of the other
abbrev pub pair_at : Side → Tuple → Tuple → Pair
pair_at R t other = record { i = t.index; j = other.index }
pair_at S t other = record { i = other.index; j = t.index }

-- the pair that the two make, R first
abbrev pub pair_of : Tuple → Tuple → Pair
pair_of t other = pair_at t.side t other

-- whether a probe finds the stored tuple
abbrev pub is_found : Meaning → Tuple → Which → Tuple → Bool
is_found theta t which other = does_match theta t other && is_named which other

-- the pairs of a tuple with those of the others that match and are named, in their order
abbrev pub matches : Meaning → Tuple → Which → List Tuple → List Pair
matches theta t which others = map (pair_of t) (filter (is_found theta t which) others)

-- a front of the whole was appended
pub record AppendsFront {X : Type 0} (old new whole : List X) : Type 0 where
  pub front : List X
  pub appended : new ≡ old ++ front
  pub prefix : IsPrefix front whole
