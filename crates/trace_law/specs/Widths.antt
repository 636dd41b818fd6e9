-- The widths of the rows that messages carry.
use Rattle.std.specs.Prelude.{⊤}
use Rattle.epoch_tags.specs.declared.tuple.Tuple.{Tuple}
use Rattle.epoch_tags.specs.declared.message.ToJoiner.{ToJoiner}
use Rattle.epoch_tags.specs.declared.message.ToJoiner.TheVariants.{Tup, Turn, End, Moved, MovedEnd}
use Rattle.theta_pred.specs.Formula.{Meaning}
use Rattle.theta_pred.specs.Truth.{IsRowOf}

-- the tuple has a cell for each column of its side
abbrev pub IsRow : Meaning → Tuple → Type 0
IsRow theta t = IsRowOf theta t.side t.cells

-- so has the tuple that a message carries, if it carries one
abbrev pub HasRow : Meaning → ToJoiner → Type 0
HasRow theta (Tup t) = IsRow theta t
HasRow theta (Turn epoch shift) = ⊤
HasRow theta End = ⊤
HasRow theta (Moved epoch t) = IsRow theta t
HasRow theta (MovedEnd epoch) = ⊤
