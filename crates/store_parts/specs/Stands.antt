-- Where values stand in an ordered index: those of one hash and one class together, in their order.
use Rattle.std.specs.Prelude.{ℕ, zero, suc, ◌+◌, ◌^◌, ℤ, pos, neg_ℤ, ◌+ℤ◌, ◌-ℤ◌, ◌*ℤ◌, ◌≤ℤ◌, int_le, int_rem, Option}
use Rattle.std.specs.Prelude.{Some, None, List, [], ◌∷◌}
use Rattle.std.specs.Prelude.{if◌then◌else◌}
use Rattle.store_parts.specs.declared.places.Window.{Window}

-- how far from 0 a value stands at most
abbrev pub edge : ℤ
edge = pos (2 ^ 69)

-- a value, or the edge that it lies beyond
abbrev pub clamped : ℤ → ℤ
clamped v = if int_le v (neg_ℤ edge) then neg_ℤ edge else if int_le v edge then v else edge

-- what is left of a number of equalities where a range stands beside them; numbers with one hash need not be one
abbrev pub hash_of : ℤ → ℤ
hash_of number = int_rem number (pos (2 ^ 48))

-- where a value of this hash and class stands
abbrev pub stand : ℤ → ℤ → ℤ → ℤ
stand hash class v = (hash *ℤ pos 128 +ℤ class) *ℤ pos (2 ^ 71) +ℤ clamped v

-- a lower bound; where there is none, the least value that there is
abbrev pub low_of : Option ℤ → ℤ
low_of None = neg_ℤ edge
low_of (Some v) = v

-- an upper bound; where there is none, the greatest value that there is
abbrev pub high_of : Option ℤ → ℤ
high_of None = edge
high_of (Some v) = v

-- from where one value stands up to where another does
abbrev pub window : ℤ → ℤ → ℤ → ℤ → Window
window hash class v w = record { from = stand hash class v; to = stand hash class w }

-- ---- intervals, by classes of their lengths: each class takes in lengths sixteen times those of the one before it

-- a length that a class can reach
pub record IsMost (most : ℤ) : Type 0 where
  pub above : pos 0 ≤ℤ most
  pub below : most ≤ℤ pos (2 ^ 75)

-- the greatest length of the next class
abbrev pub next_most : ℤ → ℤ
next_most most = if int_le most (pos (2 ^ 70)) then pos 16 *ℤ most +ℤ pos 15 else most

-- the class of a length, of this one and so many after it
abbrev pub class_from : ℕ → ℕ → ℤ → ℤ → ℕ
class_from zero class most length = class
class_from (suc left) class most length =
    if int_le length most then class else class_from left (class + 1) (next_most most) length

-- the class of a length
unfoldable pub class_of : ℤ → ℕ
class_of length = class_from 18 0 (pos 0) length

-- where an interval stands: by its class, where it begins; one that ends before it begins stands nowhere
abbrev pub stand_of : ℤ → ℤ → ℤ → Option ℤ
stand_of hash first last =
    if int_le first last then Some (stand hash (pos (class_of (last -ℤ first))) first) else None

-- where the intervals that hold a point can stand, of this class and so many after it
abbrev pub windows_from : ℕ → ℤ → ℕ → ℤ → ℤ → List Window
windows_from zero hash class most x = window hash (pos class) (x -ℤ most) x ∷ []
windows_from (suc left) hash class most x =
    window hash (pos class) (x -ℤ most) x ∷ windows_from left hash (class + 1) (next_most most) x

-- where the intervals that hold a point can stand
unfoldable pub windows_of : ℤ → ℤ → List Window
windows_of hash x = windows_from 18 hash 0 (pos 0) x
