-- The key of a store: the values of its tuples, and what a probe by the key is left to evaluate.
use Rattle.std.specs.Prelude.{◌≡◌, ℕ, ℤ, ◌+ℤ◌, ◌-ℤ◌, Bool, Option, Some, None, List, length, map, filter_map, slice_get}
use Rattle.std.specs.Prelude.{option_map, ⊤}
use Rattle.row_cells.specs.declared.table.Side.{Side}
use Rattle.row_cells.specs.declared.table.Side.TheVariants.{R, S}
use Rattle.epoch_tags.specs.declared.tuple.Tuple.{Tuple}
use Rattle.theta_pred.specs.declared.atom.KeyAtom.{KeyAtom}
use Rattle.theta_pred.specs.declared.atom.Part.{Part}
use Rattle.theta_pred.specs.Formula.{Meaning}
use Rattle.theta_pred.specs.Keys.{Atom, atom_of, is_atom_true, key_of}
use Rattle.theta_pred.specs.Linear.{value_of, AreBelow}

-- the columns of the key's sum of a side
abbrev pub sum_at : Side → KeyAtom → List Part
sum_at R key = key.r_sum.parts
sum_at S key = key.s_sum.parts

-- the value of a tuple of this side, where each cell of the sum is a number
abbrev pub value_at : KeyAtom → Side → Tuple → Option ℤ
value_at key side t = value_of (sum_at side key) t.cells

-- the values of tuples of this side
abbrev pub values_at : KeyAtom → Side → List Tuple → List (Option ℤ)
values_at key side ts = map (value_at key side) ts

-- whether the key atom is true of a tuple of this side and one of the other
abbrev pub is_key_true_at : Side → KeyAtom → Tuple → Tuple → Bool
is_key_true_at R key t other = is_atom_true (atom_of key) t.cells other.cells
is_key_true_at S key t other = is_atom_true (atom_of key) other.cells t.cells

-- whether the key atom is true of a tuple that probes and a stored one
abbrev pub is_key_true : KeyAtom → Tuple → Tuple → Bool
is_key_true key t other = is_key_true_at t.side key t other

-- the columns of the key's sum of this side lie in the row
abbrev pub HasColumns : KeyAtom → Side → Tuple → Type 0
HasColumns key side t = AreBelow (length t.cells) (sum_at side key)

-- the same, where there is a key
abbrev pub FitsKeyAt : Option KeyAtom → Side → Tuple → Type 0
FitsKeyAt None side t = ⊤
FitsKeyAt (Some key) side t = HasColumns key side t

-- where the store has a key, the columns of its sum of the tuple's side lie in the row
abbrev pub FitsKey : Option KeyAtom → Tuple → Type 0
FitsKey key t = FitsKeyAt key t.side t

-- a key that a store has is the predicate's own
abbrev pub IsOwn : Meaning → Option KeyAtom → Type 0
IsOwn theta key = (atom : Atom) → option_map atom_of key ≡ Some atom → key_of theta.formula ≡ Some atom

-- the tuples at these places
abbrev pub at_places : {X : Type 0} → List X → List ℕ → List X
at_places xs places = filter_map (slice_get xs) places

-- the least value of the other side with which the key atom is true, beside a value of this side
abbrev pub least_at : Side → KeyAtom → ℤ → Option ℤ
least_at R key v = option_map (λ high. v -ℤ high) key.high
least_at S key v = option_map (λ low. v +ℤ low) key.low

-- and the greatest
abbrev pub greatest_at : Side → KeyAtom → ℤ → Option ℤ
greatest_at R key v = option_map (λ low. v -ℤ low) key.low
greatest_at S key v = option_map (λ high. v +ℤ high) key.high
