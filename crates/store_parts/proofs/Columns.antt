-- The key's columns lie in rows of the predicate's widths.
use Rattle.std.proofs.Common.{◌≡◌, Option, Some, None, refl, sym, subst}
use Rattle.row_cells.specs.declared.table.Side.{Side}
use Rattle.row_cells.specs.declared.table.Side.TheVariants.{R, S}
use Rattle.epoch_tags.specs.declared.tuple.Tuple.{Tuple}
use Rattle.theta_pred.specs.declared.atom.KeyAtom.{KeyAtom}
use Rattle.theta_pred.specs.Formula.{Meaning}
use Rattle.theta_pred.specs.Keys.{Atom, atom_of, key_of, IsKeyOf}
use Rattle.theta_pred.specs.Linear.{AreBelow}
use Rattle.store_parts.specs.Keyed.{HasColumns, FitsKeyAt, FitsKey, IsOwn}
use Rattle.store_parts.specs.Matches.{HasWidth}

-- a row of the predicate's width has the columns of the key atom's sum of its side
pub HasColumns-width : (side : Side) (theta : Meaning) (key : KeyAtom) (t : Tuple) → IsKeyOf theta (atom_of key)
    → HasWidth theta side t → HasColumns key side t
HasColumns-width R theta key t law width = subst (λ n. AreBelow n key.r_sum.parts) (sym width) law.lies.r
HasColumns-width S theta key t law width = subst (λ n. AreBelow n key.s_sum.parts) (sym width) law.lies.s

FitsKeyAt-width : (side : Side) (theta : Meaning) (key : Option KeyAtom) (t : Tuple)
    → ((atom : Atom) → key_of theta.formula ≡ Some atom → IsKeyOf theta atom)
    → IsOwn theta key → HasWidth theta side t → FitsKeyAt key side t
FitsKeyAt-width side theta None t law own width = tt
FitsKeyAt-width side theta (Some key) t law own width = HasColumns-width side theta key t
    (law (atom_of key) (own (atom_of key) refl)) width

-- a row of the predicate's width fits the predicate's own key
pub FitsKey-width : (theta : Meaning) (key : Option KeyAtom) (t : Tuple)
    → ((atom : Atom) → key_of theta.formula ≡ Some atom → IsKeyOf theta atom)
    → IsOwn theta key → HasWidth theta t.side t → FitsKey key t
FitsKey-width theta key t law own width = FitsKeyAt-width t.side theta key t law own width
