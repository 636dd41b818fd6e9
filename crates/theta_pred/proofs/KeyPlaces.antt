-- A key atom's columns lie in the rows.
use Rattle.std.proofs.Common.{◌≡◌, ℕ, ◌<◌, ◌≤◌, Bool, not, List, [], ◌∷◌, ◌++◌, length, length-append, ap, arith}
use Rattle.std.specs.Prelude.{map}
use Rattle.std.proofs.lemmas.List.{length-map}
use Rattle.std.proofs.lemmas.List.Elements.{All-append, All-map, All-nil}
use Rattle.row_cells.specs.declared.table.Side.{Side}
use Rattle.row_cells.specs.declared.table.Side.TheVariants.{R, S}
use Rattle.theta_pred.specs.declared.atom.Part.{Part}
use Rattle.theta_pred.specs.declared.tree.SignedTerm.{SignedTerm}
use Rattle.theta_pred.specs.declared.tree.Number.{Number}
use Rattle.theta_pred.specs.declared.tree.Number.TheVariants as numbers
use Rattle.theta_pred.specs.Keys.{number_columns, flipped, columns_of}
use Rattle.theta_pred.specs.Linear.{AreBelow}
use Rattle.theta_pred.specs.Numeric.{number_places, place_if_on}
use Rattle.theta_pred.specs.Sound.{AreWithin, IsNumberWithin}
use Rattle.theta_pred.specs.Sums.{of_side}
use Rattle.theta_pred.proofs.NumericPlaces.{number_places-within}

abbrev IsBelow : ℕ → Part → Type 0
IsBelow width part = part.column < width

number_columns-below : (width_r width_s : ℕ) (side : Side) (minus : Bool) (number : Number)
    → IsNumberWithin width_r width_s number
    → AreBelow (of_side width_r width_s side) (number_columns side minus number)
number_columns-below width_r width_s side minus number within =
    All-map (IsBelow (of_side width_r width_s side)) (λ place. record { minus = minus; column = place })
    (number_places side number)
    (number_places-within width_r width_s side number within)

-- where the columns of a sum are there, those of a side lie in rows of that side's width
pub columns_of-below : (width_r width_s : ℕ) (side : Side) (turned : Bool) (terms : List SignedTerm)
    → AreWithin width_r width_s terms
    → AreBelow (of_side width_r width_s side) (columns_of side turned terms)
columns_of-below width_r width_s side turned [] within = All-nil (IsBelow (of_side width_r width_s side))
columns_of-below width_r width_s side turned (term ∷ terms) within =
    All-append (IsBelow (of_side width_r width_s side)) (number_columns side (flipped turned term.minus) term.number) _
    (number_columns-below width_r width_s side (flipped turned term.minus) term.number within.0)
    (columns_of-below width_r width_s side turned terms within.1)

-- the columns of a difference, with either sign
pub difference-below : (width_r width_s : ℕ) (side : Side) (turned : Bool) (left right : List SignedTerm)
    → AreWithin width_r width_s left → AreWithin width_r width_s right
    → AreBelow (of_side width_r width_s side) (columns_of side turned left ++ columns_of side (not turned) right)
difference-below width_r width_s side turned left right in_left in_right =
    All-append (IsBelow (of_side width_r width_s side)) (columns_of side turned left) _
    (columns_of-below width_r width_s side turned left in_left)
    (columns_of-below width_r width_s side (not turned) right in_right)

-- ---- how many columns there are

number_places-few : (side : Side) (number : Number) → length (number_places side number) ≤ 1
number_places-few side (numbers.Given value) = omega arith
number_places-few side (numbers.Cell column) = place_if_on-few side column.side column.place
  where
    place_if_on-few : (side on : Side) (place : ℕ) → length (place_if_on side on place) ≤ 1
    place_if_on-few R R place = omega arith
    place_if_on-few S S place = omega arith
    place_if_on-few R S place = omega arith
    place_if_on-few S R place = omega arith

columns_of-few : (side : Side) (turned : Bool) (terms : List SignedTerm)
    → length (columns_of side turned terms) ≤ length terms
columns_of-few side turned [] = omega arith
columns_of-few side turned (term ∷ terms) =
    let part : ℕ → Part = λ place. record { minus = flipped turned term.minus; column = place } in
    let places = number_places side term.number in
    let one = length-map places part in
    let few = number_places-few side term.number in
    let both = length-append (map part places) (columns_of side turned terms) in
    let rest = columns_of-few side turned terms in
    omega (arith, one, few, both, rest)

-- two sums of 16 terms have 32 columns at most
pub difference-few : (side : Side) (turned : Bool) (left right : List SignedTerm) (parts : List Part) → length left ≤ 16
    → length right ≤ 16
    → parts ≡ columns_of side turned left ++ columns_of side (not turned) right → length parts ≤ 32
difference-few side turned left right parts short_left short_right is =
    let all = ap length is in
    let both = length-append (columns_of side turned left) (columns_of side (not turned) right) in
    let few_left = columns_of-few side turned left in
    let few_right = columns_of-few side (not turned) right in
    omega (arith, all, both, few_left, few_right)
