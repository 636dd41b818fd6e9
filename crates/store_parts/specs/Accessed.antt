-- The access by which a store looks for tuples: the numbers of tuples, and with which others they agree.
use Rattle.std.specs.Prelude.{◌≡◌, ℕ, ◌+◌, ◌*◌, ◌%◌, ◌^◌, ℤ, pos, ◌-ℤ◌, Bool, true, false, Option, Some, None, List, []}
use Rattle.std.specs.Prelude.{◌∷◌, option_map, not, ◌&&◌}
use Rattle.std.specs.Prelude.{option_and_then, if◌then◌else◌}
use Rattle.std.specs.Int.{int_wrapping_add, int_wrapping_mul, w128}
use Rattle.row_cells.specs.declared.table.Cell.{Cell}
use Rattle.row_cells.specs.declared.table.Side.{Side}
use Rattle.row_cells.specs.declared.table.Side.TheVariants.{R, S}
use Rattle.epoch_tags.specs.declared.tuple.Tuple.{Tuple}
use Rattle.theta_pred.specs.declared.agree.Access.{Access}
use Rattle.theta_pred.specs.declared.agree.Interval.{Interval}
use Rattle.theta_pred.specs.declared.agree.Range.{Range}
use Rattle.theta_pred.specs.declared.agree.Range.TheVariants as ranges
use Rattle.theta_pred.specs.declared.agree.Same.{Same}
use Rattle.theta_pred.specs.declared.agree.Same.TheVariants.{Texts, Sums, Alone}
use Rattle.theta_pred.specs.Accesses.{access_of, terms_of, do_agree}
use Rattle.theta_pred.specs.Formula.{Formula, Meaning}
use Rattle.theta_pred.specs.declared.atom.KeyAtom.{KeyAtom}
use Rattle.theta_pred.specs.Linear.{value_of}
use Rattle.theta_pred.specs.OneSided.{is_true_alone}
use Rattle.theta_pred.specs.TextAtoms.{text_at}
use Rattle.store_parts.specs.declared.places.Window.{Window}
use Rattle.store_parts.specs.Keyed.{value_at, least_at, greatest_at}
use Rattle.store_parts.specs.Stands.{clamped, hash_of, high_of, low_of, stand, stand_of, window, windows_of}

-- the number of a text that is begun with this number
abbrev pub number_from : ℕ → List ℕ → ℕ
number_from number [] = number
number_from number (byte ∷ bytes) = number_from ((number * 1099511628211 % 2 ^ 64 + byte) % 2 ^ 64) bytes

-- the number of a text; texts with one number need not be equal
abbrev pub number_of : List ℕ → ℕ
number_of text = number_from 0 text

-- whether two sides are one
abbrev pub is_at : Side → Side → Bool
is_at R R = true
is_at S S = true
is_at _ _ = false

-- the value of a row of this side in a test of rows of one side, `own`: none where it is a row of that side and fails
abbrev pub own_value : Side → Side → Formula → List Cell → Option ℤ
own_value side own f row = if is_at side own && not (is_true_alone side row f) then None else Some (pos 0)

-- the value of a row of this side in what is compared; none where a cell of a sum is no number, or the row fails a test
abbrev pub value_on : Side → Same → List Cell → Option ℤ
value_on R (Texts atom) row = Some (pos (number_of (text_at atom.r row)))
value_on S (Texts atom) row = Some (pos (number_of (text_at atom.s row)))
value_on R (Sums pair) row = option_map (λ v. v -ℤ pair.gap) (value_of pair.r_sum.parts row)
value_on S (Sums pair) row = value_of pair.s_sum.parts row
value_on side (Alone it) row = own_value side it.side it.test.formula row

-- a number with one value more
abbrev pub mixed : ℤ → ℤ → ℤ
mixed number value = int_wrapping_add w128 (int_wrapping_mul w128 number (pos 1099511628211)) value

-- the number of a row's values that is begun with this number; none where there is no value
abbrev pub numbered : Side → ℤ → List Same → List Cell → Option ℤ
numbered side number [] row = Some number
numbered side number (same ∷ sames) row =
    option_and_then (λ value. numbered side (mixed number value) sames row) (value_on side same row)

-- the number of all of a row's values: one value is its own
abbrev pub number_of_row : Side → List Same → List Cell → Option ℤ
number_of_row side [] row = Some (pos 0)
number_of_row side (same ∷ []) row = value_on side same row
number_of_row side (same ∷ other ∷ sames) row = numbered side (pos 0) (same ∷ other ∷ sames) row

-- ---- by what numbers tuples stand in the index, and between which a tuple asks for others

-- where the interval of a tuple of this side begins, beside the value of the lower bound's sum
abbrev pub first_at : Interval → Side → ℤ → ℤ
first_at interval side v = clamped (low_of (least_at side interval.lower v))

-- and where it ends, beside the value of the upper bound's
abbrev pub last_at : Interval → Side → ℤ → ℤ
last_at interval side w = clamped (high_of (greatest_at side interval.upper w))

-- where a value that may be none stands
abbrev pub value_stand : ℤ → Option ℤ → Option ℤ
value_stand hash value = option_map (stand hash (pos 0)) value

-- where the interval stands that two sums of a tuple of this side bound
abbrev pub interval_stand : ℤ → Interval → Side → Option ℤ → Option ℤ → Option ℤ
interval_stand hash interval side (Some v) (Some w) =
    stand_of hash (first_at interval side v) (last_at interval side w)
interval_stand hash interval side _ _ = None

-- where a tuple of this side stands, by its number of agreements: without a range, there
abbrev pub stand_at : Option Range → Side → ℤ → Tuple → Option ℤ
stand_at None side number t = Some number
stand_at (Some (ranges.Span atom)) side number t = value_stand (hash_of number) (value_at atom side t)
stand_at (Some (ranges.Interval interval)) side number t =
    if is_at side interval.points then value_stand (hash_of number) (value_at interval.lower side t)
    else interval_stand (hash_of number) interval side (value_at interval.lower side t)
    (value_at interval.upper side t)

-- by what number a tuple of this side stands in the index; none where it stands nowhere
abbrev pub number_at : Access → Side → Tuple → Option ℤ
number_at access side t =
    option_and_then (λ number. stand_at access.range side number t) (number_of_row side access.sames t.cells)

-- from the least to the greatest value with which an atom is true, beside a value of this side
abbrev pub span_windows : ℤ → KeyAtom → Side → Option ℤ → List Window
span_windows hash atom side None = []
span_windows hash atom side (Some v) =
    window hash (pos 0) (low_of (least_at side atom v)) (high_of (greatest_at side atom v)) ∷ []

-- where the intervals stand that hold this point
abbrev pub point_windows : ℤ → Option ℤ → List Window
point_windows hash None = []
point_windows hash (Some x) = windows_of hash (clamped x)

-- from where an interval begins to where it ends
abbrev pub interval_windows : ℤ → Interval → Side → Option ℤ → Option ℤ → List Window
interval_windows hash interval side (Some v) (Some w) =
    window hash (pos 0) (low_of (least_at side interval.lower v)) (high_of (greatest_at side interval.upper w)) ∷ []
interval_windows hash interval side _ _ = []

-- between which numbers a tuple of this side asks for those of the other, by its number of agreements
abbrev pub windows_at : Option Range → Side → ℤ → Tuple → List Window
windows_at None side number t = record { from = number; to = number } ∷ []
windows_at (Some (ranges.Span atom)) side number t = span_windows (hash_of number) atom side (value_at atom side t)
windows_at (Some (ranges.Interval interval)) side number t =
    if is_at side interval.points then point_windows (hash_of number) (value_at interval.lower side t)
    else interval_windows (hash_of number) interval side (value_at interval.lower side t)
    (value_at interval.upper side t)

-- the same, where it has one
abbrev pub windows_with : Option Range → Side → Option ℤ → Tuple → List Window
windows_with range side None t = []
windows_with range side (Some number) t = windows_at range side number t

-- between which numbers a tuple of this side asks for those of the other
abbrev pub windows_on : Access → Side → Tuple → List Window
windows_on access side t = windows_with access.range side (number_of_row side access.sames t.cells) t

-- between which numbers a tuple that probes asks for others
abbrev pub asked : Access → Tuple → List Window
asked access t = windows_on access t.side t

-- ---- which tuples agree

-- whether a tuple of this side and one of the other agree in all
abbrev pub is_admitted_at : Side → Access → Tuple → Tuple → Bool
is_admitted_at R access t other = do_agree (terms_of access) t.cells other.cells
is_admitted_at S access t other = do_agree (terms_of access) other.cells t.cells

-- whether a tuple that probes and a stored one do
abbrev pub is_admitted : Access → Tuple → Tuple → Bool
is_admitted access t other = is_admitted_at t.side access t other

-- whether tuples of one number agree in all, without being compared: the number is the one value in which rows agree,
-- and no hash
abbrev pub is_exact_by : List Same → Option Range → Bool
is_exact_by (Sums pair ∷ []) None = true
is_exact_by _ _ = false

abbrev pub is_exact : Access → Bool
is_exact access = is_exact_by access.sames access.range

-- an access that a store has is the predicate's own
abbrev pub IsOwnAccess : Meaning → Option Access → Type 0
IsOwnAccess theta access = (own : Access) → access ≡ Some own → access_of theta.formula ≡ Some (terms_of own)
