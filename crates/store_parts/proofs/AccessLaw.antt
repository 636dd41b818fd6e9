-- A stored tuple that agrees with a tuple in all of an access stands where that one asks.
use Rattle.std.proofs.Common.{◌≡◌, ℤ, pos, Bool, true, false, cond, not, ◌&&◌, Option, Some, None, List, refl}
use Rattle.std.proofs.Common.{sym, ap, subst, ◌∙◌}
use Rattle.std.specs.Prelude.{option_map, option_and_then}
use Rattle.std.proofs.lemmas.Bool.{false≢true}
use Rattle.row_cells.specs.declared.table.Side.{Side}
use Rattle.row_cells.specs.declared.table.Side.TheVariants.{R, S}
use Rattle.epoch_tags.specs.declared.tuple.Tuple.{Tuple}
use Rattle.theta_pred.specs.declared.agree.Access.{Access}
use Rattle.theta_pred.specs.declared.agree.Interval.{Interval}
use Rattle.theta_pred.specs.declared.agree.Range.{Range}
use Rattle.theta_pred.specs.declared.agree.Range.TheVariants as ranges
use Rattle.theta_pred.specs.declared.atom.KeyAtom.{KeyAtom}
use Rattle.theta_pred.specs.Accesses.{agreements, agree_in_all, is_in_range, reach_of}
use Rattle.theta_pred.specs.Keys.{is_from, is_up_to, atom_of, parts_on}
use Rattle.theta_pred.specs.Linear.{value_of}
use Rattle.theta_pred.proofs.KeyMembers.{and_left, and_right}
use Rattle.store_parts.specs.declared.places.Window.{Window}
use Rattle.store_parts.specs.Accessed.{asked, interval_stand, interval_windows, is_admitted, is_admitted_at}
use Rattle.store_parts.specs.Accessed.{is_at, number_at, number_of_row, point_windows, span_windows, stand_at}
use Rattle.store_parts.specs.Accessed.{value_stand, windows_at, windows_on, windows_with}
use Rattle.store_parts.specs.Keyed.{is_key_true_at, value_at, least_at, greatest_at}
use Rattle.store_parts.specs.Matches.{other_side}
use Rattle.store_parts.specs.Places.{lies, lies_in, AreApart}
use Rattle.store_parts.specs.Stands.{clamped, hash_of}
use Rattle.store_parts.proofs.Keys.{band_at, no_key_at}
use Rattle.store_parts.proofs.SameNumbers.{same_rows, lies_self, AreOne}
use Rattle.store_parts.proofs.Windows.{interval_lies, one_apart, or_left, stand_lies, windows_apart}

-- ---- what an atom that is true says of the other value

-- beside a value of this side the other one is there and lies between those with which the atom is true
abbrev Bounds : KeyAtom → Side → Option ℤ → Option ℤ → Type 0
Bounds key side a b = (v : ℤ) × (a ≡ Some v) × (lies (least_at side key v) (greatest_at side key v) b ≡ true)

bounds_by : (a : Option ℤ) (key : KeyAtom) (side : Side) (t other : Tuple) → value_at key side t ≡ a
    → is_key_true_at side key t other ≡ true → Bounds key side a (value_at key (other_side side) other)
bounds_by None key side t other is holds = absurd (false≢true (sym (no_key_at side key t other is) ∙ holds))
bounds_by (Some v) key side t other is holds = (v, refl, band_at side key t other v is ∙ holds)

bounds : (key : KeyAtom) (side : Side) (t other : Tuple) → is_key_true_at side key t other ≡ true
    → Bounds key side (value_at key side t) (value_at key (other_side side) other)
bounds key side t other holds = bounds_by (value_at key side t) key side t other refl holds

-- ---- a span

span_stands : (hash : ℤ) (key : KeyAtom) (side : Side) (a b : Option ℤ) → Bounds key side a b
    → lies_in (span_windows hash key side a) (value_stand hash b) ≡ true
span_stands hash key side a None bound = absurd (false≢true bound.2)
span_stands hash key side a (Some w) bound =
    let v = bound.0 in
    ap (λ o. lies_in (span_windows hash key side o) (value_stand hash (Some w))) bound.1
    ∙ or_left _ _ (stand_lies hash (pos 0) w (least_at side key v) (greatest_at side key v) bound.2)

-- ---- an interval

-- the value of the point lies from a bound of the lower sum's to one of the upper's
between : (interval : Interval) (side : Side) (v w x : ℤ)
    → lies (least_at side interval.lower v) (greatest_at side interval.lower v) (Some x) ≡ true
    → lies (least_at side interval.upper w) (greatest_at side interval.upper w) (Some x) ≡ true
    → lies (least_at side interval.lower v) (greatest_at side interval.upper w) (Some x) ≡ true
between interval side v w x low high =
    let from = and_left (is_from (least_at side interval.lower v) x) (is_up_to (greatest_at side interval.lower v) x)
    low in
    let to = and_right (is_from (least_at side interval.upper w) x) (is_up_to (greatest_at side interval.upper w) x)
    high
    in
    both_true (is_from (least_at side interval.lower v) x) (is_up_to (greatest_at side interval.upper w) x) from to
  where
    both_true : (a b : Bool) → a ≡ true → b ≡ true → (a && b) ≡ true
    both_true a b p q = cc

-- a point that an interval of this side asks for
point_stands : (hash : ℤ) (interval : Interval) (side : Side) (a b x : Option ℤ) → Bounds interval.lower side a x
    → Bounds interval.upper side b x
    → lies_in (interval_windows hash interval side a b) (value_stand hash x) ≡ true
point_stands hash interval side a b None low high = absurd (false≢true low.2)
point_stands hash interval side a b (Some x) low high =
    ap (λ o. lies_in (interval_windows hash interval side o b) (value_stand hash (Some x))) low.1
    ∙ ap (λ o. lies_in (interval_windows hash interval side (Some low.0) o) (value_stand hash (Some x))) high.1
    ∙ or_left _ _ (stand_lies hash (pos 0) x (least_at side interval.lower low.0)
    (greatest_at side interval.upper high.0) (between interval side low.0 high.0 x low.2 high.2))

-- an interval of this side that a point asks for
interval_stands : (hash : ℤ) (interval : Interval) (side : Side) (a b x : Option ℤ) → Bounds interval.lower side a x
    → Bounds interval.upper side b x
    → lies_in (point_windows hash x) (interval_stand hash interval side a b) ≡ true
interval_stands hash interval side a b None low high = absurd (false≢true low.2)
interval_stands hash interval side a b (Some x) low high =
    ap (λ o. lies_in (point_windows hash (Some x)) (interval_stand hash interval side o b)) low.1
    ∙ ap (λ o. lies_in (point_windows hash (Some x)) (interval_stand hash interval side (Some low.0) o)) high.1
    ∙ interval_lies hash x (least_at side interval.lower low.0) (greatest_at side interval.upper high.0)
    (between interval side low.0 high.0 x low.2 high.2)

turned : (side : Side) (key : KeyAtom) (t other : Tuple) → is_key_true_at side key t other ≡ true
    → is_key_true_at (other_side side) key other t ≡ true
turned R key t other is = is
turned S key t other is = is

back : (side : Side) → other_side (other_side side) ≡ side
back R = refl
back S = refl

-- the sum of the points is one
one_sum : (interval : Interval) (side : Side) (t : Tuple) → is_at side interval.points ≡ true
    → value_at interval.upper side t ≡ value_at interval.lower side t
one_sum interval side t here = at_side side interval.points here (sym interval.same)
  where
    at_side : (side points : Side) → is_at side points ≡ true
        → parts_on points (atom_of interval.upper) ≡ parts_on points (atom_of interval.lower)
        → value_at interval.upper side t ≡ value_at interval.lower side t
    at_side R R here same = ap (λ ps. value_of ps t.cells) same
    at_side R S here same = absurd (false≢true here)
    at_side S R here same = absurd (false≢true here)
    at_side S S here same = ap (λ ps. value_of ps t.cells) same

flipped : (side points : Side) → is_at (other_side side) points ≡ not (is_at side points)
flipped R R = refl
flipped R S = refl
flipped S R = refl
flipped S S = refl

-- where an interval stands or a point, as the side says
abbrev stand_if : Bool → ℤ → Interval → Side → Tuple → Option ℤ
stand_if b hash interval side t = cond b (value_stand hash (value_at interval.lower side t))
    (interval_stand hash interval side (value_at interval.lower side t) (value_at interval.upper side t))

abbrev windows_if : Bool → ℤ → Interval → Side → Tuple → List Window
windows_if b hash interval side t = cond b (point_windows hash (value_at interval.lower side t))
    (interval_windows hash interval side (value_at interval.lower side t) (value_at interval.upper side t))

interval_law : (b : Bool) (hash : ℤ) (interval : Interval) (side : Side) (t other : Tuple)
    → is_at side interval.points ≡ b → is_key_true_at side interval.lower t other ≡ true
    → is_key_true_at side interval.upper t other ≡ true
    → lies_in (windows_if b hash interval side t) (stand_if (not b) hash interval (other_side side) other) ≡ true
interval_law true hash interval side t other here low high =
    let x = value_at interval.lower side t in
    let P : Side → Type 0 = λ s. Bounds interval.lower (other_side side)
    (value_at interval.lower (other_side side) other)
    (value_at interval.lower s t) in
    let Q : Side → Type 0 = λ s. Bounds interval.upper (other_side side)
    (value_at interval.upper (other_side side) other)
    (value_at interval.upper s t) in
    let lower = subst P (back side) (bounds interval.lower (other_side side) other t (turned side interval.lower t other
    low)) in
    let upper = subst Q (back side) (bounds interval.upper (other_side side) other t (turned side interval.upper t other
    high)) in
    let W : Option ℤ → Type 0 = λ o. Bounds interval.upper (other_side side)
    (value_at interval.upper (other_side side) other) o in
    interval_stands hash interval (other_side side) (value_at interval.lower (other_side side) other)
    (value_at interval.upper (other_side side) other) x lower (subst W (one_sum interval side t here) upper)
interval_law false hash interval side t other here low high =
    let lower = bounds interval.lower side t other low in
    let upper = bounds interval.upper side t other high in
    let W : Option ℤ → Type 0 = λ o. Bounds interval.upper side (value_at interval.upper side t) o in
    let there = flipped side interval.points ∙ ap not here in
    point_stands hash interval side (value_at interval.lower side t) (value_at interval.upper side t)
    (value_at interval.lower (other_side side) other) lower
    (subst W (one_sum interval (other_side side) other there) upper)

-- ---- any range

-- whether the range holds of a tuple of this side and one of the other
abbrev in_range_at : Side → Option Range → Tuple → Tuple → Bool
in_range_at R range t other = is_in_range (option_map reach_of range) t.cells other.cells
in_range_at S range t other = is_in_range (option_map reach_of range) other.cells t.cells

spanned : (side : Side) (atom : KeyAtom) (t other : Tuple) → in_range_at side (Some (ranges.Span atom)) t other ≡ true
    → is_key_true_at side atom t other ≡ true
spanned R atom t other is = is
spanned S atom t other is = is

bounded : (side : Side) (interval : Interval) (t other : Tuple)
    → in_range_at side (Some (ranges.Interval interval)) t other ≡ true
    → (is_key_true_at side interval.lower t other && is_key_true_at side interval.upper t other) ≡ true
bounded R interval t other is = is
bounded S interval t other is = is

range_law : (range : Option Range) (side : Side) (number : ℤ) (t other : Tuple) → in_range_at side range t other ≡ true
    → lies_in (windows_at range side number t) (stand_at range (other_side side) number other) ≡ true
range_law None side number t other is = or_left _ _ (lies_self number)
range_law (Some (ranges.Span atom)) side number t other is =
    span_stands (hash_of number) atom side (value_at atom side t) (value_at atom (other_side side) other)
    (bounds atom side t other (spanned side atom t other is))
range_law (Some (ranges.Interval interval)) side number t other is =
    let b = is_at side interval.points in
    let low = is_key_true_at side interval.lower t other in
    let high = is_key_true_at side interval.upper t other in
    let holds = bounded side interval t other is in
    ap (λ c. lies_in (windows_if b (hash_of number) interval side t)
    (stand_if c (hash_of number) interval (other_side side) other)) (flipped side interval.points)
    ∙ interval_law b (hash_of number) interval side t other refl (and_left low high holds) (and_right low high holds)

-- ---- any access

-- the number of all equalities of a tuple of this side
abbrev equal_at : Access → Side → Tuple → Option ℤ
equal_at access side t = number_of_row side access.sames t.cells

agree_at : (side : Side) (access : Access) (t other : Tuple) → is_admitted_at side access t other ≡ true
    → AreOne (equal_at access side t) (equal_at access (other_side side) other)
agree_at R access t other is = same_rows t.cells other.cells access.sames
    (and_left (agree_in_all (agreements access) t.cells other.cells)
    (is_in_range (option_map reach_of access.range) t.cells other.cells) is)
agree_at S access t other is =
    let one = same_rows other.cells t.cells access.sames
    (and_left (agree_in_all (agreements access) other.cells t.cells)
    (is_in_range (option_map reach_of access.range) other.cells t.cells) is) in
    (one.0, one.2, one.1)

reach_at : (side : Side) (access : Access) (t other : Tuple) → is_admitted_at side access t other ≡ true
    → in_range_at side access.range t other ≡ true
reach_at R access t other is = and_right (agree_in_all (agreements access) t.cells other.cells)
    (is_in_range (option_map reach_of access.range) t.cells other.cells) is
reach_at S access t other is = and_right (agree_in_all (agreements access) other.cells t.cells)
    (is_in_range (option_map reach_of access.range) other.cells t.cells) is

stands_at : (side : Side) (access : Access) (t other : Tuple) → is_admitted_at side access t other ≡ true
    → lies_in (windows_on access side t) (number_at access (other_side side) other) ≡ true
stands_at side access t other is =
    let one = agree_at side access t other is in
    ap (λ o. lies_in (windows_with access.range side o t) (number_at access (other_side side) other)) one.1
    ∙ ap (λ o. lies_in (windows_at access.range side one.0 t)
    (option_and_then (λ n. stand_at access.range (other_side side) n other) o)) one.2
    ∙ range_law access.range side one.0 t other (reach_at side access t other is)

-- a stored tuple that agrees with one that probes stands where that one asks
pub admitted_stands : (access : Access) (t other : Tuple) → is_admitted access t other ≡ true
    → lies_in (asked access t) (number_at access (other_side t.side) other) ≡ true
admitted_stands access t other is = stands_at t.side access t other is

-- ---- what a tuple asks for is apart

span_apart : (hash : ℤ) (atom : KeyAtom) (side : Side) (a : Option ℤ) → AreApart (span_windows hash atom side a)
span_apart hash atom side None = tt
span_apart hash atom side (Some v) = one_apart _

point_apart : (hash : ℤ) (x : Option ℤ) → AreApart (point_windows hash x)
point_apart hash None = tt
point_apart hash (Some x) = windows_apart hash (clamped x)

interval_apart : (hash : ℤ) (interval : Interval) (side : Side) (a b : Option ℤ)
    → AreApart (interval_windows hash interval side a b)
interval_apart hash interval side None b = tt
interval_apart hash interval side (Some v) None = tt
interval_apart hash interval side (Some v) (Some w) = one_apart _

if_apart : (b : Bool) (hash : ℤ) (interval : Interval) (side : Side) (t : Tuple)
    → AreApart (windows_if b hash interval side t)
if_apart true hash interval side t = point_apart hash (value_at interval.lower side t)
if_apart false hash interval side t =
    interval_apart hash interval side (value_at interval.lower side t) (value_at interval.upper side t)

range_apart : (range : Option Range) (side : Side) (number : ℤ) (t : Tuple) → AreApart (windows_at range side number t)
range_apart None side number t = one_apart _
range_apart (Some (ranges.Span atom)) side number t = span_apart (hash_of number) atom side (value_at atom side t)
range_apart (Some (ranges.Interval interval)) side number t =
    if_apart (is_at side interval.points) (hash_of number) interval side t

with_apart : (range : Option Range) (side : Side) (number : Option ℤ) (t : Tuple)
    → AreApart (windows_with range side number t)
with_apart range side None t = tt
with_apart range side (Some number) t = range_apart range side number t

-- no number lies in two windows of those that a tuple asks for
pub asked_apart : (access : Access) (t : Tuple) → AreApart (asked access t)
asked_apart access t = with_apart access.range t.side (equal_at access t.side t) t
