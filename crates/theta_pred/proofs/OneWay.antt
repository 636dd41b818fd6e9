-- A key is determined by what it says. So is an access, where its tests of one side read rows of the same widths.
use Rattle.std.proofs.Common.{◌≡◌, ℕ, ◌≤◌, ◌^◌, length, List, [], ◌∷◌, Option, Some, None, ℤ, refl, ap, sym, subst, ◌∙◌}
use Rattle.std.specs.Prelude.{map, option_map}
use Rattle.std.specs.Option.{ForSome}
use Rattle.std.proofs.Props.{props}
use Rattle.std.specs.Coded.{×_prop}
use Rattle.row_cells.specs.declared.table.Side.{Side}
use Rattle.theta_pred.specs.declared.agree.Access.{Access}
use Rattle.theta_pred.specs.declared.agree.Alone.{Alone as Alone'}
use Rattle.theta_pred.specs.declared.agree.Interval.{Interval as Interval'}
use Rattle.theta_pred.specs.declared.agree.Range.{Range}
use Rattle.theta_pred.specs.declared.agree.Range.TheVariants.{Span, Interval}
use Rattle.theta_pred.specs.declared.agree.Same.{Same}
use Rattle.theta_pred.specs.declared.agree.Same.TheVariants.{Texts, Sums, Alone}
use Rattle.theta_pred.specs.declared.agree.SumPair.{SumPair}
use Rattle.theta_pred.specs.declared.atom.KeyAtom.{KeyAtom}
use Rattle.theta_pred.specs.declared.atom.Linear.{Linear}
use Rattle.theta_pred.specs.declared.atom.Part.{Part}
use Rattle.theta_pred.specs.declared.text_atom.TextAtom.{TextAtom}
use Rattle.theta_pred.specs.Accesses.{Agreement, agreement_of, alone, sums, texts, reach_of, Reach, span, interval}
use Rattle.theta_pred.specs.Accesses.{terms_of, Terms, AreOver, IsOver, IsOverRows}
use Rattle.theta_pred.specs.Formula.{Formula, Meaning}
use Rattle.theta_pred.specs.Keys.{Atom, atom_of, parts_on}
use Rattle.theta_pred.specs.Sizes.{IsAtMost}
use Rattle.theta_pred.proofs.KeyLaws.{some-injective}

-- ---- sums and tests

-- a sum is its parts
one_sum : (a b : Linear) → a.parts ≡ b.parts → a ≡ b
one_sum a b same =
    let once : IsProp (length a.parts ≤ 32) = hlevel props in
    let made : length a.parts ≤ 32 → Linear = λ short. record { parts = a.parts; short = short } in
    subst (λ (ps : List Part). (short : length ps ≤ 32) → a ≡ record { parts = ps; short = short }) same
    (λ short. ap made (once a.short short)) b.short

-- a bound is small in one way
small-once : (bound : Option ℤ) → IsProp (ForSome bound (IsAtMost (2 ^ 100)))
small-once bound = hlevel props

-- so is a number
gap-once : (gap : ℤ) → IsProp (IsAtMost (2 ^ 100) gap)
gap-once gap = hlevel props

-- bounds that are small
abbrev AreSmall : Option ℤ → Option ℤ → Type 0
AreSmall low high = ForSome low (IsAtMost (2 ^ 100)) × ForSome high (IsAtMost (2 ^ 100))

-- a test of these sums and bounds
abbrev key_with : (r s : Linear) (low high : Option ℤ) → AreSmall low high → KeyAtom
key_with r s low high small = record {
  r_sum = r;
  s_sum = s;
  low = low;
  high = high;
  low_small = small.0;
  high_small = small.1;
}

-- a test is its sums and bounds
key-of : (a : KeyAtom) (r s : Linear) (low high : Option ℤ) (small : AreSmall low high)
    → a.r_sum ≡ r → a.s_sum ≡ s → a.low ≡ low → a.high ≡ high → a ≡ key_with r s low high small
key-of a r s low high small same_r same_s same_low same_high =
    let first : (given : AreSmall a.low a.high) → a ≡ key_with a.r_sum a.s_sum a.low a.high given =
    λ given. ap (λ (given : AreSmall a.low a.high). key_with a.r_sum a.s_sum a.low a.high given)
    (×_prop (small-once a.low) (small-once a.high) (a.low_small, a.high_small) given) in
    let second = subst (λ (h : Option ℤ). (given : AreSmall a.low h) → a ≡ key_with a.r_sum a.s_sum a.low h given)
    same_high first in
    let third = subst (λ (l : Option ℤ). (given : AreSmall l high) → a ≡ key_with a.r_sum a.s_sum l high given)
    same_low second in
    third small ∙ ap (λ x. key_with x a.s_sum low high small) same_r ∙ ap (λ x. key_with r x low high small) same_s

-- a test is what it says
pub one_key : (a b : KeyAtom) → atom_of a ≡ atom_of b → a ≡ b
one_key a b same =
    key-of a b.r_sum b.s_sum b.low b.high (b.low_small, b.high_small)
    (one_sum a.r_sum b.r_sum (ap (λ (x : Atom). x.r_sum) same))
    (one_sum a.s_sum b.s_sum (ap (λ (x : Atom). x.s_sum) same))
    (ap (λ (x : Atom). x.low) same) (ap (λ (x : Atom). x.high) same)

-- the same where there may be none
pub one_key_at_most : (a b : Option KeyAtom) → option_map atom_of a ≡ option_map atom_of b → a ≡ b
one_key_at_most None None same = refl
one_key_at_most None (Some b) same = cc
one_key_at_most (Some a) None same = cc
one_key_at_most (Some a) (Some b) same = ap Some (one_key a b (some-injective (atom_of a) (atom_of b) same))

-- ---- agreements

-- two sums that agree
abbrev pair_with : (r s : Linear) (gap : ℤ) → IsAtMost (2 ^ 100) gap → SumPair
pair_with r s gap small = record { r_sum = r; s_sum = s; gap = gap; small = small }

pair-of : (a : SumPair) (r s : Linear) (gap : ℤ) (small : IsAtMost (2 ^ 100) gap)
    → a.r_sum ≡ r → a.s_sum ≡ s → a.gap ≡ gap → a ≡ pair_with r s gap small
pair-of a r s gap small same_r same_s same_gap =
    let first : (given : IsAtMost (2 ^ 100) a.gap) → a ≡ pair_with a.r_sum a.s_sum a.gap given =
    λ given. ap (λ (given : IsAtMost (2 ^ 100) a.gap). pair_with a.r_sum a.s_sum a.gap given)
    (gap-once a.gap a.small given) in
    let second = subst (λ (g : ℤ). (given : IsAtMost (2 ^ 100) g) → a ≡ pair_with a.r_sum a.s_sum g given)
    same_gap first in
    second small ∙ ap (λ x. pair_with x a.s_sum gap small) same_r ∙ ap (λ x. pair_with r x gap small) same_s

-- what an agreement of sums says
abbrev sums_in : Agreement → List Part × List Part × ℤ → List Part × List Part × ℤ
sums_in (sums r s gap) other = (r, s, gap)
sums_in _ other = other

one_pair : (a b : SumPair) → agreement_of (Sums a) ≡ agreement_of (Sums b) → a ≡ b
one_pair a b same =
    let parts = ap (λ (x : Agreement). sums_in x (a.r_sum.parts, a.s_sum.parts, a.gap)) same in
    pair-of a b.r_sum b.s_sum b.gap b.small
    (one_sum a.r_sum b.r_sum (ap (λ (x : List Part × List Part × ℤ). x.0) parts))
    (one_sum a.s_sum b.s_sum (ap (λ (x : List Part × List Part × ℤ). x.1) parts))
    (ap (λ (x : List Part × List Part × ℤ). x.2) parts)

-- what an agreement of texts says
abbrev texts_in : Agreement → TextAtom → TextAtom
texts_in (texts atom) other = atom
texts_in _ other = other

-- what a test of one side says
abbrev alone_in : Agreement → Side × Formula → Side × Formula
alone_in (alone side f) other = (side, f)
alone_in _ other = other

one_test : (width_r width_s : ℕ) (a b : Alone') → IsOver width_r width_s (Alone a) → IsOver width_r width_s (Alone b)
    → agreement_of (Alone a) ≡ agreement_of (Alone b) → a ≡ b
one_test width_r width_s a b one two same =
    let parts = ap (λ (x : Agreement). alone_in x (a.side, a.test.formula)) same in
    let side = ap (λ (x : Side × Formula). x.0) parts in
    let f = ap (λ (x : Side × Formula). x.1) parts in
    let r = one.0 ∙ sym two.0 in
    let s = one.1 ∙ sym two.1 in
    λ i. record { side = side i; test = record { formula = f i; width_r = r i; width_s = s i } }

-- an agreement is what it says
one_same : (width_r width_s : ℕ) (a b : Same) → IsOver width_r width_s a → IsOver width_r width_s b
    → agreement_of a ≡ agreement_of b → a ≡ b
one_same width_r width_s (Texts a) (Texts b) one two same = ap Texts (ap (λ (x : Agreement). texts_in x a) same)
one_same width_r width_s (Texts a) (Sums b) one two same = cc
one_same width_r width_s (Texts a) (Alone b) one two same = cc
one_same width_r width_s (Sums a) (Texts b) one two same = cc
one_same width_r width_s (Sums a) (Sums b) one two same = ap Sums (one_pair a b same)
one_same width_r width_s (Sums a) (Alone b) one two same = cc
one_same width_r width_s (Alone a) (Texts b) one two same = cc
one_same width_r width_s (Alone a) (Sums b) one two same = cc
one_same width_r width_s (Alone a) (Alone b) one two same = ap Alone (one_test width_r width_s a b one two same)

-- so are several
one_sames : (width_r width_s : ℕ) (xs ys : List Same) → AreOver width_r width_s xs → AreOver width_r width_s ys
    → map agreement_of xs ≡ map agreement_of ys → xs ≡ ys
one_sames width_r width_s [] [] one two same = refl
one_sames width_r width_s [] (y ∷ ys) one two same = cc
one_sames width_r width_s (x ∷ xs) [] one two same = cc
one_sames width_r width_s (x ∷ xs) (y ∷ ys) one two same =
    let first : agreement_of x ≡ agreement_of y = cc in
    let others : map agreement_of xs ≡ map agreement_of ys = cc in
    let head = one_same width_r width_s x y one.0 two.0 first in
    let rest = one_sames width_r width_s xs ys one.1 two.1 others in
    λ i. head i ∷ rest i

-- ---- ranges

-- the tests of an interval
abbrev interval_in : Reach → Side × Atom × Atom → Side × Atom × Atom
interval_in (interval points lower upper) other = (points, lower, upper)
interval_in _ other = other

-- the test of a span
abbrev span_in : Reach → Atom → Atom
span_in (span atom) other = atom
span_in _ other = other

-- the two tests of an interval have one sum of its side in one way
facing-once : (points : Side) (lower upper : KeyAtom)
    → IsProp (parts_on points (atom_of lower) ≡ parts_on points (atom_of upper))
facing-once points lower upper = hlevel props

abbrev AreFacing : Side → KeyAtom → KeyAtom → Type 0
AreFacing points lower upper = parts_on points (atom_of lower) ≡ parts_on points (atom_of upper)

abbrev interval_with : (points : Side) (lower upper : KeyAtom) → AreFacing points lower upper → Interval'
interval_with points lower upper same = record { points = points; lower = lower; upper = upper; same = same }

one_interval : (a b : Interval') → reach_of (Interval a) ≡ reach_of (Interval b) → a ≡ b
one_interval a b same =
    let parts = ap (λ (x : Reach). interval_in x (a.points, atom_of a.lower, atom_of a.upper)) same in
    let points = ap (λ (x : Side × Atom × Atom). x.0) parts in
    let lower = one_key a.lower b.lower (ap (λ (x : Side × Atom × Atom). x.1) parts) in
    let upper = one_key a.upper b.upper (ap (λ (x : Side × Atom × Atom). x.2) parts) in
    let first : (given : AreFacing a.points a.lower a.upper) → a ≡ interval_with a.points a.lower a.upper given =
    λ given. ap (λ (given : AreFacing a.points a.lower a.upper). interval_with a.points a.lower a.upper given)
    (facing-once a.points a.lower a.upper a.same given) in
    let second = subst (λ (u : KeyAtom). (given : AreFacing a.points a.lower u)
    → a ≡ interval_with a.points a.lower u given) upper first in
    let third = subst (λ (l : KeyAtom). (given : AreFacing a.points l b.upper)
    → a ≡ interval_with a.points l b.upper given) lower second in
    subst (λ (p : Side). (given : AreFacing p b.lower b.upper) → a ≡ interval_with p b.lower b.upper given) points third
    b.same

-- a range is what it says
one_range : (a b : Range) → reach_of a ≡ reach_of b → a ≡ b
one_range (Span a) (Span b) same = ap Span (one_key a b (ap (λ (x : Reach). span_in x (atom_of a)) same))
one_range (Span a) (Interval b) same = cc
one_range (Interval a) (Span b) same = cc
one_range (Interval a) (Interval b) same = ap Interval (one_interval a b same)

one_range_at_most : (a b : Option Range) → option_map reach_of a ≡ option_map reach_of b → a ≡ b
one_range_at_most None None same = refl
one_range_at_most None (Some b) same = cc
one_range_at_most (Some a) None same = cc
one_range_at_most (Some a) (Some b) same = ap Some (one_range a b (some-injective (reach_of a) (reach_of b) same))

-- ---- accesses

one_access : (width_r width_s : ℕ) (a b : Access) → AreOver width_r width_s a.sames → AreOver width_r width_s b.sames
    → terms_of a ≡ terms_of b → a ≡ b
one_access width_r width_s a b one two same =
    let sames = one_sames width_r width_s a.sames b.sames one two (ap (λ (x : Terms). x.sames) same) in
    let range = one_range_at_most a.range b.range (ap (λ (x : Terms). x.range) same) in
    λ i. record { sames = sames i; range = range i }

-- an access is what it says, where its tests read rows of a predicate's widths
pub one_access_at_most : (theta : Meaning) (a b : Option Access) → IsOverRows theta a → IsOverRows theta b
    → option_map terms_of a ≡ option_map terms_of b → a ≡ b
one_access_at_most theta None None one two same = refl
one_access_at_most theta None (Some b) one two same = cc
one_access_at_most theta (Some a) None one two same = cc
one_access_at_most theta (Some a) (Some b) one two same =
    ap Some (one_access theta.width_r theta.width_s a b one two (some-injective (terms_of a) (terms_of b) same))
