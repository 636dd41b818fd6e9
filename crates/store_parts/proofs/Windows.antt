-- Where values stand: those between two bounds stand between where these do, and an interval that holds a point stands
-- in
-- one of the point's windows.
use Rattle.std.proofs.Common.{◌≡◌, ℕ, zero, suc, ◌+◌, ℤ, pos, ◌+ℤ◌, ◌-ℤ◌, ◌*ℤ◌, neg_ℤ, Bool, true, false, cond, ◌&&◌}
use Rattle.std.proofs.Common.{◌<◌, ◌-◌, ◌++◌, append_assoc, add-one, ◌||◌, Option, Some, None, List, [], ◌∷◌, refl, sym}
use Rattle.std.proofs.Common.{ap, subst, ◌∙◌, arith}
use Rattle.std.specs.Prelude.{int_le, ◌^◌}
use Rattle.std.proofs.lemmas.Bool.{false≢true}
use Rattle.std.proofs.lemmas.Int.{ints}
use Rattle.theta_pred.specs.Keys.{is_from, is_up_to}
use Rattle.theta_pred.proofs.KeyMembers.{and_left, and_right}
use Rattle.store_parts.specs.declared.places.Window.{Window}
use Rattle.store_parts.specs.Places.{lies, lies_at, lies_in, AreApart}
use Rattle.store_parts.specs.Stands.{edge, clamped, stand, stand_of, low_of, high_of, window, next_most, class_from}
use Rattle.store_parts.specs.Stands.{class_of, windows_from, windows_of}

-- ---- clamped values

module _ (a b : ℤ) where
  clamp_rises : (p q p' q' : Bool) → int_le a (neg_ℤ edge) ≡ p → int_le a edge ≡ q
      → int_le b (neg_ℤ edge) ≡ p' → int_le b edge ≡ q' → int_le a b ≡ true
      → int_le (cond p (neg_ℤ edge) (cond q a edge)) (cond p' (neg_ℤ edge) (cond q' b edge)) ≡ true
  clamp_rises true q true q' is_p is_q is_p' is_q' le = grind (arith, ints)
  clamp_rises true q false true is_p is_q is_p' is_q' le = grind (arith, ints, is_p')
  clamp_rises true q false false is_p is_q is_p' is_q' le = grind (arith, ints)
  clamp_rises false true true q' is_p is_q is_p' is_q' le = grind (arith, ints, is_p, is_p', le)
  clamp_rises false true false true is_p is_q is_p' is_q' le = le
  clamp_rises false true false false is_p is_q is_p' is_q' le = is_q
  clamp_rises false false true q' is_p is_q is_p' is_q' le = grind (arith, ints, is_p, is_p', le)
  clamp_rises false false false true is_p is_q is_p' is_q' le = grind (arith, ints, is_q, is_q', le)
  clamp_rises false false false false is_p is_q is_p' is_q' le = grind (arith, ints)

clamped_rises : (a b : ℤ) → int_le a b ≡ true → int_le (clamped a) (clamped b) ≡ true
clamped_rises a b le = clamp_rises a b _ _ _ _ refl refl refl refl le

least_edge : (v : ℤ) (p q : Bool) → int_le v (neg_ℤ edge) ≡ p → int_le v edge ≡ q
    → int_le (neg_ℤ edge) (cond p (neg_ℤ edge) (cond q v edge)) ≡ true
least_edge v true q is_p is_q = grind (arith, ints)
least_edge v false true is_p is_q = grind (arith, ints, is_p)
least_edge v false false is_p is_q = grind (arith, ints)

greatest_edge : (v : ℤ) (p q : Bool) → int_le v (neg_ℤ edge) ≡ p → int_le v edge ≡ q
    → int_le (cond p (neg_ℤ edge) (cond q v edge)) edge ≡ true
greatest_edge v true q is_p is_q = grind (arith, ints)
greatest_edge v false true is_p is_q = is_q
greatest_edge v false false is_p is_q = grind (arith, ints)

from_edge : (v : ℤ) → int_le (neg_ℤ edge) (clamped v) ≡ true
from_edge v = least_edge v _ _ refl refl

to_edge : (v : ℤ) → int_le (clamped v) edge ≡ true
to_edge v = greatest_edge v _ _ refl refl

low_rises : (low : Option ℤ) (v : ℤ) → is_from low v ≡ true → int_le (clamped (low_of low)) (clamped v) ≡ true
low_rises None v is = from_edge v
low_rises (Some low) v is = clamped_rises low v is

high_rises : (high : Option ℤ) (v : ℤ) → is_up_to high v ≡ true → int_le (clamped v) (clamped (high_of high)) ≡ true
high_rises None v is = to_edge v
high_rises (Some high) v is = clamped_rises v high is

-- ---- where values stand

shifted : (h a b : ℤ) → int_le a b ≡ true → int_le (h +ℤ a) (h +ℤ b) ≡ true
shifted h a b le = grind (arith, ints, le)

two : (a b : Bool) → a ≡ true → b ≡ true → (a && b) ≡ true
two a b p q = cc

-- where the values of a hash and a class begin
abbrev base : ℤ → ℤ → ℤ
base hash class = (hash *ℤ pos 128 +ℤ class) *ℤ pos (2 ^ 71)

stand_lies_at : (hash class v from to : ℤ) → int_le (clamped from) (clamped v) ≡ true
    → int_le (clamped v) (clamped to) ≡ true → lies_at (Some (stand hash class v)) (window hash class from to) ≡ true
stand_lies_at hash class v from to low high =
    two (int_le (stand hash class from) (stand hash class v)) (int_le (stand hash class v) (stand hash class to))
    (shifted (base hash class) (clamped from) (clamped v) low)
    (shifted (base hash class) (clamped v) (clamped to) high)

-- a value between two bounds stands between where these do
pub stand_lies : (hash class v : ℤ) (low high : Option ℤ) → lies low high (Some v) ≡ true
    → lies_at (Some (stand hash class v)) (window hash class (low_of low) (high_of high)) ≡ true
stand_lies hash class v low high is =
    stand_lies_at hash class v (low_of low) (high_of high)
    (low_rises low v (and_left (is_from low v) (is_up_to high v) is))
    (high_rises high v (and_right (is_from low v) (is_up_to high v) is))

-- ---- intervals

-- where the first of two is true, one of them is
pub or_left : (a b : Bool) → a ≡ true → (a || b) ≡ true
or_left a b p = cc

or_right : (a b : Bool) → b ≡ true → (a || b) ≡ true
or_right true b p = refl
or_right false b p = p

from_short : (first last x most : ℤ) → int_le x last ≡ true → int_le (last -ℤ first) most ≡ true
    → int_le (x -ℤ most) first ≡ true
from_short first last x most to short = grind (arith, ints, to, short)

-- the begin of an interval that holds a point and is no longer than this lies in the window of such
window_holds : (hash class first last x most : ℤ) → int_le first x ≡ true → int_le x last ≡ true
    → int_le (last -ℤ first) most ≡ true
    → lies_at (Some (stand hash class first)) (window hash class (x -ℤ most) x) ≡ true
window_holds hash class first last x most from to short =
    stand_lies_at hash class first (x -ℤ most) x
    (clamped_rises (x -ℤ most) first (from_short first last x most to short)) (clamped_rises first x from)

-- the greatest length of the class that is so many after this one
abbrev most_after : ℕ → ℤ → ℤ
most_after zero most = most
most_after (suc left) most = most_after left (next_most most)

class_picked : (b : Bool) (left class : ℕ) (hash first last x most : ℤ) → int_le (last -ℤ first) most ≡ b
    → int_le first x ≡ true → int_le x last ≡ true
    → lies_in (windows_from left hash (class + 1) (next_most most) x)
    (Some (stand hash (pos (class_from left (class + 1) (next_most most) (last -ℤ first))) first)) ≡ true
    → lies_in (windows_from (suc left) hash class most x)
    (Some (stand hash (pos (cond b class (class_from left (class + 1) (next_most most) (last -ℤ first)))) first)) ≡ true
class_picked true left class hash first last x most = λ is from to rest.
    or_left _ _ (window_holds hash (pos class) first last x most from to is)
class_picked false left class hash first last x most = λ is from to rest. or_right _ _ rest

class_holds : (left class : ℕ) (hash first last x most : ℤ) → int_le first x ≡ true → int_le x last ≡ true
    → int_le (last -ℤ first) (most_after left most) ≡ true
    → lies_in (windows_from left hash class most x)
    (Some (stand hash (pos (class_from left class most (last -ℤ first))) first)) ≡ true
class_holds zero class hash first last x most from to short =
    or_left _ _ (window_holds hash (pos class) first last x most from to short)
class_holds (suc left) class hash first last x most from to short =
    class_picked (int_le (last -ℤ first) most) left class hash first last x most refl from to
    (class_holds left (class + 1) hash first last x (next_most most) from to short)

last_most : most_after 18 (pos 0) ≡ pos (2 ^ 72 - 1)
last_most = refl

long_enough : (first last : ℤ) → int_le (neg_ℤ edge) first ≡ true → int_le last edge ≡ true
    → int_le (last -ℤ first) (pos (2 ^ 72 - 1)) ≡ true
long_enough first last low high = grind (arith, ints, low, high)

through : (a b c : ℤ) → int_le a b ≡ true → int_le b c ≡ true → int_le a c ≡ true
through a b c p q = grind (arith, ints, p, q)

-- an interval that holds a point stands in one of its windows
pub interval_lies : (hash x : ℤ) (low high : Option ℤ) → lies low high (Some x) ≡ true
    → lies_in (windows_of hash (clamped x)) (stand_of hash (clamped (low_of low)) (clamped (high_of high))) ≡ true
unfolding class_of windows_of
interval_lies hash x low high is =
    let first = clamped (low_of low) in
    let last = clamped (high_of high) in
    let from = low_rises low x (and_left (is_from low x) (is_up_to high x) is) in
    let to = high_rises high x (and_right (is_from low x) (is_up_to high x) is) in
    let short = ap (int_le (last -ℤ first)) last_most
    ∙ long_enough first last (from_edge (low_of low)) (to_edge (high_of high)) in
    let stands = class_holds 18 0 hash first last (clamped x) (pos 0) from to short in
    let P : Bool → Type 0 = λ b. lies_in (windows_of hash (clamped x))
    (cond b (Some (stand hash (pos (class_of (last -ℤ first))) first)) None) ≡ true in
    subst P (sym (through first (clamped x) last from to)) stands

-- ---- windows of several classes are apart

not_true : (b : Bool) → (b ≡ true → ⊥) → b ≡ false
not_true true never = absurd (never refl)
not_true false never = refl

base_apart : (hash : ℤ) (c d : ℕ) → c < d
    → int_le (base hash (pos c) +ℤ pos (2 ^ 71)) (base hash (pos d)) ≡ true
base_apart hash c d less = grind (arith, ints, less)

not_both : (a b v w : ℤ) → int_le (a +ℤ pos (2 ^ 71)) b ≡ true → int_le v (a +ℤ edge) ≡ true
    → int_le (neg_ℤ edge) w ≡ true → int_le (b +ℤ w) v ≡ false
not_both a b v w apart up_to low = grind (arith, ints, apart, up_to, low)

neither : (a b c : Bool) → a ≡ false → c ≡ false → ((a && b) || c) ≡ false
neither a b c p q = cc

-- what lies no further than a class reaches lies in no window of a later one
far : (left c d : ℕ) (hash most x v : ℤ) → c < d → int_le v (base hash (pos c) +ℤ edge) ≡ true
    → lies_in (windows_from left hash d most x) (Some v) ≡ false
far zero c d hash most x v less up_to =
    neither (int_le (stand hash (pos d) (x -ℤ most)) v) (int_le v (stand hash (pos d) x)) false
    (not_both (base hash (pos c)) (base hash (pos d)) v (clamped (x -ℤ most)) (base_apart hash c d less) up_to
    (from_edge (x -ℤ most))) refl
far (suc left) c d hash most x v less up_to =
    neither (int_le (stand hash (pos d) (x -ℤ most)) v) (int_le v (stand hash (pos d) x)) _
    (not_both (base hash (pos c)) (base hash (pos d)) v (clamped (x -ℤ most)) (base_apart hash c d less) up_to
    (from_edge (x -ℤ most))) (far left c (d + 1) hash (next_most most) x v (omega (arith, less)) up_to)

later_apart : (left class : ℕ) (hash most next x : ℤ) (v : Option ℤ)
    → lies_at v (window hash (pos class) (x -ℤ most) x) ≡ true
    → lies_in (windows_from left hash (class + 1) next x) v ≡ false
later_apart left class hash most next x None is = absurd (false≢true is)
later_apart left class hash most next x (Some v) is =
    let below = and_right (int_le (stand hash (pos class) (x -ℤ most)) v) (int_le v (stand hash (pos class) x)) is in
    let reach = shifted (base hash (pos class)) (clamped x) edge (to_edge x) in
    far left class (class + 1) hash next x v (omega arith)
    (through v (stand hash (pos class) x) (base hash (pos class) +ℤ edge) below reach)

classes_apart : (left class : ℕ) (hash most x : ℤ) → AreApart (windows_from left hash class most x)
classes_apart zero class hash most x = (λ v is. refl, tt)
classes_apart (suc left) class hash most x = (
  λ v is. later_apart left class hash most (next_most most) x v is,
  classes_apart left (class + 1) hash (next_most most) x,
)

-- the windows of a point are apart
pub windows_apart : (hash x : ℤ) → AreApart (windows_of hash x)
unfolding windows_of
windows_apart hash x = classes_apart 18 0 hash (pos 0) x

-- one window is apart
pub one_apart : (it : Window) → AreApart (it ∷ [])
one_apart it = (λ v is. refl, tt)

module _ (old pushed : List Window) (it : Window) (left n : ℕ) (hash : ℤ) (class : ℕ) where
  -- one window more
  pub windows_more : (most next x : ℤ)
      → pushed ≡ old ++ it ∷ [] → it ≡ window hash (pos class) (x -ℤ most) x → next ≡ next_most most → left ≡ n + 1
      → pushed ++ windows_from n hash (class + 1) next x ≡ old ++ windows_from left hash class most x
  windows_more most next x is here after one =
      let rest = windows_from n hash (class + 1) next x in
      ap (λ ws. ws ++ rest) (is ∙ ap (λ w. old ++ w ∷ []) here)
      ∙ append_assoc old (window hash (pos class) (x -ℤ most) x ∷ []) rest
      ∙ ap (λ m. old ++ window hash (pos class) (x -ℤ most) x ∷ windows_from n hash (class + 1) m x) after
      ∙ ap (λ k. old ++ windows_from k hash class most x) (sym (one ∙ add-one n))
