-- The member that gives the key atom: it is sound and true where the whole predicate is.
use Rattle.std.proofs.Common.{◌≡◌, ℕ, Bool, true, false, cond, ◌&&◌, List, [], ℤ, pos, ◌+ℤ◌, ◌-ℤ◌, neg_ℤ, ◌≤ℤ◌, Option}
use Rattle.std.proofs.Common.{Some, None, refl, ap, subst, arith}
use Rattle.std.specs.Prelude.{option_map, option_and_then}
use Rattle.std.specs.Ordering.{int_cmp}
use Rattle.std.proofs.lemmas.Bool.{false≢true}
use Rattle.std.proofs.lemmas.Int.{ints}
use Rattle.std.proofs.lemmas.Option.{none-some}
use Rattle.theta_tree.specs.declared.tree.Op.{Op}
use Rattle.theta_tree.specs.declared.tree.Op.TheVariants.{Eq, Ne, Lt, Le, Gt, Ge}
use Rattle.row_cells.specs.declared.table.Cell.{Cell}
use Rattle.row_cells.specs.declared.table.Side.TheVariants.{R, S}
use Rattle.theta_pred.specs.declared.kind.Kind.{Kind}
use Rattle.theta_pred.specs.declared.kind.Kind.TheVariants.{Equality, Band, Inequality}
use Rattle.theta_pred.specs.declared.tree.SignedTerm.{SignedTerm}
use Rattle.theta_pred.specs.Formula.{Formula, any, every, negation, num, band, txt, Formulas, no_formula, formula}
use Rattle.theta_pred.specs.Formula.{Meaning}
use Rattle.theta_pred.specs.Keys.{Atom, is_of_kind, is_band_kind, splits, is_atom_true, difference, constant_of}
use Rattle.theta_pred.specs.Keys.{num_low, num_high, reach, atom_in, conjuncts, first_of, first_there, key_member}
use Rattle.theta_pred.specs.Keys.{key_of, LiesIn, IsKeyOf}
use Rattle.theta_pred.specs.Sound.{IsSound, AreSound, AreWithin}
use Rattle.theta_pred.specs.Sums.{sum_of}
use Rattle.theta_pred.specs.Truth.{allows, compares, size_of, is_true, each_is_true}
use Rattle.theta_pred.proofs.KeyBounds.{num_bounds, band_bounds, lt_reach, le_reach}
use Rattle.theta_pred.proofs.KeyLaws.{difference_true, some-injective}
use Rattle.theta_pred.proofs.KeyPlaces.{difference-below}

-- ---- which member it is

-- of two that are true together the first is true
pub and_left : (p q : Bool) → (p && q) ≡ true → p ≡ true
and_left true q e = refl
and_left false q e = absurd (false≢true e)

-- and so is the second
pub and_right : (p q : Bool) → (p && q) ≡ true → q ≡ true
and_right true q e = e
and_right false q e = absurd (false≢true e)

-- what is known of a member: its kind, and all that is known of each
record IsChosen (width_r width_s : ℕ) (fs : Formulas) (m : Formula) : Type 0 where
  kind : Kind
  is_kind : is_of_kind kind m ≡ true
  sound : AreSound width_r width_s fs → IsSound width_r width_s m
  true_of : (r s : List Cell) → each_is_true r s fs ≡ true → is_true r s m ≡ true

chosen_first : (width_r width_s : ℕ) (kind : Kind) (fs : Formulas) (m : Formula) → first_of kind fs ≡ Some m
    → IsChosen width_r width_s fs m
chosen_first width_r width_s kind no_formula m is = absurd (none-some m is)
chosen_first width_r width_s kind (formula f fs) m is =
    by_test (is_of_kind kind f) refl (chosen_first width_r width_s kind fs m) is
  where
    by_test : (b : Bool) → is_of_kind kind f ≡ b → (first_of kind fs ≡ Some m → IsChosen width_r width_s fs m)
        → cond b (Some f) (first_of kind fs) ≡ Some m → IsChosen width_r width_s (formula f fs) m
    by_test true test later is =
        subst (IsChosen width_r width_s (formula f fs)) (some-injective f m is) (record {
          kind = kind;
          is_kind = test;
          sound = λ sound. sound.0;
          true_of = λ r s each. and_left (is_true r s f) (each_is_true r s fs) each;
        })
    by_test false test later is =
        let rest = later is in
        record {
          kind = rest.kind;
          is_kind = rest.is_kind;
          sound = λ sound. rest.sound sound.1;
          true_of = λ r s each. rest.true_of r s (and_right (is_true r s f) (each_is_true r s fs) each);
        }

there : (P : Formula → Type 0) (o p : Option Formula) (m : Formula) → ((n : Formula) → o ≡ Some n → P n)
    → ((n : Formula) → p ≡ Some n → P n)
    → first_there o p ≡ Some m → P m
there P (Some n) p m first other is = first m is
there P None p m first other is = other m is

chosen : (width_r width_s : ℕ) (fs : Formulas) (m : Formula) → key_member fs ≡ Some m → IsChosen width_r width_s fs m
chosen width_r width_s fs m is =
    there (IsChosen width_r width_s fs) (first_of Equality fs) (first_there (first_of Band fs) (first_of Inequality fs))
    m
    (chosen_first width_r width_s Equality fs)
    (λ n later. there (IsChosen width_r width_s fs) (first_of Band fs) (first_of Inequality fs) n
    (chosen_first width_r width_s Band fs) (chosen_first width_r width_s Inequality fs) later)
    is

conjuncts-sound : (width_r width_s : ℕ) (f : Formula) → IsSound width_r width_s f
    → AreSound width_r width_s (conjuncts f)
conjuncts-sound width_r width_s (any fs) sound = (sound, tt)
conjuncts-sound width_r width_s (every fs) sound = sound
conjuncts-sound width_r width_s (negation f) sound = (sound, tt)
conjuncts-sound width_r width_s (num left op right) sound = (sound, tt)
conjuncts-sound width_r width_s (band sum op bound) sound = (sound, tt)
conjuncts-sound width_r width_s (txt left op right) sound = (sound, tt)

alone : (b : Bool) → b ≡ true → (b && true) ≡ true
alone b is = ap (λ c. c && true) is

conjuncts-true : (r s : List Cell) (f : Formula) → is_true r s f ≡ true → each_is_true r s (conjuncts f) ≡ true
conjuncts-true r s (any fs) is = alone _ is
conjuncts-true r s (every fs) is = is
conjuncts-true r s (negation f) is = alone _ is
conjuncts-true r s (num left op right) is = alone _ is
conjuncts-true r s (band sum op bound) is = alone _ is
conjuncts-true r s (txt left op right) is = alone _ is

-- the member is sound where the whole is
pub member-sound : (width_r width_s : ℕ) (f m : Formula) → IsSound width_r width_s f → key_member (conjuncts f) ≡ Some m
    → IsSound width_r width_s m
member-sound width_r width_s f m sound is = (chosen width_r width_s (conjuncts f) m is).sound
    (conjuncts-sound width_r width_s f sound)

-- ---- its atom

and_then-some : {X Y : Type 0} (g : X → Option Y) (o : Option X) (y : Y) → option_and_then g o ≡ Some y → (x : X)
    × (o ≡ Some x) × (g x ≡ Some y)
and_then-some g None y is = absurd (none-some y is)
and_then-some g (Some x) y is = (x, refl, is)

compares-some : (op : Op) (o p : Option ℤ) → compares op o p ≡ true → (x : ℤ) × (y : ℤ) × (o ≡ Some x) × (p ≡ Some y)
    × (allows op (int_cmp x y) ≡ true)
compares-some op None p is = absurd (false≢true is)
compares-some op (Some x) None is = absurd (false≢true is)
compares-some op (Some x) (Some y) is = (x, y, refl, refl, is)

-- where a comparison of two sums is true of two rows, the atom that is made of it is true of them
pub num-true : (r s : List Cell) (left right : List SignedTerm) (op : Op)
    → compares op (sum_of r s left) (sum_of r s right) ≡ true
    → let c = constant_of left -ℤ constant_of right in is_atom_true
    (difference left right (num_low op c) (num_high op c)) r s ≡ true
num-true r s left right op is =
    let both = compares-some op (sum_of r s left) (sum_of r s right) is in
    let x = both.0 in
    let y = both.1 in
    let c = constant_of left -ℤ constant_of right in
    difference_true r s left right (num_low op c) (num_high op c) x y both.2 both.3
    (λ gap apart. num_bounds op x y gap c both.4 apart)

reached : (op : Op) (x bound : ℤ) → is_band_kind Band op ≡ true → allows op (int_cmp (size_of x) bound) ≡ true
    → size_of x ≤ℤ reach op bound
reached Eq x bound kind is = absurd (false≢true kind)
reached Ne x bound kind is = absurd (false≢true kind)
reached Lt x bound kind is = lt_reach x bound is
reached Le x bound kind is = le_reach x bound is
reached Gt x bound kind is = absurd (false≢true kind)
reached Ge x bound kind is = absurd (false≢true kind)

any_band : (kind : Kind) (op : Op) → is_band_kind kind op ≡ true → is_band_kind Band op ≡ true
any_band Equality op is = absurd (false≢true is)
any_band Band op is = is
any_band Inequality op is = absurd (false≢true is)

sized : (op : Op) (o : Option ℤ) (bound : ℤ) → compares op (option_map size_of o) (Some bound) ≡ true
    → (x : ℤ) × (o ≡ Some x) × (allows op (int_cmp (size_of x) bound) ≡ true)
sized op None bound is = absurd (false≢true is)
sized op (Some x) bound is = (x, refl, is)

abbrev band_atom : List SignedTerm → Op → ℤ → Atom
band_atom sum op bound = let c = constant_of sum in
    difference sum [] (Some (neg_ℤ (reach op bound) -ℤ c)) (Some (reach op bound -ℤ c))

alone_apart : (x gap c : ℤ) → x -ℤ pos 0 ≡ gap +ℤ (c -ℤ pos 0) → x ≡ gap +ℤ c
alone_apart x gap c apart = omega (arith, ints)

band-true : (r s : List Cell) (sum : List SignedTerm) (op : Op) (bound : ℤ) → is_band_kind Band op ≡ true
    → compares op (option_map size_of (sum_of r s sum)) (Some bound) ≡ true
    → let c = constant_of sum in
    is_atom_true (difference sum [] (Some (neg_ℤ (reach op bound) -ℤ c)) (Some (reach op bound -ℤ c))) r s ≡ true
band-true r s sum op bound kind is =
    let one = sized op (sum_of r s sum) bound is in
    let x = one.0 in
    let c = constant_of sum in
    let small = reached op x bound kind one.2 in
    difference_true r s sum [] (Some (neg_ℤ (reach op bound) -ℤ c)) (Some (reach op bound -ℤ c)) x (pos 0) one.1 refl
    (λ gap apart. band_bounds op x bound gap c small (alone_apart x gap c apart))

-- a member's atom is true where the member is
pub atom-true : (kind : Kind) (f : Formula) (atom : Atom) (r s : List Cell) → is_of_kind kind f ≡ true
    → is_true r s f ≡ true → atom_in f ≡ Some atom
    → is_atom_true atom r s ≡ true
atom-true kind (any fs) atom r s test holds is = absurd (none-some atom is)
atom-true kind (every fs) atom r s test holds is = absurd (none-some atom is)
atom-true kind (negation f) atom r s test holds is = absurd (none-some atom is)
atom-true kind (num left op right) atom r s test holds is =
    let c = constant_of left -ℤ constant_of right in
    subst (λ a. is_atom_true a r s ≡ true) (some-injective (difference left right (num_low op c) (num_high op c))
    atom is) (num-true r s left right op holds)
atom-true kind (band sum op bound) atom r s test holds is =
    let band = any_band kind op (and_left (is_band_kind kind op) (splits sum []) test) in
    subst (λ a. is_atom_true a r s ≡ true) (some-injective (band_atom sum op bound) atom is)
    (band-true r s sum op bound band holds)
atom-true kind (txt left op right) atom r s test holds is = absurd (none-some atom is)

difference-lies : (width_r width_s : ℕ) (left right : List SignedTerm) (low high : Option ℤ)
    → AreWithin width_r width_s left → AreWithin width_r width_s right
    → LiesIn width_r width_s (difference left right low high)
difference-lies width_r width_s left right low high in_left in_right = record {
  r = difference-below width_r width_s R false left right in_left in_right;
  s = difference-below width_r width_s S true left right in_left in_right;
}

atom-lies : (width_r width_s : ℕ) (f : Formula) (atom : Atom) → IsSound width_r width_s f → atom_in f ≡ Some atom
    → LiesIn width_r width_s atom
atom-lies width_r width_s (any fs) atom sound is = absurd (none-some atom is)
atom-lies width_r width_s (every fs) atom sound is = absurd (none-some atom is)
atom-lies width_r width_s (negation f) atom sound is = absurd (none-some atom is)
atom-lies width_r width_s (num left op right) atom sound is =
    let c = constant_of left -ℤ constant_of right in
    subst (LiesIn width_r width_s) (some-injective (difference left right (num_low op c) (num_high op c)) atom is)
    (difference-lies width_r width_s left right _ _ sound.0.within sound.1.within)
atom-lies width_r width_s (band sum op bound) atom sound is =
    subst (LiesIn width_r width_s) (some-injective (band_atom sum op bound) atom is)
    (difference-lies width_r width_s sum [] _ _ sound.within tt)
atom-lies width_r width_s (txt left op right) atom sound is = absurd (none-some atom is)

-- ---- the law

-- the key atom of a sound predicate has its columns in the rows, and is true wherever the predicate is
pub key_of-law : (theta : Meaning) (atom : Atom) → IsSound theta.width_r theta.width_s theta.formula
    → key_of theta.formula ≡ Some atom → IsKeyOf theta atom
key_of-law theta atom sound is =
    let member = and_then-some atom_in (key_member (conjuncts theta.formula)) atom is in
    let m = member.0 in
    let chosen_is = chosen theta.width_r theta.width_s (conjuncts theta.formula) m member.1 in
    record {
      lies = atom-lies theta.width_r theta.width_s m atom (member-sound theta.width_r theta.width_s theta.formula m
          sound member.1) member.2;
      follows = λ r s holds. atom-true chosen_is.kind m atom r s chosen_is.is_kind
          (chosen_is.true_of r s (conjuncts-true r s theta.formula holds)) member.2;
    }
