-- Which of the messages that came a joiner can take.
use Rattle.std.proofs.Common.{◌≡◌, ℕ, ◌+◌, ◌<◌, ◌≤◌, ◌⊎◌, inl, inr, refl, sym, ◌∙◌, subst, arith, Bool, true, false}
use Rattle.std.proofs.Common.{cond, List, [], ◌∷◌, ◌++◌, length}
use Rattle.std.specs.Prelude.{◌==◌, ⊤}
use Rattle.std.proofs.lemmas.Bool.{cases_Bool, eqb-true, eq-eqb}
use Rattle.epoch_tags.specs.declared.message.ToJoiner.{ToJoiner}
use Rattle.epoch_tags.specs.declared.message.ToJoiner.TheVariants.{Tup, Turn, End, Moved as Moved', MovedEnd}
use Rattle.epoch_tags.specs.Messages.{moved_of, moved_ends, turns, ends}
use Rattle.epoch_tags.specs.Orders.{NeverFalls, CountsUp}
use Rattle.migration_plan.specs.Steps.{AreNeighbours}
use Rattle.joiner_law.specs.Law.{JoinerStart, Taken, opened, shift_after, CanTakeOfFeeder}

-- ---- of a feeder

-- no end stands before another message of a feeder
pub counts_ends : (e : ℕ) (xs ys : List ToJoiner) (m : ToJoiner) → CountsUp e (xs ++ m ∷ ys) → ends xs ≡ 0
counts_ends e [] ys m up = refl
counts_ends e (Tup x ∷ xs) ys m (is, up) = counts_ends e xs ys m up
counts_ends e (Turn epoch shift ∷ xs) ys m (is, up) = counts_ends (e + 1) xs ys m up
counts_ends e (End ∷ []) ys m up = absurd (cc)
counts_ends e (End ∷ (x ∷ xs)) ys m up = absurd (cc)
counts_ends e (Moved' epoch x ∷ xs) ys m up = absurd up
counts_ends e (MovedEnd epoch ∷ xs) ys m up = absurd up

-- what the list says of the message at the place after xs
abbrev pub StandsAt : ℕ → ToJoiner → Type 0
StandsAt e (Tup x) = x.stamp ≡ e
StandsAt e (Turn epoch shift) = epoch ≡ e + 1
StandsAt e End = ⊤
StandsAt e (Moved' epoch x) = ⊥
StandsAt e (MovedEnd epoch) = ⊥

counts_first : (e : ℕ) (m : ToJoiner) (ys : List ToJoiner) → CountsUp e (m ∷ ys) → StandsAt e m
counts_first e (Tup x) ys up = up.0
counts_first e (Turn epoch shift) ys up = up.0
counts_first e End ys up = tt
counts_first e (Moved' epoch x) ys up = up
counts_first e (MovedEnd epoch) ys up = up

-- a feeder's tuple is of the epoch to which the turns before it lead, and its turn leads to the next
pub counts_at : (e : ℕ) (xs ys : List ToJoiner) (m : ToJoiner) → CountsUp e (xs ++ m ∷ ys) → StandsAt (e + turns xs) m
counts_at e [] ys m up = let is : e + 0 ≡ e = omega arith in subst (λ v. StandsAt v m) (sym is) (counts_first e m ys up)
counts_at e (Tup x ∷ xs) ys m (is, up) = counts_at e xs ys m up
counts_at e (Turn epoch shift ∷ xs) ys m (is, up) =
    let more : e + 1 + turns xs ≡ e + (turns xs + 1) = omega arith in
    subst (λ v. StandsAt v m) more (counts_at (e + 1) xs ys m up)
counts_at e (End ∷ []) ys m up = absurd (cc)
counts_at e (End ∷ (x ∷ xs)) ys m up = absurd (cc)
counts_at e (Moved' epoch x ∷ xs) ys m up = absurd up
counts_at e (MovedEnd epoch ∷ xs) ys m up = absurd up

-- every message of a feeder can be taken but a turn past the open step
pub can_take_of_feeder : (s : JoinerStart) (t : Taken) (done p : ℕ) (m : ToJoiner) → ends (t.from_feeder p) ≡ 0
    → StandsAt (s.epoch + turns (t.from_feeder p)) m
    → turns (t.from_feeder p) ≡ done
    → ((epoch shift : ℕ) → m ≡ Turn epoch shift → (shift ≤ s.k) × AreNeighbours (shift_after s t done) shift
    × (done < opened s t → shift ≡ shift_after s t (done + 1)))
    → CanTakeOfFeeder s t done p m
can_take_of_feeder s t done p (Tup x) none at is turn = (none, at)
can_take_of_feeder s t done p (Turn epoch shift) none at is turn =
    let c = turn epoch shift refl in (none, is, omega arith, c.0, c.1, c.2)
can_take_of_feeder s t done p End none at is turn = none
can_take_of_feeder s t done p (Moved' epoch x) none at is turn = at
can_take_of_feeder s t done p (MovedEnd epoch) none at is turn = at

-- and of those at an earlier place, all but a turn
pub can_take_no_turn : (s : JoinerStart) (t : Taken) (done p : ℕ) (m : ToJoiner) → ends (t.from_feeder p) ≡ 0
    → StandsAt (s.epoch + turns (t.from_feeder p)) m
    → ((epoch shift : ℕ) → m ≡ Turn epoch shift → ⊥) → CanTakeOfFeeder s t done p m
can_take_no_turn s t done p (Tup x) none at turn = (none, at)
can_take_no_turn s t done p (Turn epoch shift) none at turn = absurd (turn epoch shift refl)
can_take_no_turn s t done p End none at turn = none
can_take_no_turn s t done p (Moved' epoch x) none at turn = at
can_take_no_turn s t done p (MovedEnd epoch) none at turn = at

-- ---- of a joiner

-- its epoch, where it is of a joiner
abbrev pub IsOfEpoch : ℕ → ToJoiner → Type 0
IsOfEpoch e (Tup x) = ⊥
IsOfEpoch e (Turn epoch shift) = ⊥
IsOfEpoch e End = ⊥
IsOfEpoch e (Moved' epoch x) = epoch ≡ e
IsOfEpoch e (MovedEnd epoch) = epoch ≡ e

-- all that comes is of an epoch, which isn't lower than those before
pub at_least : (f : ℕ) (xs ys : List ToJoiner) (m : ToJoiner) → NeverFalls f (xs ++ m ∷ ys) → (e : ℕ) × IsOfEpoch e m
    × (f ≤ e)
at_least f [] ys (Tup x) falls = absurd falls
at_least f [] ys (Turn epoch shift) falls = absurd falls
at_least f [] ys End falls = absurd falls
at_least f [] ys (Moved' epoch x) (low, falls) = (epoch, refl, low)
at_least f [] ys (MovedEnd epoch) (low, falls) = (epoch, refl, low)
at_least f (Tup x ∷ xs) ys m falls = absurd falls
at_least f (Turn epoch shift ∷ xs) ys m falls = absurd falls
at_least f (End ∷ xs) ys m falls = absurd falls
at_least f (Moved' epoch x ∷ xs) ys m (low, falls) = let r = at_least epoch xs ys m falls in
    (r.0, r.1, omega (arith, r.2))
at_least f (MovedEnd epoch ∷ xs) ys m (low, falls) = let r = at_least (epoch + 1) xs ys m falls in
    (r.0, r.1, omega (arith, r.2))

one_epoch : (e e' : ℕ) (m : ToJoiner) → IsOfEpoch e m → IsOfEpoch e' m → e ≡ e'
one_epoch e e' (Tup x) a b = absurd a
one_epoch e e' (Turn epoch shift) a b = absurd a
one_epoch e e' End a b = absurd a
one_epoch e e' (Moved' epoch x) a b = sym a ∙ b
one_epoch e e' (MovedEnd epoch) a b = sym a ∙ b

-- after the end of an epoch only later ones come
pub later : (f e v : ℕ) (xs ys : List ToJoiner) (m : ToJoiner) → NeverFalls f (xs ++ m ∷ ys) → 0 < moved_ends e xs
    → IsOfEpoch v m → e < v
later f e v [] ys m falls has is = absurd (omega arith)
later f e v (Tup x ∷ xs) ys m falls has is = absurd falls
later f e v (Turn epoch shift ∷ xs) ys m falls has is = absurd falls
later f e v (End ∷ xs) ys m falls has is = absurd falls
later f e v (Moved' epoch x ∷ xs) ys m (low, falls) has is = later epoch e v xs ys m falls has is
later f e v (MovedEnd epoch ∷ xs) ys m (low, falls) has is = elim (cases_Bool (epoch == e)) [
  | inl same ↦
      let at = eqb-true epoch e same in
      let r = at_least (epoch + 1) xs ys m falls in
      let one = one_epoch v r.0 m is r.1 in
      omega (arith, r.2)
  | inr differ ↦ let has' : 0 < moved_ends e xs = rw differ at has in later (epoch + 1) e v xs ys m falls has' is
]

-- before it only earlier ones
ends_above : (f e : ℕ) (ms : List ToJoiner) → NeverFalls f ms → 0 < moved_ends e ms → f ≤ e
ends_above f e [] falls has = absurd (omega arith)
ends_above f e (Tup x ∷ ms) falls has = absurd falls
ends_above f e (Turn epoch shift ∷ ms) falls has = absurd falls
ends_above f e (End ∷ ms) falls has = absurd falls
ends_above f e (Moved' epoch x ∷ ms) (low, falls) has = let rest = ends_above epoch e ms falls has in omega arith
ends_above f e (MovedEnd epoch ∷ ms) (low, falls) has = elim (cases_Bool (epoch == e)) [
  | inl same ↦ let at = eqb-true epoch e same in omega arith
  | inr differ ↦ let has' : 0 < moved_ends e ms = rw differ at has in
      let rest = ends_above (epoch + 1) e ms falls has' in omega arith
]

-- up to the end of an epoch nothing of a later one comes
pub sooner : (f e v : ℕ) (m : ToJoiner) (ys : List ToJoiner) → NeverFalls f (m ∷ ys) → 0 < moved_ends e (m ∷ ys)
    → IsOfEpoch v m → v ≤ e
sooner f e v (Tup x) ys falls has is = absurd falls
sooner f e v (Turn epoch shift) ys falls has is = absurd falls
sooner f e v End ys falls has is = absurd falls
sooner f e v (Moved' epoch x) ys (low, falls) has is = let rest = ends_above epoch e ys falls has in omega arith
sooner f e v (MovedEnd epoch) ys (low, falls) has is = elim (cases_Bool (epoch == e)) [
  | inl same ↦ let at = eqb-true epoch e same in omega arith
  | inr differ ↦ let has' : 0 < moved_ends e ys = rw differ at has in
      let rest = ends_above (epoch + 1) e ys falls has' in omega arith
]

-- a rest of such a list is such a list
pub rest_falls : (f : ℕ) (xs ys : List ToJoiner) → NeverFalls f (xs ++ ys) → (g : ℕ) × NeverFalls g ys
rest_falls f [] ys falls = (f, falls)
rest_falls f (Tup x ∷ xs) ys falls = absurd falls
rest_falls f (Turn epoch shift ∷ xs) ys falls = absurd falls
rest_falls f (End ∷ xs) ys falls = absurd falls
rest_falls f (Moved' epoch x ∷ xs) ys (low, falls) = rest_falls epoch xs ys falls
rest_falls f (MovedEnd epoch ∷ xs) ys (low, falls) = rest_falls (epoch + 1) xs ys falls

-- a message of an epoch shows in the list
pub shows : (e : ℕ) (xs ys : List ToJoiner) (m : ToJoiner) → IsOfEpoch e m → (0 < length (moved_of e (xs ++ m ∷ ys)))
    ⊎ (0 < moved_ends e (xs ++ m ∷ ys))
shows e [] ys (Tup x) is = absurd is
shows e [] ys (Turn epoch shift) is = absurd is
shows e [] ys End is = absurd is
shows e [] ys (Moved' epoch x) is = inl (rw (eq-eqb epoch e is) (omega arith))
shows e [] ys (MovedEnd epoch) is = inr (rw (eq-eqb epoch e is) (omega arith))
shows e (Tup x ∷ xs) ys m is = shows e xs ys m is
shows e (Turn epoch shift ∷ xs) ys m is = shows e xs ys m is
shows e (End ∷ xs) ys m is = shows e xs ys m is
shows e (Moved' epoch x ∷ xs) ys m is = by_test (epoch == e) (shows e xs ys m is)
  where
    by_test : (t : Bool) → (0 < length (moved_of e (xs ++ m ∷ ys))) ⊎ (0 < moved_ends e (xs ++ m ∷ ys))
        → (0 < length (cond t (x ∷ moved_of e (xs ++ m ∷ ys)) (moved_of e (xs ++ m ∷ ys))))
        ⊎ (0 < moved_ends e (xs ++ m ∷ ys))
    by_test true rest = inl (omega arith)
    by_test false rest = rest
shows e (MovedEnd epoch ∷ xs) ys m is = by_test (epoch == e) (shows e xs ys m is)
  where
    by_test : (t : Bool) → (0 < length (moved_of e (xs ++ m ∷ ys))) ⊎ (0 < moved_ends e (xs ++ m ∷ ys))
        → (0 < length (moved_of e (xs ++ m ∷ ys)))
        ⊎ (0 < cond t (moved_ends e (xs ++ m ∷ ys) + 1) (moved_ends e (xs ++ m ∷ ys)))
    by_test true rest = inr (omega arith)
    by_test false rest = rest
