-- How many events a family has.
use Rattle.std.proofs.Common.{◌≡◌, ℕ, ◌+◌, ◌-◌, ◌*◌, ◌<◌, ◌≤◌, ◌⊎◌, inl, inr, sym, ◌∙◌, subst, arith, Bool, true, false}
use Rattle.std.proofs.Common.{cond, List, [], ◌∷◌, ◌++◌, length, append_assoc}
use Rattle.std.specs.Prelude.{◌==◌, ◌/◌, ◌%◌, ⊤}
use Rattle.std.proofs.lemmas.Bool.{cases_eq, cases_lt, eq-eqb, ne_eqb}
use Rattle.std.proofs.lemmas.Nat.{mul-le}
use Rattle.row_cells.specs.Lists.{total}
use Rattle.row_cells.proofs.Totals.{total_same, total_one, total-zero}
use Rattle.epoch_tags.specs.declared.message.ToJoiner.{ToJoiner}
use Rattle.epoch_tags.specs.declared.message.ToJoiner.TheVariants.{Tup, Turn, End, Moved, MovedEnd}
use Rattle.epoch_tags.specs.Messages.{moved_of, moved_ends}
use Rattle.epoch_tags.specs.Orders.{NeverFalls}
use Rattle.joiner_law.proofs.TakesAll.{at_least, shows, IsOfEpoch}

-- ---- of the controller and feeders

-- ---- of a feeder and a joiner

-- ---- between joiners

-- each message is of one of the n epochs after c
abbrev EpochsWithin : ℕ → ℕ → List ToJoiner → Type 0
EpochsWithin c n [] = ⊤
EpochsWithin c n (Tup x ∷ ms) = ⊥
EpochsWithin c n (Turn epoch shift ∷ ms) = ⊥
EpochsWithin c n (End ∷ ms) = ⊥
EpochsWithin c n (Moved epoch x ∷ ms) = (c < epoch) × (epoch ≤ c + n) × EpochsWithin c n ms
EpochsWithin c n (MovedEnd epoch ∷ ms) = (c < epoch) × (epoch ≤ c + n) × EpochsWithin c n ms

one_within : (c n e : ℕ) (m : ToJoiner) (ms : List ToJoiner) → IsOfEpoch e m → c < e → e ≤ c + n → EpochsWithin c n ms
    → EpochsWithin c n (m ∷ ms)
one_within c n e (Tup x) ms is pos low rest = is
one_within c n e (Turn epoch shift) ms is pos low rest = is
one_within c n e End ms is pos low rest = is
one_within c n e (Moved epoch x) ms is pos low rest = (omega arith, omega arith, rest)
one_within c n e (MovedEnd epoch) ms is pos low rest = (omega arith, omega arith, rest)

-- messages whose epochs lie between two bounds lie between them each
pub all_within : (c n f : ℕ) (xs ms : List ToJoiner) → NeverFalls f (xs ++ ms)
    → ((e : ℕ) → (0 < length (moved_of e (xs ++ ms))) ⊎ (0 < moved_ends e (xs ++ ms)) → (c < e) × (e ≤ c + n))
    → EpochsWithin c n ms
all_within c n f xs [] falls each = tt
all_within c n f xs (m ∷ ms) falls each =
    let here = at_least f xs ms m falls in
    let bounds = each here.0 (shows here.0 xs ms m here.1) in
    let join : (xs ++ m ∷ []) ++ ms ≡ xs ++ m ∷ ms = append_assoc xs (m ∷ []) ms in
    one_within c n here.0 m ms here.1 bounds.0 bounds.1
    (all_within c n f (xs ++ m ∷ []) ms (subst (λ ys. NeverFalls f ys) (sym join) falls)
    (subst (λ ys. (e : ℕ) → (0 < length (moved_of e ys)) ⊎ (0 < moved_ends e ys) → (c < e) × (e ≤ c + n)) (sym join)
    each))

same_epoch : (c epoch i : ℕ) → c < epoch → (epoch == c + i + 1) ≡ (epoch - (c + 1) == i)
same_epoch c epoch i pos = elim (cases_eq epoch (c + i + 1)) [
  | inl is ↦ let other : epoch - (c + 1) ≡ i = omega arith in
      eq-eqb epoch (c + i + 1) is ∙ sym (eq-eqb (epoch - (c + 1)) i other)
  | inr differ ↦ ne_eqb epoch (c + i + 1) differ ∙ sym (ne_eqb (epoch - (c + 1)) i (λ same. differ (omega arith)))
]

-- such messages are as many as those of each epoch together
pub by_epochs : (c n : ℕ) (ms : List ToJoiner) → EpochsWithin c n ms
    → length ms ≡ total n (λ i. length (moved_of (c + i + 1) ms) + moved_ends (c + i + 1) ms)
by_epochs c n [] within = sym (total-zero n)
by_epochs c n (Tup x ∷ ms) within = absurd within
by_epochs c n (Turn epoch shift ∷ ms) within = absurd within
by_epochs c n (End ∷ ms) within = absurd within
by_epochs c n (Moved epoch x ∷ ms) (pos, low, within) =
    let rest = by_epochs c n ms within in
    let one =
    total_one n (epoch - (c + 1)) 1 (λ i. length (moved_of (c + i + 1) ms) + moved_ends (c + i + 1) ms)
    (omega arith) in
    let same =
    total_same n
    (λ i. length (moved_of (c + i + 1) (Moved epoch x ∷ ms)) + moved_ends (c + i + 1) (Moved epoch x ∷ ms))
    (λ i. length (moved_of (c + i + 1) ms) + moved_ends (c + i + 1) ms + cond (epoch - (c + 1) == i) 1 0)
    (λ i l. by_test i (epoch == c + i + 1) (epoch - (c + 1) == i) (same_epoch c epoch i pos)) in
    omega arith
  where
    by_test : (i : ℕ) (t u : Bool) → t ≡ u
        → length (cond t (x ∷ moved_of (c + i + 1) ms) (moved_of (c + i + 1) ms)) + moved_ends (c + i + 1) ms
        ≡ length (moved_of (c + i + 1) ms) + moved_ends (c + i + 1) ms + cond u 1 0
    by_test i true u is = rw (← is) (omega arith)
    by_test i false u is = rw (← is) (omega arith)
by_epochs c n (MovedEnd epoch ∷ ms) (pos, low, within) =
    let rest = by_epochs c n ms within in
    let one =
    total_one n (epoch - (c + 1)) 1 (λ i. length (moved_of (c + i + 1) ms) + moved_ends (c + i + 1) ms)
    (omega arith) in
    let same =
    total_same n
    (λ i. length (moved_of (c + i + 1) (MovedEnd epoch ∷ ms)) + moved_ends (c + i + 1) (MovedEnd epoch ∷ ms))
    (λ i. length (moved_of (c + i + 1) ms) + moved_ends (c + i + 1) ms + cond (epoch - (c + 1) == i) 1 0)
    (λ i l. by_test i (epoch == c + i + 1) (epoch - (c + 1) == i) (same_epoch c epoch i pos)) in
    omega arith
  where
    by_test : (i : ℕ) (t u : Bool) → t ≡ u
        → length (moved_of (c + i + 1) ms) + cond t (moved_ends (c + i + 1) ms + 1) (moved_ends (c + i + 1) ms)
        ≡ length (moved_of (c + i + 1) ms) + moved_ends (c + i + 1) ms + cond u 1 0
    by_test i true u is = rw (← is) (omega arith)
    by_test i false u is = rw (← is) (omega arith)

-- ---- batches are no more than rows

-- n rows make no more than n batches
pub few_pieces : (n size : ℕ) → 0 < size → (n + size - 1) / size ≤ n
few_pieces n size pos = elim (cases_lt n ((n + size - 1) / size)) [
  | inr low ↦ low
  | inl more ↦
      let q = (n + size - 1) / size in
      let split : size * q + (n + size - 1) % size ≡ n + size - 1 = omega arith in
      let big : size * (n + 1) ≤ size * q = mul-le size (n + 1) size q (omega arith) (omega arith) in
      let small : 1 * n ≤ size * n = mul-le 1 n size n (omega arith) (omega arith) in
      absurd (omega arith)
]
