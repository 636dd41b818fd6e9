-- The law's stores and pairs, which go by numbers of steps, are those of the steps that were taken.
use Rattle.std.proofs.Common.{◌≡◌, ℕ, suc, ◌+◌, ◌<◌, ◌≤◌, inl, inr, refl, sym, ◌∙◌, ap, subst, arith, Bool, cond, ◌&&◌}
use Rattle.std.proofs.Common.{List, [], ◌∷◌, ◌++◌, length, eq-eqb}
use Rattle.std.specs.Prelude.{nat_le, filter, sum_by}
use Rattle.std.specs.List.{AllByRecursion}
use Rattle.std.proofs.lemmas.Bool.{cases_eq, ne_eqb, le-leb}
use Rattle.std.proofs.lemmas.List.Sums.{sum_by-cons, sum_by-append}
use Rattle.row_cells.specs.Lists.{SameBag}
use Rattle.row_cells.proofs.Bags.{sum-same, SameBag-trans, SameBag-sym, SameBag-append, SameBag-filter}
use Rattle.epoch_tags.specs.declared.tuple.Tuple.{Tuple}
use Rattle.epoch_tags.specs.declared.tuple.Pair.{Pair}
use Rattle.epoch_tags.specs.declared.message.ToJoiner.{ToJoiner}
use Rattle.epoch_tags.specs.Orders.{TurnsGoBy}
use Rattle.epoch_tags.specs.declared.message.ToJoiner.TheVariants.{Tup, Turn, End, Moved, MovedEnd}
use Rattle.epoch_tags.specs.Messages.{moved_of, turn_shifts}
use Rattle.migration_plan.specs.Steps.{AreNeighbours, holds}
use Rattle.joiner_law.specs.Law.{JoinerStart, Taken, shift_after, partner_of, arrived, store, found, pairs_by}
use Rattle.joiner_law.specs.Law.{is_greater_stamp}
use Rattle.joiner_law.specs.History.{Step, stored, counts_at, all_found, CameOlder}
use Rattle.joiner_law.specs.Standing.{IsHistory, GoesByOne, ArePairs}
use Rattle.joiner_law.proofs.DoubleSums.{weight, double, sum-pairs, sum_two}
use Rattle.joiner_law.proofs.Heart.{pairs-bag}

-- ---- stores

-- the law's store after so many steps is the store of the latest of these steps, as a bag
pub store-is : (s : JoinerStart) (t : Taken) (step : Step) (past : List Step) → IsHistory s t (step ∷ past)
    → SameBag (store s t (length past)) (stored s.k s.id (step ∷ past))
store-is s t step [] is =
    let first = is.0 in
    let at : s.epoch + 0 ≡ s.epoch = omega arith in
    let came : SameBag step.arrived (arrived s t s.epoch) =
    subst (λ e. SameBag step.arrived (arrived s t e)) at first.arrived in
    SameBag-append (SameBag-sym first.came) (SameBag-sym came)
store-is s t step (before ∷ past) is =
    let n = length past in
    let top = is.0 in
    let below = store-is s t before past is.1 in
    let one : s.epoch + suc n ≡ s.epoch + (n + 1) = omega arith in
    let shift : shift_after s t (n + 1) ≡ step.shift = ap t.shift_at (sym one) ∙ top.shift in
    let two : s.epoch + suc n ≡ s.epoch + n + 1 = omega arith in
    let came : SameBag step.arrived (arrived s t (s.epoch + n + 1)) =
    subst (λ e. SameBag step.arrived (arrived s t e)) two top.arrived in
    let kept : SameBag (filter (holds s.k (shift_after s t (n + 1)) s.id) (store s t n))
    (filter (holds s.k step.shift s.id) (stored s.k s.id (before ∷ past))) =
    rw shift (SameBag-filter (holds s.k step.shift s.id) below) in
    three _ _ _ _ _ _ kept (SameBag-sym top.came) (SameBag-sym came)
  where
    three : (us bs cs us' bs' cs' : List Tuple) → SameBag us us' → SameBag bs bs' → SameBag cs cs'
        → SameBag (us ++ bs ++ cs) (us' ++ (bs' ++ cs'))
    three us bs cs us' bs' cs' one two last = record {
      sums = λ f.
          let a = one.sums f in
          let b = two.sums f in
          let c = last.sums f in
          rw (
            sum_by-append f (us ++ bs) cs,
            sum_by-append f us bs,
            sum_by-append f us' (bs' ++ cs'),
            sum_by-append f bs' cs',
          ) (omega arith);
    }

-- ---- pairs

double-right : (w : Tuple → Tuple → ℕ) (xs ys zs : List Tuple)
    → double w xs (ys ++ zs) ≡ double w xs ys + double w xs zs
double-right w xs ys zs =
    sum-same (λ r. sum_by (w r) (ys ++ zs)) (λ r. sum_by (w r) ys + sum_by (w r) zs) (λ r. sum_by-append (w r) ys zs) xs
    ∙ sum_two (λ r. sum_by (w r) ys) (λ r. sum_by (w r) zs) xs

-- the pairs of a base and what arrived: those with something that arrived, and those of the base
pairs-base : (m : Tuple → Tuple → Bool) (base new : List Tuple)
    → SameBag ((pairs_by m new (base ++ new) ++ pairs_by m base new) ++ pairs_by m base base)
    (pairs_by m (base ++ new) (base ++ new))
pairs-base m base new = record {
  sums = λ f.
      let w = weight f m in
      let whole : double w (base ++ new) (base ++ new) ≡ double w base (base ++ new) + double w new (base ++ new) =
      sum_by-append (λ r. sum_by (w r) (base ++ new)) base new in
      let split = double-right w base base new in
      rw (
        sum_by-append f (pairs_by m new (base ++ new) ++ pairs_by m base new) (pairs_by m base base),
        sum_by-append f (pairs_by m new (base ++ new)) (pairs_by m base new),
        sum-pairs f m new (base ++ new),
        sum-pairs f m base new,
        sum-pairs f m base base,
        sum-pairs f m (base ++ new) (base ++ new),
      ) (omega arith);
}

-- the law's pairs, and those of the base with itself, are the pairs of all steps
pub found-is : (s : JoinerStart) (t : Taken) (step : Step) (past : List Step) → IsHistory s t (step ∷ past)
    → SameBag (found s t (length past) ++ pairs_by s.matches s.base s.base)
    (all_found s.matches s.epoch s.k s.id (step ∷ past))
found-is s t step [] is =
    SameBag-trans (pairs-base s.matches s.base (arrived s t s.epoch))
    (pairs-bag s.matches (store s t 0) (stored s.k s.id (step ∷ [])) (store-is s t step [] is))
found-is s t step (before ∷ past) is =
    let n = length past in
    let below = found-is s t before past is.1 in
    let test = counts_at s.matches s.epoch (before ∷ past) in
    let here : SameBag (pairs_by test (store s t (length (before ∷ past))) (store s t (length (before ∷ past))))
    (pairs_by test (stored s.k s.id (step ∷ (before ∷ past))) (stored s.k s.id (step ∷ (before ∷ past)))) =
    pairs-bag test (store s t (length (before ∷ past))) (stored s.k s.id (step ∷ (before ∷ past)))
    (store-is s t step (before ∷ past) is) in
    let same : s.epoch + n + 1 ≡ s.epoch + length (before ∷ past) = omega arith in
    let here' : SameBag (pairs_by (λ r q. s.matches r q && is_greater_stamp (s.epoch + n + 1) r q) (store s t (suc n))
    (store s t (suc n))) (pairs_by test (stored s.k s.id (step ∷ (before ∷ past)))
    (stored s.k s.id (step ∷ (before ∷ past)))) =
    subst (λ (e : ℕ). SameBag (pairs_by (λ r q. s.matches r q && is_greater_stamp e r q) (store s t (suc n))
    (store s t (suc n))) (pairs_by test (stored s.k s.id (step ∷ (before ∷ past)))
    (stored s.k s.id (step ∷ (before ∷ past))))) (sym same) here in
    swap _ _ _ _ _ below here'
  where
    swap : (us bs cs ds es : List Pair) → SameBag (us ++ cs) ds → SameBag bs es → SameBag ((us ++ bs) ++ cs) (ds ++ es)
    swap us bs cs ds es one two = record {
      sums = λ f.
          let a = one.sums f in
          let b = two.sums f in
          rw (
            sum_by-append f (us ++ bs) cs,
            sum_by-append f us bs,
            sum_by-append f ds es,
          ) (omega (arith, a, b, sum_by-append f us cs));
    }

-- what was sent and what waits are the pairs that the law speaks of
pub pairs-law : (s : JoinerStart) (t : Taken) (sent waiting : List Pair) (step : Step) (past : List Step)
    → IsHistory s t (step ∷ past) → CameOlder s.epoch (step ∷ past)
    → ArePairs s sent waiting (step ∷ past) → SameBag (sent ++ waiting) (found s t (length past))
pairs-law s t sent waiting step past is older pairs = record {
  sums = λ f.
      let base = pairs_by s.matches s.base s.base in
      let a = (pairs.pairs older).sums f in
      let b = (found-is s t step past is).sums f in
      omega (arith, a, b, sum_by-append f (sent ++ waiting) base, sum_by-append f (found s t (length past)) base);
}

-- ---- the premise of the pairs: what came is older, as a bag

abbrev newer : ℕ → Tuple → ℕ
newer e x = cond (nat_le x.stamp e) 0 1

none_newer : (e : ℕ) (xs : List Tuple) → AllByRecursion (λ (x : Tuple). x.stamp ≤ e) xs → sum_by (newer e) xs ≡ 0
none_newer e [] all = refl
none_newer e (x ∷ xs) all =
    let rest = none_newer e xs all.1 in
    let here : newer e x ≡ 0 = rw (le-leb x.stamp e all.0) refl in
    omega (arith, sum_by-cons (newer e) x xs)

all_older : (e : ℕ) (xs : List Tuple) → sum_by (newer e) xs ≡ 0 → AllByRecursion (λ (x : Tuple). x.stamp ≤ e) xs
all_older e [] none = tt
all_older e (x ∷ xs) none =
    let split = sum_by-cons (newer e) x xs in
    let here : newer e x ≡ 0 = omega arith in
    let rest : sum_by (newer e) xs ≡ 0 = omega arith in
    (low x.stamp here, all_older e xs rest)
  where
    low : (n : ℕ) → cond {A = ℕ} (nat_le n e) 0 1 ≡ 0 → n ≤ e
    low n is = grind arith

-- where no stamp in a list is above an epoch, none is in any other order of the list
pub older-bag : (e : ℕ) (xs ys : List Tuple) → SameBag xs ys → AllByRecursion (λ (x : Tuple). x.stamp ≤ e) ys
    → AllByRecursion (λ (x : Tuple). x.stamp ≤ e) xs
older-bag e xs ys same all = all_older e xs (same.sums (newer e) ∙ none_newer e ys all)

-- the law's premise is that of the steps
pub older-is : (s : JoinerStart) (t : Taken) (steps : List Step) → IsHistory s t steps
    → AllByRecursion (λ (x : Tuple). x.stamp ≤ s.epoch) s.base
    → ((n : ℕ) → n + 1 < length steps → AllByRecursion (λ (x : Tuple). x.stamp ≤ s.epoch + n)
    (moved_of (s.epoch + n + 1) (t.from_joiner (partner_of s t n)))) → CameOlder s.epoch steps
older-is s t [] is base older = tt
older-is s t (step ∷ []) is base older = older-bag s.epoch step.came s.base is.0.came base
older-is s t (step ∷ (before ∷ past)) is base older = (
  older-bag (s.epoch + length past) step.came _ is.0.came (older (length past) (omega arith)),
  older-is s t (before ∷ past) is.1 base (λ n less. older n (omega arith)),
)

-- ---- shifts

-- where turns go by the shifts, all turns to an epoch carry its shift
pub shifts-are : (b : ℕ → ℕ) (e : ℕ) (ms : List ToJoiner) → TurnsGoBy b ms
    → AllByRecursion (λ shift. shift ≡ b e) (turn_shifts e ms)
shifts-are b e [] by = tt
shifts-are b e (Tup x ∷ ms) by = shifts-are b e ms by
shifts-are b e (Turn epoch shift ∷ ms) by = elim (cases_eq epoch e) [
  | inl is ↦ rw (eq-eqb epoch e is) (by.0 ∙ ap b is, shifts-are b e ms by.1)
  | inr differ ↦ rw (ne_eqb epoch e differ) (shifts-are b e ms by.1)
]
shifts-are b e (End ∷ ms) by = shifts-are b e ms by
shifts-are b e (Moved epoch x ∷ ms) by = shifts-are b e ms by
shifts-are b e (MovedEnd epoch ∷ ms) by = shifts-are b e ms by

-- where each step goes to a neighbouring shift, the law's shifts before and after each are neighbours
pub by_one-law : (s : JoinerStart) (t : Taken) (step : Step) (past : List Step) (n : ℕ) → IsHistory s t (step ∷ past)
    → GoesByOne (step ∷ past) → n < length past → AreNeighbours (shift_after s t n) (shift_after s t (n + 1))
by_one-law s t step [] n is by low = absurd (omega arith)
by_one-law s t step (before ∷ past) n is by low = elim (cases_eq n (length past)) [
  | inl same ↦
      let here : shift_after s t n ≡ before.shift = ap (λ i. t.shift_at (s.epoch + i)) same ∙ is.1.0.shift in
      let next : s.epoch + (n + 1) ≡ s.epoch + length (before ∷ past) = omega arith in
      let there : shift_after s t (n + 1) ≡ step.shift = ap t.shift_at next ∙ is.0.shift in
      rw (here, there) by.0
  | inr differ ↦ by_one-law s t before past n is.1 by.1 (omega arith)
]
