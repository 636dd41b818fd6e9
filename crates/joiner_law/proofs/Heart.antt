-- Stores and pairs as the joiner takes one tuple more, and as it opens a step.
use Rattle.std.proofs.Common.{◌≡◌, ℕ, ◌+◌, ◌<◌, ◌≤◌, inl, inr, refl, sym, ◌∙◌, ap, subst, arith, Bool, true, false}
use Rattle.std.proofs.Common.{cond, ◌&&◌, List, [], ◌∷◌, ◌++◌, length, eq-eqb, append_assoc}
use Rattle.std.specs.Prelude.{◌==◌, max, filter, sum_by}
use Rattle.std.specs.List.{AllByRecursion}
use Rattle.std.proofs.lemmas.Bool.{cases_eq, ne_eqb}
use Rattle.std.proofs.lemmas.List.Sums.{sum_by-cons, sum_by-append}
use Rattle.row_cells.specs.declared.table.Side.{Side}
use Rattle.row_cells.specs.declared.table.Side.TheVariants.{R, S}
use Rattle.row_cells.specs.Lists.{SameBag}
use Rattle.row_cells.proofs.Bags.{only_if, sum-same, sum-filter, sum_of_map, SameBag-refl, SameBag-trans}
use Rattle.row_cells.proofs.Bags.{SameBag-filter, SameBag-map, SameBag-append}
use Rattle.epoch_tags.specs.declared.tuple.Tuple.{Tuple}
use Rattle.epoch_tags.specs.declared.tuple.Pair.{Pair}
use Rattle.migration_plan.specs.Steps.{holds, is_of, same_side}
use Rattle.joiner_law.specs.Law.{pair_of, pairs_by}
use Rattle.joiner_law.specs.History.{Step, stored, counts_at, all_found, AllUpTo, CameOlder, ArrivedInTime}
use Rattle.joiner_law.specs.History.{with_arrived, with_came, new_step, all_tuples, only_stamp, probed_at, probed}
use Rattle.joiner_law.proofs.DoubleSums.{weight, double, sum-pairs, double-bag, double-add, double-none, not_both}
use Rattle.std.proofs.lemmas.List.{append-nil}
use Rattle.row_cells.proofs.Totals.{sum_plus, sum_same_on}

-- ---- stores

-- one tuple more that arrived in the latest step is one more in its store
pub stored-arrived : (k id : ℕ) (x : Tuple) (step : Step) (past : List Step)
    → SameBag (stored k id (with_arrived x step ∷ past)) (x ∷ stored k id (step ∷ past))
stored-arrived k id x step past = record {
  sums = λ f.
      let kept = filter (holds k step.shift id) (stored k id past) in
      rw (
        sum_by-append f kept (step.came ++ (x ∷ step.arrived)),
        sum_by-append f step.came (x ∷ step.arrived),
        sum_by-cons f x step.arrived,
        sum_by-cons f x (kept ++ (step.came ++ step.arrived)),
        sum_by-append f kept (step.came ++ step.arrived),
        sum_by-append f step.came step.arrived,
      )
      (omega arith);
}

-- and so is one more that came
pub stored-came : (k id : ℕ) (x : Tuple) (step : Step) (past : List Step)
    → SameBag (stored k id (with_came x step ∷ past)) (x ∷ stored k id (step ∷ past))
stored-came k id x step past = record {
  sums = λ f.
      let kept = filter (holds k step.shift id) (stored k id past) in
      rw (
        sum_by-append f kept ((x ∷ step.came) ++ step.arrived),
        sum_by-cons f x (step.came ++ step.arrived),
        sum_by-cons f x (kept ++ (step.came ++ step.arrived)),
        sum_by-append f kept (step.came ++ step.arrived),
      )
      (omega arith);
}

-- where the store before has one more, it is there too if it is kept
abbrev pub if_kept : Bool → Tuple → List Tuple → List Tuple
if_kept kept x xs = cond kept (x ∷ xs) xs

if_kept-append : (kept : Bool) (x : Tuple) (xs ys : List Tuple) → if_kept kept x xs ++ ys ≡ if_kept kept x (xs ++ ys)
if_kept-append true x xs ys = refl
if_kept-append false x xs ys = refl

-- a late tuple, of the step before the latest, is one more in the latest store if it is kept there
pub stored-under : (k id : ℕ) (x : Tuple) (new cur : Step) (past : List Step)
    → SameBag (stored k id (new ∷ (with_arrived x cur ∷ past)))
    (if_kept (holds k new.shift id x) x (stored k id (new ∷ (cur ∷ past))))
stored-under k id x new cur past =
    let keep = holds k new.shift id in
    let below : SameBag (filter keep (stored k id (with_arrived x cur ∷ past)))
    (filter keep (x ∷ stored k id (cur ∷ past))) = SameBag-filter keep (stored-arrived k id x cur past) in
    let whole : SameBag (filter keep (stored k id (with_arrived x cur ∷ past)) ++ (new.came ++ new.arrived))
    (filter keep (x ∷ stored k id (cur ∷ past)) ++ (new.came ++ new.arrived)) =
    SameBag-append below (SameBag-refl (new.came ++ new.arrived)) in
    subst (λ (zs : List Tuple). SameBag (stored k id (new ∷ (with_arrived x cur ∷ past))) zs)
    (if_kept-append (keep x) x (filter keep (stored k id (cur ∷ past))) (new.came ++ new.arrived)) whole

-- a step that is just opened stores what it keeps of the store before
pub stored-new : (k id shift : ℕ) (past : List Step) → stored k id (new_step shift ∷ past)
    ≡ filter (holds k shift id) (stored k id past)
stored-new k id shift past = append-nil (filter (holds k shift id) (stored k id past))

-- ---- stamps

AllUpTo-filter : (e : ℕ) (keep : Tuple → Bool) (xs : List Tuple) → AllUpTo e xs → AllUpTo e (filter keep xs)
AllUpTo-filter e keep [] all = tt
AllUpTo-filter e keep (x ∷ xs) all = either (keep x) all.0 (AllUpTo-filter e keep xs all.1)
  where
    either : (kept : Bool) → x.stamp ≤ e → AllUpTo e (filter keep xs)
        → AllUpTo e (cond kept (x ∷ filter keep xs) (filter keep xs))
    either true low rest = (low, rest)
    either false low rest = rest

AllUpTo-append : (e : ℕ) (xs ys : List Tuple) → AllUpTo e xs → AllUpTo e ys → AllUpTo e (xs ++ ys)
AllUpTo-append e [] ys left right = right
AllUpTo-append e (x ∷ xs) ys left right = (left.0, AllUpTo-append e xs ys left.1 right)

AllUpTo-more : (e f : ℕ) (xs : List Tuple) → e ≤ f → AllUpTo e xs → AllUpTo f xs
AllUpTo-more e f [] le all = tt
AllUpTo-more e f (x ∷ xs) le all = (let low : x.stamp ≤ e = all.0 in omega arith, AllUpTo-more e f xs le all.1)

AllUpTo-same : (e n : ℕ) (xs : List Tuple) → n ≡ e → AllByRecursion (λ (x : Tuple). x.stamp ≡ n) xs → AllUpTo e xs
AllUpTo-same e n [] is all = tt
AllUpTo-same e n (x ∷ xs) is all = (let here : x.stamp ≡ n = all.0 in omega arith, AllUpTo-same e n xs is all.1)

-- no stamp in a store is above its epoch, where what came is older and what arrived is in time
pub stored-up_to : (epoch k id : ℕ) (step : Step) (past : List Step) → CameOlder epoch (step ∷ past)
    → ArrivedInTime epoch (step ∷ past) → AllUpTo (epoch + length past) (stored k id (step ∷ past))
stored-up_to epoch k id step [] older in_time =
    AllUpTo-append (epoch + 0) step.came step.arrived (AllUpTo-more epoch (epoch + 0) step.came (omega arith) older)
    (AllUpTo-same (epoch + 0) (epoch + 0) step.arrived refl in_time.0)
stored-up_to epoch k id step (before ∷ past) older in_time =
    let low = epoch + length past in
    let top = epoch + length (before ∷ past) in
    let le : low ≤ top = omega arith in
    let rest : AllUpTo low (stored k id (before ∷ past)) = stored-up_to epoch k id before past older.1 in_time.1 in
    AllUpTo-append top (filter (holds k step.shift id) (stored k id (before ∷ past))) (step.came ++ step.arrived)
    (AllUpTo-filter top (holds k step.shift id) (stored k id (before ∷ past))
    (AllUpTo-more low top (stored k id (before ∷ past)) le rest))
    (AllUpTo-append top step.came step.arrived (AllUpTo-more low top step.came le older.0)
    (AllUpTo-same top top step.arrived refl in_time.0))

-- ---- a probe, and the pairs that a tuple more makes

-- what a tuple of that side and a stored one add, where the two tests pass
abbrev both_ways : Side → Bool → Bool → Tuple → ℕ → ℕ → ℕ
both_ways side t u y m n = only_if (same_side R side) (only_if (is_of S y && t) m)
    + only_if (is_of R y) (only_if (same_side S side && u) n)

both-r : (b u : Bool) (m n : ℕ) → m ≡ m + only_if b (only_if (false && u) n)
both-r true u m n = omega arith
both-r false u m n = omega arith

both-s : (b u : Bool) (n : ℕ) → only_if (b && u) n ≡ 0 + only_if b (only_if (true && u) n)
both-s true u n = omega arith
both-s false u n = omega arith

sum-probed_at : (side : Side) (f : Pair → ℕ) (m : Tuple → Tuple → Bool) (names : Tuple
    → Bool) (x : Tuple) (ys : List Tuple)
    → sum_by f (probed_at side m names x ys) ≡ sum_by (λ y. both_ways side (m x y && names y) (m y x && names y) y
    (f (pair_of x y)) (f (pair_of y x))) ys
sum-probed_at R f m names x ys =
    sum_of_map f (pair_of x) (filter (λ q. is_of S q && (m x q && names q)) ys)
    ∙ sum-filter (λ q. f (pair_of x q)) (λ q. is_of S q && (m x q && names q)) ys
    ∙ sum-same _ _ (λ y. both-r (is_of R y) (m y x && names y)
    (only_if (is_of S y && (m x y && names y)) (f (pair_of x y))) (f (pair_of y x))) ys
sum-probed_at S f m names x ys =
    sum_of_map f (λ r. pair_of r x) (filter (λ r. is_of R r && (m r x && names r)) ys)
    ∙ sum-filter (λ r. f (pair_of r x)) (λ r. is_of R r && (m r x && names r)) ys
    ∙ sum-same _ _ (λ y. both-s (is_of R y) (m y x && names y) (f (pair_of y x))) ys

-- the test agrees with the probe on the stored tuples
pub record Agrees (test m : Tuple → Tuple → Bool) (names : Tuple → Bool) (x : Tuple) (P : Tuple → Type 0) : Type 0 where
  pub from_left : (y : Tuple) → P y → test x y ≡ (m x y && names y)
  pub from_right : (y : Tuple) → P y → test y x ≡ (m y x && names y)

sum-agrees : (f : Pair → ℕ) (test m : Tuple → Tuple → Bool) (names : Tuple → Bool) (x : Tuple) (P : Tuple → Type 0)
    → Agrees test m names x P
    → (ys : List Tuple) → AllByRecursion P ys → sum_by (weight f test x) ys + sum_by (λ r. weight f test r x) ys
    ≡ sum_by f (probed m names x ys)
sum-agrees f test m names x P agrees ys all =
    sum_plus (weight f test x) (λ r. weight f test r x) ys
    ∙ sum_same_on P _ _ each ys all
    ∙ sym (sum-probed_at x.side f m names x ys)
  where
    each : (y : Tuple) → P y → weight f test x y + weight f test y x
        ≡ both_ways x.side (m x y && names y) (m y x && names y) y (f (pair_of x y)) (f (pair_of y x))
    each y p = rw (agrees.from_left y p, agrees.from_right y p) refl

probed_at-bag : (side : Side) (m : Tuple → Tuple → Bool) (names : Tuple → Bool) (x : Tuple) (xs ys : List Tuple)
    → SameBag xs ys → SameBag (probed_at side m names x xs) (probed_at side m names x ys)
probed_at-bag R m names x xs ys same = SameBag-map (pair_of x)
    (SameBag-filter (λ q. is_of S q && (m x q && names q)) same)
probed_at-bag S m names x xs ys same = SameBag-map (λ r. pair_of r x)
    (SameBag-filter (λ r. is_of R r && (m r x && names r)) same)

module _ (test m : Tuple → Tuple → Bool) (names : Tuple → Bool) (x : Tuple) (P : Tuple → Type 0) where
  -- the pairs of a store that has one tuple more: those before, and what the probe finds in a list that is the store as
  -- a bag
  pub pairs-more : Agrees test m names x P
      → (xs ys zs : List Tuple) → AllByRecursion P ys → SameBag zs (x ∷ ys) → SameBag xs ys
      → SameBag (pairs_by test zs zs) (pairs_by test ys ys ++ probed m names x xs)
  pairs-more agrees xs ys zs all more same = record {
    sums = λ f.
        let w = weight f test in
        let whole : sum_by f (pairs_by test zs zs) ≡ double w zs zs = sum-pairs f test zs zs in
        let moved : double w zs zs ≡ double w (x ∷ ys) (x ∷ ys) = double-bag w zs (x ∷ ys) zs (x ∷ ys) more more in
        let split : double w (x ∷ ys) (x ∷ ys) ≡ double w ys ys + (sum_by (w x) ys + sum_by (λ r. w r x) ys) =
        double-add w x ys (not_both f test x) in
        let before : sum_by f (pairs_by test ys ys) ≡ double w ys ys = sum-pairs f test ys ys in
        let found : sum_by (w x) ys + sum_by (λ r. w r x) ys ≡ sum_by f (probed m names x ys) =
        sum-agrees f test m names x P agrees ys all in
        let as_bag : sum_by f (probed m names x xs) ≡ sum_by f (probed m names x ys) =
        (probed_at-bag x.side m names x xs ys same).sums f in
        let joined : sum_by f (pairs_by test ys ys ++ probed m names x xs) ≡ sum_by f (pairs_by test ys ys)
        + sum_by f (probed m names x xs) = sum_by-append f (pairs_by test ys ys) (probed m names x xs) in
        rw joined (omega arith);
  }

-- the pairs of two lists that are one bag
pub pairs-bag : (test : Tuple → Tuple → Bool) (xs ys : List Tuple) → SameBag xs ys
    → SameBag (pairs_by test xs xs) (pairs_by test ys ys)
pairs-bag test xs ys same = record {
  sums = λ f. sum-pairs f test xs xs ∙ double-bag (weight f test) xs ys xs ys same same ∙ sym (sum-pairs f test ys ys);
}

-- ---- the two kinds of probe

and-true : (b : Bool) → b ≡ (b && true)
and-true true = refl
and-true false = refl

-- a tuple of the latest epoch looks at all
agrees-all : (m : Tuple → Tuple → Bool) (epoch : ℕ) (past : List Step) (x : Tuple) → x.stamp ≡ epoch + length past
    → Agrees (counts_at m epoch past) m all_tuples x (λ (y : Tuple). y.stamp ≤ epoch + length past)
agrees-all m epoch [] x is = record { from_left = λ y low. and-true (m x y); from_right = λ y low. and-true (m y x) }
agrees-all m epoch (before ∷ past) x is = record {
  from_left = λ y low.
      let e = epoch + length (before ∷ past) in
      let top : max x.stamp y.stamp ≡ e = omega arith in
      ap (λ t. m x y && t) (eq-eqb (max x.stamp y.stamp) e top);
  from_right = λ y low.
      let e = epoch + length (before ∷ past) in
      let top : max y.stamp x.stamp ≡ e = omega arith in
      ap (λ t. m y x && t) (eq-eqb (max y.stamp x.stamp) e top);
}

max-left : (a b e : ℕ) → a < e → (max a b == e) ≡ (b == e)
max-left a b e low = elim (cases_eq b e) [
  | inl is ↦ let top : max a b ≡ e = omega arith in eq-eqb (max a b) e top ∙ sym (eq-eqb b e is)
  | inr differ ↦ ne_eqb (max a b) e (λ top. differ (omega arith)) ∙ sym (ne_eqb b e differ)
]

max-right : (a b e : ℕ) → b < e → (max a b == e) ≡ (a == e)
max-right a b e low = elim (cases_eq a e) [
  | inl is ↦ let top : max a b ≡ e = omega arith in eq-eqb (max a b) e top ∙ sym (eq-eqb a e is)
  | inr differ ↦ ne_eqb (max a b) e (λ top. differ (omega arith)) ∙ sym (ne_eqb a e differ)
]

-- an older one looks at those of the latest epoch alone
agrees-only : (m : Tuple → Tuple → Bool) (epoch : ℕ) (before : Step) (past : List Step) (x : Tuple)
    → x.stamp < epoch + length (before ∷ past)
    → Agrees (counts_at m epoch (before ∷ past)) m (only_stamp (epoch + length (before ∷ past))) x
    (λ (y : Tuple). Unit {0})
agrees-only m epoch before past x low = record {
  from_left = λ y any. ap (λ t. m x y && t) (max-left x.stamp y.stamp (epoch + length (before ∷ past)) low);
  from_right = λ y any. ap (λ t. m y x && t) (max-right y.stamp x.stamp (epoch + length (before ∷ past)) low);
}

any_all : (xs : List Tuple) → AllByRecursion (λ (y : Tuple). Unit {0}) xs
any_all [] = tt
any_all (x ∷ xs) = (tt, any_all xs)

-- ---- all pairs found, as one more tuple is taken

module _ (m : Tuple → Tuple → Bool) (epoch k id : ℕ) (x : Tuple) where
  -- a tuple of the latest epoch
  pub found-arrived : (step : Step) (past : List Step) (a : List Tuple)
      → x.stamp ≡ epoch + length past → AllUpTo (epoch + length past) (stored k id (step ∷ past))
      → SameBag a (stored k id (step ∷ past))
      → SameBag (all_found m epoch k id (with_arrived x step ∷ past))
      (all_found m epoch k id (step ∷ past) ++ probed m all_tuples x a)
  found-arrived step past a stamp up_to same =
      let here = pairs-more (counts_at m epoch past) m all_tuples x _ (agrees-all m epoch past x stamp) a
      (stored k id (step ∷ past)) (stored k id (with_arrived x step ∷ past)) up_to (stored-arrived k id x step past)
      same in
      subst (λ (zs : List Pair). SameBag (all_found m epoch k id (with_arrived x step ∷ past)) zs)
      (sym (append_assoc (all_found m epoch k id past) (pairs_by (counts_at m epoch past) (stored k id (step ∷ past))
      (stored k id (step ∷ past))) (probed m all_tuples x a)))
      (SameBag-append (SameBag-refl (all_found m epoch k id past)) here)

  -- a tuple that the partner moved here, older than the open epoch
  pub found-came : (step before : Step) (past : List Step) (b : List Tuple)
      → x.stamp < epoch + length (before ∷ past) → SameBag b (stored k id (step ∷ (before ∷ past)))
      → SameBag (all_found m epoch k id (with_came x step ∷ (before ∷ past)))
      (all_found m epoch k id (step ∷ (before ∷ past)) ++ probed m (only_stamp (epoch + length (before ∷ past))) x b)
  found-came step before past b low same =
      let h = before ∷ past in
      let here = pairs-more (counts_at m epoch h) m (only_stamp (epoch + length h)) x _
      (agrees-only m epoch before past x low) b (stored k id (step ∷ h)) (stored k id (with_came x step ∷ h))
      (any_all (stored k id (step ∷ h))) (stored-came k id x step h) same in
      subst (λ (zs : List Pair). SameBag (all_found m epoch k id (with_came x step ∷ h)) zs)
      (sym (append_assoc (all_found m epoch k id h) (pairs_by (counts_at m epoch h) (stored k id (step ∷ h))
      (stored k id (step ∷ h))) (probed m (only_stamp (epoch + length h)) x b)))
      (SameBag-append (SameBag-refl (all_found m epoch k id h)) here)

module _ (m : Tuple → Tuple → Bool) (epoch : ℕ) where
  -- the pairs of the open epoch, as one more is in the store before
  pairs-kept : (before : Step) (past : List Step) (x : Tuple) (b ys zs : List Tuple)
      → x.stamp < epoch + length (before ∷ past) → SameBag b ys
      → (kept : Bool) → SameBag zs (if_kept kept x ys)
      → SameBag (pairs_by (counts_at m epoch (before ∷ past)) zs zs) (pairs_by (counts_at m epoch (before ∷ past)) ys ys
      ++ cond kept (probed m (only_stamp (epoch + length (before ∷ past))) x b) [])
  pairs-kept before past x b ys zs low same true more =
      pairs-more (counts_at m epoch (before ∷ past)) m (only_stamp (epoch + length (before ∷ past))) x _
      (agrees-only m epoch before past x low) b ys zs (any_all ys) more same
  pairs-kept before past x b ys zs low same false more =
      let test = counts_at m epoch (before ∷ past) in
      subst (λ (ps : List Pair). SameBag (pairs_by test zs zs) ps) (sym (append-nil (pairs_by test ys ys)))
      (pairs-bag test zs ys more)

cross-append : {X : Type 0} (us vs ps qs : List X) → SameBag ((us ++ ps) ++ (vs ++ qs)) ((us ++ vs) ++ (ps ++ qs))
cross-append us vs ps qs = record {
  sums = λ f.
      rw (
        sum_by-append f (us ++ ps) (vs ++ qs),
        sum_by-append f us ps,
        sum_by-append f vs qs,
        sum_by-append f (us ++ vs) (ps ++ qs),
        sum_by-append f us vs,
        sum_by-append f ps qs,
      ) (omega arith);
}

module _ (m : Tuple → Tuple → Bool) (epoch k id : ℕ) (x : Tuple) where
  -- a late tuple of the epoch before, under an open step
  pub found-under : (new cur : Step) (past : List Step) (a b : List Tuple)
      → x.stamp ≡ epoch + length past → AllUpTo (epoch + length past) (stored k id (cur ∷ past))
      → SameBag a (stored k id (cur ∷ past)) → SameBag b (stored k id (new ∷ (cur ∷ past)))
      → SameBag (all_found m epoch k id (new ∷ (with_arrived x cur ∷ past)))
      (all_found m epoch k id (new ∷ (cur ∷ past)) ++ (probed m all_tuples x a
      ++ cond (holds k new.shift id x) (probed m (only_stamp (epoch + length (cur ∷ past))) x b) []))
  found-under new cur past a b stamp up_to same_a same_b =
      let low : x.stamp < epoch + length (cur ∷ past) = omega arith in
      let ys = stored k id (new ∷ (cur ∷ past)) in
      let zs = stored k id (new ∷ (with_arrived x cur ∷ past)) in
      let below = found-arrived m epoch k id x cur past a stamp up_to same_a in
      let above = pairs-kept m epoch cur past x b ys zs low same_b (holds k new.shift id x)
      (stored-under k id x new cur past) in
      SameBag-trans (SameBag-append below above)
      (cross-append (all_found m epoch k id (cur ∷ past)) (pairs_by (counts_at m epoch (cur ∷ past)) ys ys)
      (probed m all_tuples x a) (cond (holds k new.shift id x)
      (probed m (only_stamp (epoch + length (cur ∷ past))) x b) []))

-- a step is opened: no pair is of its epoch yet
none-new : (f : Pair → ℕ) (m : Tuple → Tuple → Bool) (epoch : ℕ) (before : Step) (past : List Step) (r q : Tuple)
    → r.stamp ≤ epoch + length past → q.stamp ≤ epoch + length past
    → weight f (counts_at m epoch (before ∷ past)) r q ≡ 0
none-new f m epoch before past r q low_r low_q =
    let differ : (max r.stamp q.stamp == epoch + length (before ∷ past)) ≡ false =
    ne_eqb (max r.stamp q.stamp) (epoch + length (before ∷ past)) (λ is. absurd (omega arith)) in
    rw differ (nothing (is_of R r) (is_of S q) (m r q) (f (pair_of r q)))
  where
    nothing : (b c d : Bool) (n : ℕ) → only_if b (only_if (c && (d && false)) n) ≡ 0
    nothing true true true n = refl
    nothing true true false n = refl
    nothing true false d n = refl
    nothing false c d n = refl

-- a step that is just opened adds no pair, where no stamp in the store is above the epoch before
pub found-new : (m : Tuple → Tuple → Bool) (epoch k id shift : ℕ) (before : Step) (past : List Step)
    → AllUpTo (epoch + length past) (stored k id (before ∷ past))
    → SameBag (all_found m epoch k id (new_step shift ∷ (before ∷ past))) (all_found m epoch k id (before ∷ past))
found-new m epoch k id shift before past up_to = record {
  sums = λ f.
      let h = before ∷ past in
      let xs = stored k id (new_step shift ∷ h) in
      let test = counts_at m epoch h in
      let low : AllUpTo (epoch + length past) xs = rw (stored-new k id shift h)
      (AllUpTo-filter (epoch + length past) (holds k shift id) (stored k id h) up_to) in
      let none : double (weight f test) xs xs ≡ 0 = double-none (λ (y : Tuple). y.stamp ≤ epoch + length past)
      (weight f test) xs low (none-new f m epoch before past) in
      let is : sum_by f (pairs_by test xs xs) ≡ double (weight f test) xs xs = sum-pairs f test xs xs in
      rw (sum_by-append f (all_found m epoch k id h) (pairs_by test xs xs)) (omega arith);
}
