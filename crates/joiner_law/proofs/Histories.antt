-- The steps that were taken, with one message more.
use Rattle.std.proofs.Common.{◌≡◌, ℕ, zero, suc, ◌+◌, ◌<◌, ◌≤◌, ◌≢◌, inl, inr, refl, sym, ◌∙◌, ap, subst, arith, List}
use Rattle.std.proofs.Common.{[], ◌∷◌, ◌++◌, length, eq-eqb}
use Rattle.std.specs.Prelude.{sum_by}
use Rattle.std.proofs.lemmas.Bool.{cases_eq, ne_eqb}
use Rattle.std.proofs.lemmas.List.Sums.{sum_by-cons, sum_by-append}
use Rattle.row_cells.specs.Lists.{SameBag}
use Rattle.row_cells.proofs.Bags.{SameBag-trans, SameBag-sym}
use Rattle.epoch_tags.specs.declared.tuple.Tuple.{Tuple}
use Rattle.epoch_tags.specs.declared.message.ToJoiner.{ToJoiner}
use Rattle.epoch_tags.specs.declared.message.ToJoiner.TheVariants.{Tup, Moved}
use Rattle.epoch_tags.specs.Messages.{tups_of, moved_of}
use Rattle.joiner_law.specs.Law.{JoinerStart, Taken, shift_after, partner_of, arrived}
use Rattle.joiner_law.specs.History.{Step, with_arrived, with_came}
use Rattle.joiner_law.specs.Standing.{grown, took_of_feeder, took_of_joiner, with_shift, came_in, IsStep, IsHistory}
use Rattle.joiner_law.specs.Standing.{GoesByOne}
use Rattle.joiner_law.proofs.LongerLists.{moved_of-append, gather-grown, grown-same, grown-other}
use Rattle.epoch_tags.proofs.RowMessages.{tups_of-append}
use Rattle.std.proofs.lemmas.List.{append-nil}

arrived-more : (s : JoinerStart) (t : Taken) (p : ℕ) (m : ToJoiner) (e : ℕ) → p < s.feeders
    → SameBag (arrived s (took_of_feeder p m t) e) (arrived s t e ++ tups_of e (m ∷ []))
arrived-more s t p m e low = gather-grown (tups_of e) (tups_of-append e) p m t.from_feeder s.feeders low

-- ---- a message of a feeder

-- one that brings no tuple to this step
step-quiet : (s : JoinerStart) (t : Taken) (p : ℕ) (m : ToJoiner) (n : ℕ) (step : Step) → p < s.feeders
    → tups_of (s.epoch + n) (m ∷ []) ≡ [] → IsStep s t n step → IsStep s (took_of_feeder p m t) n step
step-quiet s t p m n step low none is = record {
  shift = is.shift;
  within = is.within;
  arrived =
      let more = arrived-more s t p m (s.epoch + n) low in
      let same : arrived s t (s.epoch + n) ++ tups_of (s.epoch + n) (m ∷ []) ≡ arrived s t (s.epoch + n) =
      rw none (append-nil (arrived s t (s.epoch + n))) in
      SameBag-trans is.arrived
      (SameBag-sym (subst (λ (xs : List Tuple). SameBag (arrived s (took_of_feeder p m t) (s.epoch + n)) xs)
      same more));
  came = came-same n is.came;
}
  where
    came-same : (n : ℕ) → SameBag step.came (came_in s t n) → SameBag step.came (came_in s (took_of_feeder p m t) n)
    came-same zero same = same
    came-same (suc n) same = same

-- a feeder's message that brings no tuple with the stamp of one of these steps leaves them as they are
pub history-quiet : (s : JoinerStart) (t : Taken) (p : ℕ) (m : ToJoiner) (steps : List Step) → p < s.feeders
    → ((n : ℕ) → n < length steps → tups_of (s.epoch + n) (m ∷ []) ≡ []) → IsHistory s t steps
    → IsHistory s (took_of_feeder p m t) steps
history-quiet s t p m [] low none is = tt
history-quiet s t p m (step ∷ past) low none is = (
  step-quiet s t p m (length past) step low
      (none (length past) (omega arith)) is.0,
  history-quiet s t p m past low (λ n less. none n (omega arith)) is.1,
)

tup-none : (e : ℕ) (x : Tuple) → x.stamp ≢ e → tups_of e (Tup x ∷ []) ≡ []
tup-none e x differ = rw (ne_eqb x.stamp e differ) refl

tup-here : (e : ℕ) (x : Tuple) → x.stamp ≡ e → tups_of e (Tup x ∷ []) ≡ x ∷ []
tup-here e x is = rw (eq-eqb x.stamp e is) refl

-- a tuple of this step
step-tup : (s : JoinerStart) (t : Taken) (p : ℕ) (x : Tuple) (n : ℕ) (step : Step) → p < s.feeders
    → x.stamp ≡ s.epoch + n → IsStep s t n step → IsStep s (took_of_feeder p (Tup x) t) n (with_arrived x step)
step-tup s t p x n step low stamp is = record {
  shift = is.shift;
  within = is.within;
  arrived = record {
    sums = λ f.
        let more = (arrived-more s t p (Tup x) (s.epoch + n) low).sums f in
        let before = is.arrived.sums f in
        let here : tups_of (s.epoch + n) (Tup x ∷ []) ≡ x ∷ [] = tup-here (s.epoch + n) x stamp in
        let more' : sum_by f (arrived s (took_of_feeder p (Tup x) t) (s.epoch + n))
        ≡ sum_by f (arrived s t (s.epoch + n) ++ (x ∷ [])) = rw here at more in
        rw (sum_by-cons f x step.arrived) (omega (
          arith,
          more',
          before,
          sum_by-append f (arrived s t (s.epoch + n)) (x ∷ []),
          sum_by-cons f x [],
        ));
  };
  came = came-same n is.came;
}
  where
    came-same : (n : ℕ) → SameBag step.came (came_in s t n)
        → SameBag step.came (came_in s (took_of_feeder p (Tup x) t) n)
    came-same zero same = same
    came-same (suc n) same = same

-- a tuple of the latest step
pub history-arrived : (s : JoinerStart) (t : Taken) (p : ℕ) (x : Tuple) (step : Step) (past : List Step) → p < s.feeders
    → x.stamp ≡ s.epoch + length past → IsHistory s t (step ∷ past)
    → IsHistory s (took_of_feeder p (Tup x) t) (with_arrived x step ∷ past)
history-arrived s t p x step past low stamp is = (
  step-tup s t p x (length past) step low stamp is.0,
  history-quiet s t p (Tup x) past low
      (λ n less. tup-none (s.epoch + n) x (λ same. absurd (omega arith))) is.1,
)

-- a tuple of the step before the open one
pub history-under : (s : JoinerStart) (t : Taken) (p : ℕ) (x : Tuple) (new cur : Step) (past : List Step)
    → p < s.feeders → x.stamp ≡ s.epoch + length past → IsHistory s t (new ∷ (cur ∷ past))
    → IsHistory s (took_of_feeder p (Tup x) t) (new ∷ (with_arrived x cur ∷ past))
history-under s t p x new cur past low stamp is = (
  step-quiet s t p (Tup x) (length (cur ∷ past)) new low
      (tup-none (s.epoch + length (cur ∷ past)) x (λ same. absurd (omega arith))) is.0,
  history-arrived s t p x cur past low stamp is.1,
)

-- ---- a message of a joiner

step-part : (s : JoinerStart) (t : Taken) (q : ℕ) (m : ToJoiner) (n : ℕ) (step : Step)
    → moved_of (s.epoch + n) (m ∷ []) ≡ [] → IsStep s t n step → IsStep s (took_of_joiner q m t) n step
step-part s t q m n step none is = record {
  shift = is.shift;
  within = is.within;
  arrived = is.arrived;
  came = came-same n none is.came;
}
  where
    came-same : (n : ℕ) → moved_of (s.epoch + n) (m ∷ []) ≡ [] → SameBag step.came (came_in s t n)
        → SameBag step.came (came_in s (took_of_joiner q m t) n)
    came-same zero none same = same
    came-same (suc n) none same =
        let e = s.epoch + n + 1 in
        let who = partner_of s t n in
        let none' : moved_of e (m ∷ []) ≡ [] = let is' : s.epoch + suc n ≡ e = omega arith in
        subst (λ c. moved_of c (m ∷ []) ≡ []) is' none in
        elim (cases_eq who q) [
          | inl is' ↦
              let here : moved_of e (grown q m t.from_joiner who) ≡ moved_of e (t.from_joiner who) =
              rw is' (ap (λ ms. moved_of e ms) (grown-same q m t.from_joiner)
              ∙ moved_of-append e (t.from_joiner q) (m ∷ []) ∙ ap (λ xs. moved_of e (t.from_joiner q) ++ xs) none'
              ∙ append-nil (moved_of e (t.from_joiner q))) in
              subst (λ (xs : List Tuple). SameBag step.came xs) (sym here) same
          | inr differ ↦ subst (λ (xs : List Tuple). SameBag step.came xs)
              (sym (ap (λ ms. moved_of e ms) (grown-other q m t.from_joiner who differ))) same
        ]

-- a joiner's message that moves no tuple in one of these steps leaves them as they are
pub history-part : (s : JoinerStart) (t : Taken) (q : ℕ) (m : ToJoiner) (steps : List Step)
    → ((n : ℕ) → n < length steps → moved_of (s.epoch + n) (m ∷ []) ≡ []) → IsHistory s t steps
    → IsHistory s (took_of_joiner q m t) steps
history-part s t q m [] none is = tt
history-part s t q m (step ∷ past) none is = (
  step-part s t q m (length past) step (none (length past) (omega arith))
      is.0,
  history-part s t q m past (λ n less. none n (omega arith)) is.1,
)

-- a tuple that the partner moved here
came-more : (s : JoinerStart) (t : Taken) (n epoch : ℕ) (x : Tuple) (came : List Tuple) → epoch ≡ s.epoch + n + 1
    → SameBag came (came_in s t (suc n))
    → SameBag (x ∷ came) (came_in s (took_of_joiner (partner_of s t n) (Moved epoch x) t) (suc n))
came-more s t n epoch x came is_open same = record {
  sums = λ f.
      let e = s.epoch + n + 1 in
      let who = partner_of s t n in
      let before = same.sums f in
      let one : moved_of e (Moved epoch x ∷ []) ≡ x ∷ [] = rw (eq-eqb epoch e is_open) refl in
      let here : moved_of e (grown who (Moved epoch x) t.from_joiner who) ≡ moved_of e (t.from_joiner who) ++ (x ∷ []) =
      ap (λ ms. moved_of e ms) (grown-same who (Moved epoch x) t.from_joiner)
      ∙ moved_of-append e (t.from_joiner who) (Moved epoch x ∷ [])
      ∙ ap (λ xs. moved_of e (t.from_joiner who) ++ xs) one in
      sum_by-cons f x came ∙ ap (λ k. f x + k) before ∙ rotate f x (moved_of e (t.from_joiner who))
      ∙ sym (ap (λ xs. sum_by f xs) here);
}
  where
    rotate : (f : Tuple → ℕ) (x : Tuple) (xs : List Tuple) → f x + sum_by f xs ≡ sum_by f (xs ++ (x ∷ []))
    rotate f x xs = omega (arith, sum_by-append f xs (x ∷ []), sum_by-cons f x [])

-- a tuple that the partner moves in the latest step is one more that came in it
pub history-came : (s : JoinerStart) (t : Taken) (epoch : ℕ) (x : Tuple) (step before : Step) (past : List Step)
    → epoch ≡ s.epoch + length past + 1
    → IsHistory s t (step ∷ (before ∷ past))
    → IsHistory s (took_of_joiner (partner_of s t (length past)) (Moved epoch x) t)
    (with_came x step ∷ (before ∷ past))
history-came s t epoch x step before past is_open is =
    let top = is.0 in (
      record {
        shift = top.shift;
        within = top.within;
        arrived = top.arrived;
        came = came-more s t (length past) epoch x step.came is_open top.came;
      },
      history-part s t (partner_of s t (length past)) (Moved epoch x) (before ∷ past)
          (λ n less. rw (ne_eqb epoch (s.epoch + n) (λ same. absurd (omega arith))) refl) is.1,
    )

-- ---- a step is opened

step-shift : (s : JoinerStart) (t : Taken) (epoch shift n : ℕ) (step : Step) → s.epoch + n < epoch → IsStep s t n step
    → IsStep s (with_shift epoch shift t) n step
step-shift s t epoch shift n step low is = record {
  shift = keeps n low ∙ is.shift;
  within = is.within;
  arrived = is.arrived;
  came = came-same n low is.came;
}
  where
    keeps : (n : ℕ) → s.epoch + n < epoch → shift_after s (with_shift epoch shift t) n ≡ shift_after s t n
    keeps n low = rw (ne_eqb (s.epoch + n) epoch (λ same. absurd (omega arith))) refl

    came-same : (n : ℕ) → s.epoch + n < epoch → SameBag step.came (came_in s t n)
        → SameBag step.came (came_in s (with_shift epoch shift t) n)
    came-same zero low same = same
    came-same (suc n) low same =
        let one : shift_after s (with_shift epoch shift t) n ≡ shift_after s t n = keeps n (omega arith) in
        let two : shift_after s (with_shift epoch shift t) (n + 1) ≡ shift_after s t (n + 1) =
        keeps (n + 1) (omega arith) in
        rw (one, two) same

-- the shift of a later epoch leaves the steps as they are
pub history-shift : (s : JoinerStart) (t : Taken) (epoch shift : ℕ) (steps : List Step) → s.epoch + length steps ≤ epoch
    → IsHistory s t steps → IsHistory s (with_shift epoch shift t) steps
history-shift s t epoch shift [] low is = tt
history-shift s t epoch shift (step ∷ past) low is = (
  step-shift s t epoch shift (length past) step (omega arith) is.0,
  history-shift s t epoch shift past (omega arith) is.1,
)

-- ---- what an epoch's number says

-- with one tuple more that arrived in the latest step, each step still goes to a neighbouring shift
pub by_one-arrived : (x : Tuple) (step : Step) (past : List Step) → GoesByOne (step ∷ past)
    → GoesByOne (with_arrived x step ∷ past)
by_one-arrived x step [] by = tt
by_one-arrived x step (before ∷ past) by = by
