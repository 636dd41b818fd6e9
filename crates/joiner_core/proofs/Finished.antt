-- The machine has finished exactly where the law says so.
use Rattle.std.proofs.Common.{◌≡◌, ℕ, zero, suc, ◌+◌, ◌^◌, ◌<◌, inl, inr, refl, sym, ◌∙◌, ap, subst, arith, Bool, true}
use Rattle.std.proofs.Common.{false, Option, Some, None, List, [], ◌∷◌, ◌++◌, length}
use Rattle.std.proofs.lemmas.Bool.{false≢true, cases_eq}
use Rattle.std.proofs.lemmas.List.{length-append, append-nil}
use Rattle.epoch_tags.specs.declared.tuple.Pair.{Pair}
use Rattle.epoch_tags.specs.declared.message.ToJoiner.{ToJoiner}
use Rattle.epoch_tags.specs.Messages.{moved_ends}
use Rattle.epoch_tags.specs.Flags.{IsEachUp}
use Rattle.epoch_tags.specs.Held.{held_at}
use Rattle.joiner_law.specs.Law.{JoinerStart, JoinerLists, Taken, partner_of, opened, IsSettled, IsAtRest, IsFinished}
use Rattle.joiner_law.specs.History.{Step}
use Rattle.joiner_law.specs.Standing.{one_if, AreParts}
use Rattle.joiner_core.specs.Changes.{IsReady}
use Rattle.joiner_core.specs.State.{OpenStep, EpochState, MachineState}
use Rattle.joiner_core.specs.Taking.{IsClosed, IsOpen, StandsBy, Stands, HasSomeTurn}
use Rattle.joiner_core.specs.Machine.{IsResting, StandsBetween, HasFinished}
use Rattle.joiner_core.proofs.LawTests.{closed-few, open-begun}

up-some : (n : ℕ) (b : Bool) → n ≡ one_if b → b ≡ true → 0 < n
up-some n true is up = omega arith
up-some n false is up = absurd (false≢true up)

-- a flag that counts more than 0 is up
pub some-up : (n : ℕ) (b : Bool) → n ≡ one_if b → 0 < n → b ≡ true
some-up n true is some = refl
some-up n false is some = absurd (omega arith)

-- a number above `done` that is `done` and what a flag counts has the flag up
pub more-up : (n done : ℕ) (b : Bool) → n ≡ done + one_if b → done < n → b ≡ true
more-up n done true is more = refl
more-up n done false is more = absurd (omega arith)

-- the partner ended its part of each settled step
pub parts-at : (s : JoinerStart) (t : Taken) (steps : List Step) (n : ℕ) → AreParts s t true steps
    → n + 1 < length steps → 0 < moved_ends (s.epoch + n + 1) (t.from_joiner (partner_of s t n))
parts-at s t [] n is low = absurd (omega arith)
parts-at s t (step ∷ []) n is low = absurd (omega arith)
parts-at s t (step ∷ (before ∷ past)) n is low = elim (cases_eq n (length past)) [
  | inl here ↦ rw here (let one = is.0 in omega arith)
  | inr other ↦ parts-at s t (before ∷ past) n is.1 (omega arith)
]

closed-rests : (s : JoinerStart) (t : Taken) (lists : JoinerLists) (w : List Pair) (m : EpochState) → IsEachUp m.ended
    → IsClosed s t lists w m → IsAtRest s t
closed-rests s t lists w m up is = (
  λ p low. up-some _ _ (is.stands.steps.feeders p low).ends (up p (let n = is.ended_count in omega arith)),
  λ n less.
      let few = closed-few s t lists w m is in (
        λ p low. let many = (is.stands.steps.feeders p low).turns in omega arith,
        parts-at s t (is.cur ∷ is.past) n is.stands.steps.parts (omega arith),
      ),
)

rests-by : (s : JoinerStart) (t : Taken) (lists : JoinerLists) (w : List Pair) (m : EpochState) (step : Option OpenStep)
    → step ≡ None → IsEachUp m.ended → StandsBy s t lists w m step → IsAtRest s t
rests-by s t lists w m step none up is = closed-rests s t lists w m up
    (subst (λ (z : Option OpenStep). StandsBy s t lists w m z) none is)

-- where a machine has no step open and all feeders have ended, what it took is at rest by the law
pub rests-law : (s : JoinerStart) (t : Taken) (lists : JoinerLists) (w : List Pair) (m : EpochState) → IsResting m
    → Stands s t lists w m → IsAtRest s t
rests-law s t lists w m at is = rests-by s t lists w m m.step at.closed at.ended is.now

clear-same : (taken held received : List ToJoiner) → held ≡ [] → taken ++ held ≡ received → taken ≡ received
clear-same taken held received none is = sym (append-nil taken) ∙ ap (λ zs. taken ++ zs) (sym none) ∙ is

same-clear : (taken held received : List ToJoiner) → taken ++ held ≡ received → taken ≡ received → held ≡ []
same-clear taken [] received is same = refl
same-clear taken (x ∷ held) received is same =
    let a : length (taken ++ x ∷ held) ≡ length received = ap length is in
    let b : length taken ≡ length received = ap length same in
    let c = length-append taken (x ∷ held) in
    absurd (omega arith)

-- where a machine between calls has finished, its lists and what it took are finished by the law
pub finished-law : (s : JoinerStart) (lists : JoinerLists) (m : MachineState) → (is : StandsBetween s lists m)
    → HasFinished m → IsFinished s lists is.within.taken
finished-law s lists m is has = (
  rests-by s is.within.taken lists [] m.epochs m.epochs.step has.closed has.ended is.within.stands.now,
  λ p low. clear-same _ _ _ (has.feeders p) (is.within.feeders p low),
  λ q low. clear-same _ _ _ (has.joiners q) (is.within.joiners q low),
)

-- ---- and back

open-ready : (s : JoinerStart) (t : Taken) (lists : JoinerLists) (w : List Pair) (m : EpochState) (o : OpenStep)
    → HasSomeTurn s.feeders (Some o) → IsOpen s t lists w m o → ((n : ℕ) → n < opened s t → IsSettled s t n)
    → IsReady (Some o)
open-ready s t lists w m o some is all =
    let done = all (length is.past) (open-begun s t lists w m o some is) in (
      some-up _ _ is.stands.steps.parts.0 done.1,
      λ p less. let n = is.count in let low : p < s.feeders = omega arith in
          more-up _ _ _ (is.stands.steps.feeders p low).turns (done.0 p low),
    )

closed-by : (s : JoinerStart) (t : Taken) (lists : JoinerLists) (w : List Pair) (m : EpochState)
    (step : Option OpenStep) → HasSomeTurn s.feeders step → (IsReady step → ⊥) → StandsBy s t lists w m step
    → IsAtRest s t
    → (step ≡ None) × IsEachUp m.ended
closed-by s t lists w m None some rests is at = (
  refl,
  λ p less. let n = is.ended_count in
      let low : p < s.feeders = omega arith in some-up _ _ (is.stands.steps.feeders p low).ends (at.0 p low),
)
closed-by s t lists w m (Some o) some rests is at = absurd (rests (open-ready s t lists w m o some is at.1))

clear-at : (queues : List (List ToJoiner)) (n : ℕ) → length queues ≡ n → ((i : ℕ) → i < n → held_at queues i ≡ [])
    → (i : ℕ) → held_at queues i ≡ []
clear-at [] n count low i = refl
clear-at (q ∷ queues) n count low zero = low 0 (omega arith)
clear-at (q ∷ queues) n count low (suc i) = clear-at queues (length queues) refl (λ j less. low (suc j) (omega arith)) i

-- and where these are finished by the law, the machine has finished
pub law-finished : (s : JoinerStart) (lists : JoinerLists) (m : MachineState) → (is : StandsBetween s lists m)
    → IsFinished s lists is.within.taken → HasFinished m
law-finished s lists m is fin =
    let sound = is.sound in
    let many = is.within.stands.fixed.feeders in
    let k = is.within.stands.fixed.k in
    let some : HasSomeTurn s.feeders m.epochs.step = subst (λ (n : ℕ). HasSomeTurn n m.epochs.step)
    many sound.within.begun in
    let closed = closed-by s is.within.taken lists [] m.epochs m.epochs.step some sound.within.rests
    is.within.stands.now fin.0 in
    record {
      closed = closed.0;
      ended = closed.1;
      feeders = clear-at m.of_feeders s.feeders (sound.feeders ∙ many)
          (λ p low. same-clear _ _ _ (is.within.feeders p low) (fin.1 p low));
      joiners = clear-at m.of_joiners (2 ^ s.k) (sound.joiners ∙ ap (λ n. 2 ^ n) k)
          (λ q low. same-clear _ _ _ (is.within.joiners q low) (fin.2 q low));
    }
