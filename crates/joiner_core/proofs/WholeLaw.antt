-- The law, of a machine between calls.
use Rattle.std.proofs.Common.{◌≡◌, ℕ, zero, suc, ◌+◌, ◌^◌, ◌<◌, ◌≤◌, ◌⊎◌, inl, inr, refl, sym, ◌∙◌, ap, subst, arith}
use Rattle.std.proofs.Common.{Bool, true, false, Option, Some, None, List, [], ◌∷◌, ◌++◌, length}
use Rattle.std.specs.Prelude.{flat_map, map, count_by}
use Rattle.std.specs.List.{AllByRecursion}
use Rattle.std.proofs.lemmas.Bool.{false≢true, cases_eq}
use Rattle.row_cells.specs.declared.table.Side.TheVariants.{R, S}
use Rattle.row_cells.specs.Lists.{SameBag, counting_from}
use Rattle.row_cells.proofs.Bags.{SameBag-trans, SameBag-sym}
use Rattle.row_cells.proofs.Totals.{greatest_above, greatest_most}
use Rattle.epoch_tags.specs.declared.tuple.Pair.{Pair}
use Rattle.epoch_tags.specs.declared.message.ToCollector.{ToCollector}
use Rattle.epoch_tags.specs.declared.message.ToCollector.TheVariants.{Found, Fin}
use Rattle.epoch_tags.specs.declared.message.ToController.TheVariants.{Settled}
use Rattle.epoch_tags.specs.Messages.{turns, moved_of, moved_ends, pairs_found}
use Rattle.migration_plan.specs.Steps.{is_of}
use Rattle.joiner_law.specs.Law.{JoinerStart, JoinerLists, JoinerLaw, Taken, IsTakenOf, CanTakeOfFeeder}
use Rattle.joiner_law.specs.Law.{CanTakeOfJoiner, shift_after, partner_of, opened, store, found, fin, received_count}
use Rattle.joiner_law.specs.Law.{sent_in_step, AllTurned, IsSettled, IsAtRest, IsFinished}
use Rattle.joiner_law.specs.History.{Step}
use Rattle.joiner_law.specs.Standing.{one_if, pairs_sent, AreSteps, IsHistory, IsPartOf, IsLink}
use Rattle.joiner_law.proofs.StepStores.{pairs-law, older-is, shifts-are, by_one-law, store-is}
use Rattle.joiner_law.proofs.Partners.{has-moved, has-end, part-at, end-at}
use Rattle.joiner_law.proofs.MovedBySteps.{count-bag, moved-law, ended-law, counts-law, partner-within}
use Rattle.joiner_core.specs.Changes.{IsReady}
use Rattle.joiner_core.specs.State.{OpenStep, EpochState, MachineState}
use Rattle.joiner_core.specs.Taking.{IsClosed, StandsBy, HasSomeTurn}
use Rattle.joiner_core.specs.Machine.{IsStart, StandsBetween}
use Rattle.joiner_core.specs.Calls.{fin_of}
use Rattle.std.proofs.lemmas.List.{append-nil}
use Rattle.joiner_core.proofs.LawTests.{closed-few, open-begun}
use Rattle.joiner_core.proofs.Finished.{parts-at, some-up, more-up, rests-law, law-finished}

history-within : (s : JoinerStart) (t : Taken) (steps : List Step) (n : ℕ) → IsHistory s t steps → n < length steps
    → shift_after s t n ≤ s.k
history-within s t [] n is low = absurd (omega arith)
history-within s t (step ∷ past) n is low = elim (cases_eq n (length past)) [
  | inl here ↦ rw here (let a = is.0.shift in let b = is.0.within in omega arith)
  | inr other ↦ history-within s t past n is.1 (omega arith)
]

-- what was sent to the collector, in the law's words
record IsTold (s : JoinerStart) (lists : JoinerLists) (t : Taken) : Type 0 where
  founds : List (List Pair)
  last : List ToCollector
  to_collector : lists.to_collector ≡ map Found founds ++ last
  sent : pairs_sent lists ≡ flat_map (λ ps. ps) founds
  none_empty : AllByRecursion (λ (ps : List Pair). 0 < length ps) founds
  few : length founds ≤ received_count s lists
  fin_last : (last ≡ []) ⊎ ((last ≡ fin s lists t ∷ []) × IsAtRest s t)
  finished : IsFinished s lists t → last ≡ fin s lists t ∷ []

some-of : (a b : ℕ) → 0 < a + b → (0 < a) ⊎ (0 < b)
some-of zero b some = inr (omega arith)
some-of (suc a) b some = inl (omega arith)

of-partner : (s : JoinerStart) (t : Taken) (steps : List Step) (q n : ℕ) → IsHistory s t steps
    → IsPartOf s steps q (s.epoch + n + 1) → (n + 1 < length steps) × (q ≡ partner_of s t n)
of-partner s t steps q n is part =
    let at = part-at s t steps q (s.epoch + n + 1) is part in
    let same : s.epoch + n + 1 ≡ s.epoch + at.0 + 1 = at.1 in
    let low : at.0 + 1 < length steps = at.2 in
    let one : at.0 ≡ n = omega arith in
    (omega arith, at.3 ∙ ap (λ i. partner_of s t i) one)

law : (s : JoinerStart) (t : Taken) (lists : JoinerLists) (done : ℕ) (turned ended : ℕ
    → Bool) (all_turned part_ended : Bool) (step : Step) (past : List Step) → IsStart s
    → ((p : ℕ) → p < s.feeders → IsTakenOf (CanTakeOfFeeder s t done p) (t.from_feeder p) (lists.from_feeder p))
    → ((q : ℕ) → q < 2 ^ s.k → IsTakenOf (CanTakeOfJoiner s t done q) (t.from_joiner q) (lists.from_joiner q))
    → AreSteps s t lists [] done turned ended all_turned part_ended (step ∷ past) → opened s t ≡ length past
    → opened s t ≤ done + 1
    → ((n : ℕ) → n < done → IsSettled s t n) → (IsSettled s t done → ⊥) → (last next : ℕ)
    → ((q : ℕ) → IsLink s.epoch last next (lists.to_joiner q))
    → ((n : ℕ) → n + 1 < length past → AllTurned s t n) → ((n : ℕ) → n + 1 ≡ length past → all_turned ≡ true
    → AllTurned s t n) → ((n : ℕ) → n + 1 ≡ length past → AllTurned s t n → all_turned ≡ true)
    → IsTold s lists t → JoinerLaw s lists t
law s t lists done turned ended all_turned part_ended step past start feeders joiners is count one settled unsettled
    last next links below top top' told = record {
      done = done;
      of_feeders = feeders;
      of_joiners = joiners;
      counts_up = λ p low. (is.feeders p low).counts_up;
      first_shift = is.first_shift;
      same_shifts = λ p n low. shifts-are t.shift_at (s.epoch + n) (t.from_feeder p) (is.feeders p low).by_shifts;
      by_one = λ n less. by_one-law s t step past n is.history is.by_one (omega arith);
      within = λ n less. history-within s t (step ∷ past) n is.history (omega arith);
      settled = settled;
      unsettled = unsettled;
      one_open = one;
      of_partner = λ q n less some.
          let part : IsPartOf s (step ∷ past) q (s.epoch + n + 1) =
          elim (some-of (length (moved_of (s.epoch + n + 1) (t.from_joiner q)))
          (moved_ends (s.epoch + n + 1) (t.from_joiner q)) some) [
            | inl moved ↦ has-moved _ _ (s.epoch + n + 1) (t.from_joiner q) (is.from_partner q) moved
            | inr over ↦ has-end _ _ (s.epoch + n + 1) (t.from_joiner q) (is.from_partner q) over
          ] in
          let at = of-partner s t (step ∷ past) q n is.history part in
          let low : n + 1 < length (step ∷ past) = at.0 in
          (omega arith, at.1);
      founds = told.founds;
      fins = told.last;
      to_collector = told.to_collector;
      pairs = λ older.
          subst (λ (n : ℕ). SameBag (flat_map (λ ps. ps) told.founds) (found s t n)) (sym count)
          (subst (λ (xs : List Pair). SameBag xs (found s t (length past))) (append-nil (pairs_sent lists) ∙ told.sent)
          (pairs-law s t (pairs_sent lists) [] step past is.history
          (older-is s t (step ∷ past) is.history start.base (λ n less. older n (omega arith))) is.pairs));
      none_empty = told.none_empty;
      few_founds = told.few;
      moved = λ n less. moved-law s lists t all_turned (step ∷ past) n is.history is.sent (omega arith);
      ended = λ n turns_all.
          let some = start.some in
          let more : n < turns (t.from_feeder 0) = turns_all 0 some in
          let above = greatest_above s.feeders (λ p. turns (t.from_feeder p)) 0 some in
          ended-law s lists t all_turned (step ∷ past) n is.history is.sent (omega arith)
          (λ same. top' n (omega arith) turns_all);
      moved_only = λ q e some.
          let moved = has-moved _ _ e (lists.to_joiner q) (is.to_partner q) some in
          let at = part-at s t (step ∷ past) q e is.history moved in
          let low : at.0 + 1 < length (step ∷ past) = at.2 in
          (at.0, at.1, omega arith, at.3);
      ended_only = λ q e some.
          let at = end-at s t all_turned (step ∷ past) q e is.history
          (has-end _ _ e (lists.to_joiner q) (is.to_partner q) some) in (
            at.0,
            at.1,
            elim at.2 [
              | inl less ↦ below at.0 (omega arith)
              | inr same ↦ let n = same.0 in top at.0 (omega arith) same.1
            ],
            at.3,
          );
      never_falls = λ q. (links q).never_falls;
      told = is.told;
      fin_last = told.fin_last;
      finished = told.finished;
    }

at-most : (n done : ℕ) (b : Bool) → n ≡ done + one_if b → n ≤ done + 1
at-most n done true is = omega arith
at-most n done false is = omega arith

at-least : (n done : ℕ) (b : Bool) → n ≡ done + one_if b → done ≤ n
at-least n done true is = omega arith
at-least n done false is = omega arith

same-number : (n m : ℕ) → n ≤ m → m ≤ n → n ≡ m
same-number n m a b = omega arith

up-turns : (n done : ℕ) (b : Bool) → n ≡ done + one_if b → b ≡ true → done < n
up-turns n done true is up = omega arith
up-turns n done false is up = absurd (false≢true up)

cases-true : (b : Bool) → (b ≡ false → ⊥) → b ≡ true
cases-true true never = refl
cases-true false never = absurd (never refl)

-- with no step open, and some feeder, as many steps were opened as are past
pub closed-count : (s : JoinerStart) (t : Taken) (lists : JoinerLists) (w : List Pair) (m : EpochState) → 0 < s.feeders
    → (is : IsClosed s t lists w m) → opened s t ≡ length is.past
closed-count s t lists w m some is =
    let first = (is.stands.steps.feeders 0 some).turns in
    let above = greatest_above s.feeders (λ p. turns (t.from_feeder p)) 0 some in
    same-number _ _ (closed-few s t lists w m is) (omega arith)

module _ (s : JoinerStart) (t : Taken) (lists : JoinerLists) (m : EpochState) (done : ℕ) (start : IsStart s)
    (epoch : m.epoch ≡ s.epoch + done) where
  law-by : ((p : ℕ) → p < s.feeders → IsTakenOf (CanTakeOfFeeder s t done p) (t.from_feeder p) (lists.from_feeder p))
      → ((q : ℕ) → q < 2 ^ s.k → IsTakenOf (CanTakeOfJoiner s t done q) (t.from_joiner q) (lists.from_joiner q))
      → IsTold s lists t → (step : Option OpenStep) → HasSomeTurn s.feeders step → (IsReady step → ⊥)
      → StandsBy s t lists [] m step → JoinerLaw s lists t
  law-by feeders joiners told None begun rests is =
      let at = is.epoch in
      let some = start.some in
      let same : length is.past ≡ done = omega arith in
      let count = closed-count s t lists [] m some is in
      let first = (is.stands.steps.feeders 0 some).turns in
      let st = is.stands in
      let turned : (n : ℕ) → n < length is.past → AllTurned s t n =
      λ n less p low. let many = (st.steps.feeders p low).turns in omega arith in
      subst (λ (n : ℕ). ((p : ℕ) → p < s.feeders → IsTakenOf (CanTakeOfFeeder s t n p) (t.from_feeder p)
      (lists.from_feeder p))
      → ((q : ℕ) → q < 2 ^ s.k → IsTakenOf (CanTakeOfJoiner s t n q) (t.from_joiner q) (lists.from_joiner q))
      → JoinerLaw s lists t) same
      (λ fs js. law s t lists (length is.past) _ _ _ _ is.cur is.past start fs js st.steps count (omega arith)
      (λ n less. (turned n less, parts-at s t (is.cur ∷ is.past) n st.steps.parts (omega arith)))
      (λ is_settled. let more = is_settled.0 0 some in absurd (omega arith))
      _ _ st.links (λ n less. turned n (omega arith)) (λ n last all. turned n (omega arith)) (λ n last all. refl) told)
      feeders joiners
  law-by feeders joiners told (Some o) begun rests is =
      let at = is.epoch in
      let same : length is.past ≡ done = omega arith in
      let less_than = open-begun s t lists [] m o begun is in
      let st = is.stands in
      let most_turns : opened s t ≤ length is.past + 1 = greatest_most s.feeders (length is.past + 1)
      (λ p. turns (t.from_feeder p)) (λ p low. at-most _ _ _ (st.steps.feeders p low).turns) in
      let turned : (n : ℕ) → n < length is.past → AllTurned s t n =
      λ n less p low. let many = at-least _ _ _ (st.steps.feeders p low).turns in omega arith in
      subst (λ (n : ℕ). ((p : ℕ) → p < s.feeders → IsTakenOf (CanTakeOfFeeder s t n p) (t.from_feeder p)
      (lists.from_feeder p))
      → ((q : ℕ) → q < 2 ^ s.k → IsTakenOf (CanTakeOfJoiner s t n q) (t.from_joiner q) (lists.from_joiner q))
      → JoinerLaw s lists t) same
      (λ fs js. law s t lists (length is.past) _ _ _ _ is.new (is.cur ∷ is.past) start fs js st.steps
      (same-number _ _ (omega arith) (omega arith)) most_turns
      (λ n less. (turned n less, parts-at s t (is.cur ∷ is.past) n st.steps.parts.1 (omega arith)))
      (λ is_settled. rests (
        some-up _ _ st.steps.parts.0 is_settled.1,
        λ p less. let n = is.count in let low : p < s.feeders = omega arith in
            more-up _ _ _ (st.steps.feeders p low).turns (is_settled.0 p low),
      ))
      _ _ st.links (λ n less. turned n (omega arith))
      (λ n last all p low. let up = up-turns _ _ _ (st.steps.feeders p low).turns (is.all all p low) in omega arith)
      (λ n last all. cases-true is.all_turned (λ never. is.missing never (λ p low. let more = all p low in
      more-up _ _ _ (st.steps.feeders p low).turns (omega arith))))
      told)
      feeders joiners

-- ---- the last message

fin-same : (a a' b b' : ℕ) (c c' : List ℕ) → a ≡ a' → b ≡ b' → c ≡ c' → Fin a b c ≡ Fin a' b' c'
fin-same a a' b b' c c' p q r = ap (λ x. Fin x b c) p ∙ ap (λ x. Fin a' x c) q ∙ ap (λ x. Fin a' b' x) r

closed-fin : (s : JoinerStart) (t : Taken) (lists : JoinerLists) (w : List Pair) (m : EpochState) → IsStart s
    → IsClosed s t lists w m → fin_of m ≡ fin s lists t
closed-fin s t lists w m start is =
    let n = length is.past in
    let count = closed-count s t lists w m start.some is in
    let st = is.stands in
    let steps = st.steps in
    let held : SameBag m.store.tuples (store s t n) = SameBag-trans st.store
    (SameBag-sym (store-is s t is.cur is.past steps.history)) in
    let moved : m.moved ≡ map (λ i. length (sent_in_step s lists i)) (counting_from 0 n) =
    is.moved ∙ counts-law s lists t true is.cur is.past steps.history steps.sent
    (λ i less. partner-within s t i start.id (by_one-law s t is.cur is.past i steps.history steps.by_one less)
    (history-within s t (is.cur ∷ is.past) i steps.history (omega arith))
    (history-within s t (is.cur ∷ is.past) (i + 1) steps.history (omega arith)))
    (λ i less q some. (of-partner s t (is.cur ∷ is.past) q i steps.history
    (has-moved _ _ (s.epoch + i + 1) (lists.to_joiner q) (steps.to_partner q) some)).1) in
    fin-same _ _ _ _ _ _ (count-bag (is_of R) m.store.tuples (store s t n) held)
    (count-bag (is_of S) m.store.tuples (store s t n) held) moved
    ∙ ap (λ i. Fin (count_by (is_of R) (store s t i)) (count_by (is_of S) (store s t i))
    (map (λ j. length (sent_in_step s lists j)) (counting_from 0 i))) (sym count)

fin-by : (s : JoinerStart) (t : Taken) (lists : JoinerLists) (w : List Pair) (m : EpochState) → IsStart s
    → (step : Option OpenStep) → step ≡ None → StandsBy s t lists w m step → fin_of m ≡ fin s lists t
fin-by s t lists w m start step none is = closed-fin s t lists w m start
    (subst (λ (z : Option OpenStep). StandsBy s t lists w m z) none is)

sent-none : (founds : List (List Pair)) → flat_map pairs_found (map Found founds ++ []) ≡ flat_map (λ ps. ps) founds
sent-none [] = refl
sent-none (ps ∷ founds) = ap (λ zs. ps ++ zs) (sent-none founds)

sent-one : (founds : List (List Pair)) (a b : ℕ) (c : List ℕ)
    → flat_map pairs_found (map Found founds ++ Fin a b c ∷ []) ≡ flat_map (λ ps. ps) founds
sent-one [] a b c = refl
sent-one (ps ∷ founds) a b c = ap (λ zs. ps ++ zs) (sent-one founds a b c)

told-law : (s : JoinerStart) (lists : JoinerLists) (m : MachineState) (is : StandsBetween s lists m) (told : Bool)
    → m.told ≡ told → IsTold s lists is.within.taken
told-law s lists m is false low =
    let c = is.collects in
    let none = c.untold low in
    record {
      founds = c.founds;
      last = c.last;
      to_collector = c.to_collector;
      sent = ap (λ zs. flat_map pairs_found zs) (c.to_collector ∙ ap (λ zs. map Found c.founds ++ zs) none)
          ∙ sent-none c.founds;
      none_empty = c.none_empty;
      few = c.few;
      fin_last = inl none;
      finished = λ over. absurd (false≢true (sym low ∙ c.finishes (law-finished s lists m is over)));
    }
told-law s lists m is true high =
    let c = is.collects in
    let t = is.within.taken in
    let one = c.told high in
    let fin_is : fin_of m.epochs ≡ fin s lists t = fin-by s t lists []
    m.epochs is.start m.epochs.step one.1.closed is.within.stands.now in
    let last_is : c.last ≡ fin s lists t ∷ [] = one.0 ∙ ap (λ z. z ∷ []) fin_is in
    record {
      founds = c.founds;
      last = c.last;
      to_collector = c.to_collector;
      sent = ap (λ zs. flat_map pairs_found zs) (c.to_collector ∙ ap (λ zs. map Found c.founds ++ zs) one.0)
          ∙ sent-one c.founds _ _ _;
      none_empty = c.none_empty;
      few = c.few;
      fin_last = inr (last_is, rests-law s t lists [] m.epochs one.1 is.within.stands);
      finished = λ over. last_is;
    }

-- what a machine between calls took, and the lists for which it stands, keep the law
pub keeps-law : (s : JoinerStart) (lists : JoinerLists) (m : MachineState) (is : StandsBetween s lists m)
    → JoinerLaw s lists is.within.taken
keeps-law s lists m is =
    let many = is.within.stands.fixed.feeders in
    law-by s is.within.taken lists m.epochs is.done is.start is.settled is.of_feeders is.of_joiners
    (told-law s lists m is m.told refl) m.epochs.step
    (subst (λ (n : ℕ). HasSomeTurn n m.epochs.step) many is.sound.within.begun)
    is.sound.within.rests is.within.stands.now

-- how many steps are settled, by what was told
count-told : (first n : ℕ) → length (map Settled (counting_from first n)) ≡ n
count-told first zero = refl
count-told first (suc n) = ap suc (count-told (first + 1) n)

-- by the law as many messages went to the controller as steps are settled
pub law-done : (s : JoinerStart) (lists : JoinerLists) (t : Taken) (law : JoinerLaw s lists t)
    → length lists.to_controller ≡ law.done
law-done s lists t law = ap length law.told ∙ count-told (s.epoch + 1) law.done

done-by : (s : JoinerStart) (t : Taken) (lists : JoinerLists) (m : EpochState) (done : ℕ) → m.epoch ≡ s.epoch + done
    → (step : Option OpenStep) → StandsBy s t lists [] m step → length lists.to_controller ≡ done
done-by s t lists m done epoch None is =
    let at = is.epoch in let n = ap length is.stands.steps.told ∙ count-told (s.epoch + 1) (length is.past) in
    omega arith
done-by s t lists m done epoch (Some o) is =
    let at = is.epoch in let n = ap length is.stands.steps.told ∙ count-told (s.epoch + 1) (length is.past) in
    omega arith

-- and as many as the machine has settled
pub machine-done : (s : JoinerStart) (lists : JoinerLists) (m : MachineState) (is : StandsBetween s lists m)
    → length lists.to_controller ≡ is.done
machine-done s lists m is = done-by s is.within.taken lists m.epochs is.done is.settled m.epochs.step
    is.within.stands.now

-- ---- what is read off the lists

store-by : (s : JoinerStart) (t : Taken) (lists : JoinerLists) (m : EpochState) (done : ℕ) → m.epoch ≡ s.epoch + done
    → (step : Option OpenStep) → StandsBy s t lists [] m step → SameBag m.store.tuples (store s t done)
store-by s t lists m done epoch None is =
    let at = is.epoch in
    let same : length is.past ≡ done = omega arith in
    subst (λ (n : ℕ). SameBag m.store.tuples (store s t n)) same
    (SameBag-trans is.stands.store (SameBag-sym (store-is s t is.cur is.past is.stands.steps.history)))
store-by s t lists m done epoch (Some o) is =
    let at = is.epoch in
    let same : length is.past ≡ done = omega arith in
    subst (λ (n : ℕ). SameBag m.store.tuples (store s t n)) same
    (SameBag-trans is.stands.store (SameBag-sym (store-is s t is.cur is.past is.stands.steps.history.1)))

-- the machine's store is, as a bag, the law's after the steps that are settled
pub store-law : (s : JoinerStart) (lists : JoinerLists) (m : MachineState) (is : StandsBetween s lists m)
    → SameBag m.epochs.store.tuples (store s is.within.taken is.done)
store-law s lists m is = store-by s is.within.taken lists m.epochs is.done is.settled m.epochs.step is.within.stands.now
