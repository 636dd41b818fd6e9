-- A feeder's turn, as the whole call.
use Rattle.std.proofs.Common.{◌≡◌, ℕ, ◌+◌, ◌<◌, ◌≤◌, ◌^◌, sym, ◌∙◌, ap, subst, arith, Bool, true, false, cond, Option}
use Rattle.std.proofs.Common.{Some, None, List, [], ◌∷◌, ◌++◌, length, get_or-set_same, append_assoc}
use Rattle.std.proofs.lemmas.Bool.{false≢true, false_from_ne_true}
use Rattle.std.specs.Prelude.{slice_set}
use Rattle.std.proofs.Math.ListN.{length-set}
use Rattle.epoch_tags.specs.declared.tuple.Tuple.{Tuple}
use Rattle.epoch_tags.specs.declared.tuple.Pair.{Pair}
use Rattle.epoch_tags.specs.declared.message.ToJoiner.{ToJoiner}
use Rattle.epoch_tags.specs.declared.message.ToJoiner.TheVariants.{Turn}
use Rattle.migration_plan.specs.Steps.{partner_in_step, AreNeighbours}
use Rattle.joiner_law.specs.Law.{JoinerStart, JoinerLists, Taken}
use Rattle.joiner_law.specs.Posting.{moved_end_post}
use Rattle.joiner_law.specs.History.{Step}
use Rattle.joiner_law.specs.Standing.{grown, took_of_feeder, with_sent, StandsOpen}
use Rattle.joiner_law.proofs.TakenTurns.{open-turn, all-turned}
use Rattle.joiner_core.specs.State.{IsStock, OpenStep, EpochState}
use Rattle.joiner_core.specs.Changes.{IsReady, posts_settled, after_settle, HasTurned, AreAllUp, end_posts}
use Rattle.joiner_core.specs.Changes.{posts_turned, HasBegun, begun_posts}
use Rattle.joiner_core.specs.Taking.{IsMachineOf, IsOpen, StandsBy, Stands, IsStepStock, IsWithin, IsFixed}
use Rattle.joiner_core.specs.Taking.{IsStepWithin, IsCounted, HasSomeTurn, CanTakeTurn, TookOfFeeder}
use Rattle.theta_pred.specs.Formula.{Meaning}
use Rattle.joiner_core.proofs.RowWidths.{stock-begun, stock-turned}
use Rattle.joiner_core.proofs.OwnPosts.{own-append, own-begun, own-turned, own-settled, own-before}
use Rattle.epoch_tags.specs.declared.message.Post.{Post}
use Rattle.epoch_tags.specs.Flags.{flag_at, IsEachUp}
use Rattle.joiner_core.proofs.SentPosts.{with_sent-none, with_sent-append, quiet-append, quiet-begun, quiet-turned}
use Rattle.joiner_core.proofs.SentPosts.{quiet-settled}
use Rattle.joiner_core.proofs.FlagChanges.{same-flags, flag-set}
use Rattle.joiner_core.proofs.OpenedSteps.{IsSomeTurn, begun-by, begun-within, begun-count}
use Rattle.joiner_core.proofs.SettledSteps.{stands-settled, settled-within, settled-k, settled-feeders, settled-id}
use Rattle.joiner_core.proofs.SettledSteps.{settled-theta}
use Rattle.joiner_core.proofs.Outcomes.{does-turn}

module _ (s : JoinerStart) (t : Taken) (lists : JoinerLists) (waiting : List Pair) (turned ended : ℕ → Bool)
    (part_ended : Bool) (a b : List Tuple) (new cur : Step) (past : List Step) where
  by_last : (last : Bool) → StandsOpen s t lists waiting turned ended false part_ended a b new cur past
      → StandsOpen s t (with_sent lists (cond last (moved_end_post (partner_in_step cur.shift new.shift s.id) (s.epoch +
      length past + 1) ∷ []) [])) waiting turned ended last part_ended a b new cur past
  by_last true is =
      all-turned is
  by_last false is =
      subst (λ (ls : JoinerLists). StandsOpen s t ls waiting turned ended false part_ended a b new cur past)
      (sym (with_sent-none lists)) is

module _ (s : JoinerStart) (t : Taken) (lists : JoinerLists) (waiting : List Pair) (m : EpochState)
    (p epoch shift : ℕ) (last : Bool) (fixed : IsMachineOf s m) (low : p < s.feeders)
    (going : flag_at m.ended p ≡ false) where
  open-turned : (o o' : OpenStep) → flag_at o.turned p ≡ false → epoch ≡ o.epoch → shift ≡ o.shift
      → o'.turned ≡ slice_set o.turned p true → (last ≡ true → IsEachUp o'.turned)
      → (last ≡ false → IsEachUp o'.turned → ⊥) → IsOpen s t lists waiting m o
      → IsOpen s (took_of_feeder p (Turn epoch shift) t) (with_sent lists
      (cond last (moved_end_post (partner_in_step m.shift o.shift m.id) o.epoch ∷ []) [])) waiting
      (record m { step = Some (record o { turned = o'.turned }) })
      (record o { turned = o'.turned })
  open-turned o o' still now same flags up down is =
      let not_all : is.all_turned ≡ false = false_from_ne_true is.all_turned
      (λ all. false≢true (sym still ∙ is.all all p low)) in
      let before : StandsOpen s t lists waiting (flag_at o.turned) (flag_at m.ended)
      false o.partner_ended m.store.tuples o.store.tuples is.new is.cur is.past = rw not_all at is.stands in
      let within : p < length o.turned = let n = is.count in omega arith in
      let turned = open-turn p epoch shift low going still (now ∙ is.step_epoch) (same ∙ is.step_shift) before in
      let known : StandsOpen s (took_of_feeder p (Turn epoch shift) t) lists waiting (flag_at o'.turned)
      (flag_at m.ended)
      false o.partner_ended m.store.tuples o.store.tuples is.new is.cur is.past =
      same-flags s (took_of_feeder p (Turn epoch shift) t) lists waiting _ (flag_at o'.turned)
      _ false o.partner_ended m.store.tuples o.store.tuples is.new is.cur is.past
      (λ q. flag-set o.turned p q within ∙ ap (λ fs. flag_at fs q) (sym flags)) turned in
      let many : length o'.turned ≡ s.feeders = ap length flags ∙ length-set o.turned p true ∙ is.count in
      record {
        new = is.new;
        cur = is.cur;
        past = is.past;
        all_turned = last;
        stands = rw (fixed.id, is.shift, is.step_shift, is.step_epoch)
            (by_last s (took_of_feeder p (Turn epoch shift) t) lists waiting (flag_at o'.turned) (flag_at m.ended)
            o.partner_ended m.store.tuples o.store.tuples is.new is.cur is.past last known);
        epoch = is.epoch;
        shift = is.shift;
        step_epoch = is.step_epoch;
        step_shift = is.step_shift;
        ended_count = is.ended_count;
        moved = is.moved;
        count = many;
        missing = λ never each. down never (λ q less. each q (omega arith));
        all = λ all q less. up all q (omega arith);
      }

  turned-by : (step step' : Option OpenStep) → IsSomeTurn p epoch shift step → HasTurned p step step'
      → (last ≡ true → AreAllUp step') → (last ≡ false → AreAllUp step' → ⊥) → StandsBy s t lists waiting m step
      → StandsBy s (took_of_feeder p (Turn epoch shift) t) (with_sent lists (cond last (end_posts m step) [])) waiting
      (record m { step = step' }) step'
  turned-by None step' fits has up down is = absurd fits
  turned-by (Some o) None fits has up down is = absurd has
  turned-by (Some o) (Some o') fits has up down is =
      subst (λ (z : OpenStep). IsOpen s (took_of_feeder p (Turn epoch shift) t)
      (with_sent lists (cond last (moved_end_post (partner_in_step m.shift o.shift m.id) o.epoch ∷ []) [])) waiting
      (record m { step = Some z }) z) (sym has.0)
      (open-turned o o' fits.0 fits.1 fits.2 has.1 up down is)

turned-within : (k shift p : ℕ) (step step' : Option OpenStep) → HasTurned p step step' → IsStepWithin k shift step
    → IsStepWithin k shift step'
turned-within k shift p None step' has within = subst (λ (z : Option OpenStep). IsStepWithin k shift z) (sym has) tt
turned-within k shift p (Some o) None has within = absurd has
turned-within k shift p (Some o) (Some o') has within =
    let same : o'.shift ≡ o.shift = ap (λ (z : OpenStep). z.shift) has.0 in
    subst (λ (b : ℕ). (b ≤ k) × AreNeighbours shift b) (sym same) within

-- the open step leads to a neighbouring shift within the grid still, once a feeder has turned in it
pub turned-step : (m m1 : EpochState) (p : ℕ) → m1 ≡ record m { step = m1.step } → HasTurned p m.step m1.step
    → IsStepWithin m.k m.shift m.step → IsStepWithin m1.k m1.shift m1.step
turned-step m m1 p rest turned within =
    subst (λ (z : EpochState). IsStepWithin z.k z.shift m1.step) (sym rest)
    (turned-within m.k m.shift p m.step m1.step turned within)

turned-count : (n p : ℕ) (step step' : Option OpenStep) → HasTurned p step step' → IsCounted n step → IsCounted n step'
turned-count n p None step' has is = subst (λ (z : Option OpenStep). IsCounted n z) (sym has) tt
turned-count n p (Some o) None has is = absurd has
turned-count n p (Some o) (Some o') has is = ap length has.1 ∙ length-set o.turned p true ∙ is

turned-some : (n p : ℕ) (step step' : Option OpenStep) → p < n → HasTurned p step step' → IsCounted n step
    → HasSomeTurn n step'
turned-some n p None step' low has is = subst (λ (z : Option OpenStep). HasSomeTurn n z) (sym has) tt
turned-some n p (Some o) None low has is = absurd has
turned-some n p (Some o) (Some o') low has is = (
  p,
  low,
  ap (λ fs. flag_at fs p) has.1
      ∙ get_or-set_same o.turned p true false (omega arith),
)

-- a turn that can be taken was taken where the step is opened if none is, the feeder's flag set, the end of what is
-- moved sent if all have turned, and the step settled if it is ready
pub took-turn : (m m1 m2 m3 : EpochState) (p epoch shift : ℕ) (last ready : Bool) (waiting : List Pair)
    (before s1 s2 after : List Post) → p < m.feeders → IsWithin m → CanTakeTurn m p epoch shift
    → m1 ≡ record m { step = m1.step } → HasBegun m epoch shift m.step m1.step
    → s1 ≡ before ++ begun_posts m epoch shift m.step
    → m2 ≡ record m1 { step = m2.step } → HasTurned p m1.step m2.step → (last ≡ true → AreAllUp m2.step)
    → (last ≡ false → AreAllUp m2.step → ⊥) → s2 ≡ s1 ++ posts_turned m1 last
    → (ready ≡ true → IsReady m2.step) → (ready ≡ false → IsReady m2.step → ⊥) → m3 ≡ after_settle ready m2
    → after ≡ s2 ++ posts_settled ready m2
    → TookOfFeeder p (Turn epoch shift) m m3 waiting waiting before after
took-turn m m1 m2 m3 p epoch shift last ready waiting before s1 s2 after few within can rest1 begun posts1 rest2 turned
    up down posts2 settles not_yet state posts3 =
    let k1 : m1.k ≡ m.k = ap (λ (z : EpochState). z.k) rest1 in
    let k2 : m2.k ≡ m.k = ap (λ (z : EpochState). z.k) rest2 ∙ k1 in
    let b2 : m2.shift ≡ m.shift = ap (λ (z : EpochState). z.shift) rest2 ∙ ap (λ (z : EpochState). z.shift) rest1 in
    let b1 : m1.shift ≡ m.shift = ap (λ (z : EpochState). z.shift) rest1 in
    let step1 : IsStepWithin m.k m.shift m1.step = begun-within m p epoch shift m.step m1.step can.fits within.step
    begun in
    let step2 : IsStepWithin m.k m.shift m2.step = turned-within m.k m.shift p m1.step m2.step turned step1 in
    let own1 : IsStepWithin m1.k m1.shift m1.step = subst (λ (n : ℕ). IsStepWithin n m1.shift m1.step) (sym k1)
    (subst (λ (n : ℕ). IsStepWithin m.k n m1.step) (sym b1) step1) in
    let n2 : m2.feeders ≡ m.feeders = ap (λ (z : EpochState). z.feeders) rest2
    ∙ ap (λ (z : EpochState). z.feeders) rest1 in
    let count1 : IsCounted m.feeders m1.step = begun-count m epoch shift m.step m1.step within.count begun in
    let i2 : m2.id ≡ m.id = ap (λ (z : EpochState). z.id) rest2 ∙ ap (λ (z : EpochState). z.id) rest1 in
    let th2 : m2.theta ≡ m.theta = ap (λ (z : EpochState). z.theta) rest2 ∙ ap (λ (z : EpochState). z.theta) rest1 in
    let store2 : m2.store ≡ m.store = ap (λ (z : EpochState). z.store) rest2 ∙ ap (λ (z : EpochState). z.store) rest1 in
    let stock1 : IsStepStock m.theta m1.step = stock-begun m.theta m epoch shift m.step m1.step within.stock
    within.step_stock begun in
    let stock2 : IsStepStock m.theta m2.step = stock-turned m.theta p m1.step m2.step turned stock1 in
    let fixed1 : IsFixed m m1 = record {
      k = k1;
      id = ap (λ (z : EpochState). z.id) rest1;
      feeders = ap (λ (z : EpochState). z.feeders) rest1;
      theta = ap (λ (z : EpochState). z.theta) rest1;
    } in
    let id1 : m1.id < 2 ^ m1.k = subst (λ (n : ℕ). m1.id < 2 ^ n) (sym k1)
    (subst (λ (n : ℕ). n < 2 ^ m.k) (sym fixed1.id) within.id) in
    let id2 : m2.id < 2 ^ m2.k = subst (λ (n : ℕ). m2.id < 2 ^ n) (sym k2)
    (subst (λ (n : ℕ). n < 2 ^ m.k) (sym i2) within.id) in
    let within3 : IsWithin (after_settle ready m2) =
    settled-within m2 ready settles not_yet (record {
      small = let small = within.small in omega arith;
      shift = let low = within.shift in omega arith;
      step = subst (λ (n : ℕ). IsStepWithin n m2.shift m2.step) (sym k2)
          (subst (λ (n : ℕ). IsStepWithin m.k n m2.step) (sym b2) step2);
      ended = ap (λ (z : EpochState). length z.ended) rest2 ∙ ap (λ (z : EpochState). length z.ended) rest1
          ∙ within.ended ∙ sym n2;
      count = subst (λ (n : ℕ). IsCounted n m2.step) (sym n2)
          (turned-count m.feeders p m1.step m2.step turned count1);
      begun = subst (λ (n : ℕ). HasSomeTurn n m2.step) (sym n2)
          (turned-some m.feeders p m1.step m2.step few turned count1);
      id = id2;
      stock = subst (λ (th : Meaning). IsStock th m2.store) (sym th2)
          (subst (IsStock m.theta) (sym store2) within.stock);
      step_stock = subst (λ (th : Meaning). IsStepStock th m2.step) (sym th2) stock2;
    }) in
    record {
      added = begun_posts m epoch shift m.step ++ posts_turned m1 last ++ posts_settled ready m2;
      sends = posts3 ∙ ap (λ zs. zs ++ posts_settled ready m2) (posts2 ∙ ap (λ zs. zs ++ posts_turned m1 last) posts1)
          ∙ four before (begun_posts m epoch shift m.step) (posts_turned m1 last) (posts_settled ready m2);
      quiet = quiet-append (begun_posts m epoch shift m.step ++ posts_turned m1 last) (posts_settled ready m2)
          (quiet-append (begun_posts m epoch shift m.step) (posts_turned m1 last) (quiet-begun m epoch shift m.step)
          (quiet-turned m1 last)) (quiet-settled ready m2);
      own = own-append m (begun_posts m epoch shift m.step ++ posts_turned m1 last) (posts_settled ready m2)
          (own-append m (begun_posts m epoch shift m.step) (posts_turned m1 last)
          (own-begun m p epoch shift m.step within can.fits)
          (own-before m m1 (posts_turned m1 last) fixed1 (own-turned m1 last id1 (let low = within.shift in
          omega arith) own1)))
          (own-before m m2 (posts_settled ready m2) (record { k = k2; id = i2; feeders = n2; theta = th2 })
          (own-settled m2 ready id2));
      within = rw state within3;
      k = ap (λ (z : EpochState). z.k) state ∙ settled-k m2 ready ∙ k2;
      id = ap (λ (z : EpochState). z.id) state ∙ settled-id m2 ready ∙ i2;
      feeders = ap (λ (z : EpochState). z.feeders) state ∙ settled-feeders m2 ready ∙ n2;
      theta = ap (λ (z : EpochState). z.theta) state ∙ settled-theta m2 ready ∙ th2;
      going = can.going;
      stands = λ s t lists low is.
          let fixed = is.fixed in
          let first = begun-by s t lists waiting m p epoch shift fixed low m.step m1.step can.fits begun is.now in
          let t1 = first.0 in
          let l1 = with_sent lists (begun_posts m epoch shift m.step) in
          let now1 : StandsBy s t1 l1 waiting m1 m1.step = subst
          (λ (z : EpochState). StandsBy s t1 l1 waiting z m1.step) (sym rest1) first.3 in
          let fixed1 : IsMachineOf s m1 = subst (λ (z : EpochState). IsMachineOf s z) (sym rest1) (record {
            k = fixed.k;
            id = fixed.id;
            feeders = fixed.feeders;
            matches = fixed.matches;
            small = fixed.small;
          }) in
          let going1 : flag_at m1.ended p ≡ false = subst (λ (z : EpochState). flag_at z.ended p ≡ false) (sym rest1)
          can.going in
          let t2 = took_of_feeder p (Turn epoch shift) t1 in
          let l2 = with_sent l1 (posts_turned m1 last) in
          let second : StandsBy s t2 l2 waiting (record m1 { step = m2.step }) m2.step =
          turned-by s t1 l1 waiting m1 p epoch shift last fixed1 low going1 m1.step m2.step first.2 turned up down
          now1 in
          let now2 : StandsBy s t2 l2 waiting m2 m2.step = subst
          (λ (z : EpochState). StandsBy s t2 l2 waiting z m2.step) (sym rest2) second in
          let fixed2 : IsMachineOf s m2 = subst (λ (z : EpochState). IsMachineOf s z) (sym rest2)
          (record {
            k = fixed1.k;
            id = fixed1.id;
            feeders = fixed1.feeders;
            matches = fixed1.matches;
            small = fixed1.small;
          }) in
          let stands2 : Stands s t2 l2 waiting m2 = record { fixed = fixed2; now = now2 } in
          let third : Stands s t2 (with_sent l2 (posts_settled ready m2)) waiting (after_settle ready m2) =
          stands-settled s t2 l2 waiting m2 ready settles stands2 in
          let same : with_sent l2 (posts_settled ready m2) ≡ with_sent lists
          (begun_posts m epoch shift m.step ++ posts_turned m1 last ++ posts_settled ready m2) =
          ap (λ (ls : JoinerLists). with_sent ls (posts_settled ready m2))
          (with_sent-append lists (begun_posts m epoch shift m.step) (posts_turned m1 last))
          ∙ with_sent-append lists (begun_posts m epoch shift m.step ++ posts_turned m1 last)
          (posts_settled ready m2) in (
            t2,
            record {
              from_feeder = ap (λ (f : ℕ → List ToJoiner). grown p (Turn epoch shift) f) first.1.0;
              from_joiner = first.1.1;
            },
            rw state (subst (λ (ls : JoinerLists). Stands s t2 ls waiting (after_settle ready m2)) same third),
          );
      does = does-turn m m1 m2 m3 p epoch shift last ready waiting before s1 s2 after rest1 begun posts1 rest2 turned up
          down posts2 settles not_yet state posts3;
    }
  where
    four : {X : Type 0} (us vs ws zs : List X) → ((us ++ vs) ++ ws) ++ zs ≡ us ++ (vs ++ ws ++ zs)
    four us vs ws zs = ap (λ xs. xs ++ zs) (append_assoc us vs ws) ∙ append_assoc us (vs ++ ws) zs
