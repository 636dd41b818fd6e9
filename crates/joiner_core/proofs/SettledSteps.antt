-- The open step is settled.
use Rattle.std.proofs.Common.{◌≡◌, ℕ, ◌<◌, ◌≤◌, ◌^◌, refl, sym, ◌∙◌, ap, subst, arith, Bool, true, false, Option, Some}
use Rattle.std.proofs.Common.{None, List, [], ◌∷◌, ◌++◌, length}
use Rattle.std.specs.Prelude.{count_by}
use Rattle.epoch_tags.specs.declared.tuple.Pair.{Pair}
use Rattle.migration_plan.specs.Steps.{is_of, exchanged_side}
use Rattle.joiner_law.specs.Law.{JoinerStart, JoinerLists, Taken}
use Rattle.joiner_law.specs.Posting.{settled_post}
use Rattle.joiner_law.specs.History.{stored}
use Rattle.joiner_law.specs.Standing.{with_sent, StandsSettled, StandsOpen, moved_counts}
use Rattle.joiner_law.proofs.MovedBySteps.{count-bag}
use Rattle.joiner_law.proofs.TakenTurns.{settled-step}
use Rattle.joiner_core.specs.State.{IsStock, OpenStep, EpochState}
use Rattle.joiner_core.specs.Changes.{settled_by, IsReady, settle_posts, posts_settled, after_settle}
use Rattle.joiner_core.specs.Taking.{IsMachineOf, IsClosed, IsOpen, StandsBy, Stands, IsStepStock, IsWithin}
use Rattle.joiner_core.specs.Taking.{IsStepWithin, IsCounted, HasSomeTurn}
use Rattle.epoch_tags.specs.Flags.{flag_at}
use Rattle.joiner_core.proofs.SentPosts.{with_sent-none}

open-settled : (s : JoinerStart) (t : Taken) (lists : JoinerLists) (waiting : List Pair) (m : EpochState) (o : OpenStep)
    → IsMachineOf s m → o.partner_ended ≡ true → (is : IsOpen s t lists waiting m o) → is.all_turned ≡ true
    → IsClosed s t (with_sent lists (settled_post o.epoch ∷ [])) waiting (settled_by m (Some o))
open-settled s t lists waiting m o fixed part is turned =
    let before : StandsOpen s t lists waiting (flag_at o.turned) (flag_at m.ended)
    true o.partner_ended m.store.tuples o.store.tuples is.new is.cur is.past = rw turned at is.stands in
    let before' : StandsOpen s t lists waiting (flag_at o.turned) (flag_at m.ended)
    true true m.store.tuples o.store.tuples is.new is.cur is.past = rw part at before in
    let after = settled-step (is.all turned) before' in
    let at = is.step_epoch in
    let here = stored s.k s.id (is.cur ∷ is.past) in
    let same : count_by (is_of (exchanged_side m.shift o.shift)) m.store.tuples
    ≡ count_by (is_of (exchanged_side is.cur.shift is.new.shift)) here =
    ap (λ b. count_by (is_of (exchanged_side b o.shift)) m.store.tuples) is.shift
    ∙ ap (λ b. count_by (is_of (exchanged_side is.cur.shift b)) m.store.tuples) is.step_shift
    ∙ count-bag (is_of (exchanged_side is.cur.shift is.new.shift)) m.store.tuples here is.stands.store in
    let counted : m.moved ++ count_by (is_of (exchanged_side m.shift o.shift)) m.store.tuples ∷ []
    ≡ moved_counts s.k s.id (is.new ∷ (is.cur ∷ is.past)) =
    ap (λ zs. zs ++ count_by (is_of (exchanged_side m.shift o.shift)) m.store.tuples ∷ []) is.moved
    ∙ ap (λ n. moved_counts s.k s.id (is.cur ∷ is.past) ++ n ∷ []) same in
    record {
      cur = is.new;
      past = is.cur ∷ is.past;
      stands = subst (λ (e : ℕ). StandsSettled s t (with_sent lists (settled_post e ∷ [])) waiting (flag_at m.ended)
          o.store.tuples is.new (is.cur ∷ is.past)) (sym is.step_epoch) after;
      epoch = omega arith;
      shift = is.step_shift;
      ended_count = is.ended_count;
      moved = counted;
    }

settled-by-step : (s : JoinerStart) (t : Taken) (lists : JoinerLists) (waiting : List Pair) (m : EpochState)
    → IsMachineOf s m → (step : Option OpenStep) → IsReady step → StandsBy s t lists waiting m step
    → Stands s t (with_sent lists (settle_posts step)) waiting (settled_by m step)
settled-by-step s t lists waiting m fixed None ready is = absurd ready
settled-by-step s t lists waiting m fixed (Some o) ready is =
    let turned : is.all_turned ≡ true = not_false is.all_turned
    (λ same. is.missing same (λ q low. ready.1 q (let n = is.count in omega arith))) in
    record {
      fixed = record {
        k = fixed.k;
        id = fixed.id;
        feeders = fixed.feeders;
        matches = fixed.matches;
        small = fixed.small;
      };
      now = open-settled s t lists waiting m o fixed ready.0 is turned;
    }
  where
    not_false : (b : Bool) → (b ≡ false → ⊥) → b ≡ true
    not_false true never = refl
    not_false false never = absurd (never refl)

-- a machine that stands does so after its step, if that is ready, was settled, with the controller told
pub stands-settled : (s : JoinerStart) (t : Taken) (lists : JoinerLists) (waiting : List Pair) (m : EpochState)
    (ready : Bool) → (ready ≡ true → IsReady m.step) → Stands s t lists waiting m
    → Stands s t (with_sent lists (posts_settled ready m)) waiting (after_settle ready m)
stands-settled s t lists waiting m true up is = settled-by-step s t lists waiting m is.fixed m.step (up refl) is.now
stands-settled s t lists waiting m false up is = subst (λ (ls : JoinerLists). Stands s t ls waiting m)
    (sym (with_sent-none lists)) is

settled-within-step : (m : EpochState) (step : Option OpenStep) → IsReady step → m.k ≤ 8 → IsStepWithin m.k m.shift step
    → length m.ended ≡ m.feeders → m.id < 2 ^ m.k → IsStepStock m.theta step → IsWithin (settled_by m step)
settled-within-step m None ready small step ended id stock = absurd ready
settled-within-step m (Some o) ready small step ended id stock = record {
  small = small;
  shift = step.0;
  step = tt;
  ended = ended;
  count = tt;
  begun = tt;
  rests = λ never. never;
  id = id;
  stock = stock;
  step_stock = tt;
}

-- what holds of the machine before a step that may be ready is settled: all that holds between two messages, but that
-- no step is ready
pub record IsUnsettled (m : EpochState) : Type 0 where
  pub small : m.k ≤ 8
  pub shift : m.shift ≤ m.k
  pub step : IsStepWithin m.k m.shift m.step
  pub ended : length m.ended ≡ m.feeders
  pub count : IsCounted m.feeders m.step
  pub begun : HasSomeTurn m.feeders m.step
  pub id : m.id < 2 ^ m.k
  pub stock : IsStock m.theta m.store
  pub step_stock : IsStepStock m.theta m.step

-- all holds once a ready step is settled, and no other
pub settled-within : (m : EpochState) (ready : Bool) → (ready ≡ true → IsReady m.step)
    → (ready ≡ false → IsReady m.step → ⊥) → IsUnsettled m → IsWithin (after_settle ready m)
settled-within m true settles not_yet is =
    settled-within-step m m.step (settles refl) is.small is.step is.ended is.id is.step_stock
settled-within m false settles not_yet is = record {
  small = is.small;
  shift = is.shift;
  step = is.step;
  ended = is.ended;
  count = is.count;
  begun = is.begun;
  rests = not_yet refl;
  id = is.id;
  stock = is.stock;
  step_stock = is.step_stock;
}

-- settling a step doesn't change the grid's k
pub settled-k : (m : EpochState) (ready : Bool) → (after_settle ready m).k ≡ m.k
settled-k m true = by m.step
  where
    by : (step : Option OpenStep) → (settled_by m step).k ≡ m.k
    by None = refl
    by (Some o) = refl
settled-k m false = refl

-- nor the number of feeders
pub settled-feeders : (m : EpochState) (ready : Bool) → (after_settle ready m).feeders ≡ m.feeders
settled-feeders m true = by m.step
  where
    by : (step : Option OpenStep) → (settled_by m step).feeders ≡ m.feeders
    by None = refl
    by (Some o) = refl
settled-feeders m false = refl

-- nor the joiner's id
pub settled-id : (m : EpochState) (ready : Bool) → (after_settle ready m).id ≡ m.id
settled-id m true = by m.step
  where
    by : (step : Option OpenStep) → (settled_by m step).id ≡ m.id
    by None = refl
    by (Some o) = refl
settled-id m false = refl

-- nor the predicate
pub settled-theta : (m : EpochState) (ready : Bool) → (after_settle ready m).theta ≡ m.theta
settled-theta m true = by m.step
  where
    by : (step : Option OpenStep) → (settled_by m step).theta ≡ m.theta
    by None = refl
    by (Some o) = refl
settled-theta m false = refl
