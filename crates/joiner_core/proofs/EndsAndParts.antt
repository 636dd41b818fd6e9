-- A feeder's end and a partner's messages, as whole calls.
use Rattle.std.proofs.Common.{◌≡◌, ℕ, ◌^◌, ◌<◌, refl, sym, ◌∙◌, ap, subst, arith, Bool, true, false, Option, Some, None}
use Rattle.std.proofs.Common.{List, [], ◌++◌, length}
use Rattle.std.specs.Prelude.{slice_set}
use Rattle.std.proofs.Math.ListN.{length-set}
use Rattle.epoch_tags.specs.declared.tuple.Tuple.{Tuple}
use Rattle.epoch_tags.specs.declared.tuple.Pair.{Pair}
use Rattle.epoch_tags.specs.declared.message.Post.{Post}
use Rattle.epoch_tags.specs.declared.message.ToJoiner.TheVariants.{End, Moved, MovedEnd}
use Rattle.epoch_tags.specs.Flags.{flag_at}
use Rattle.joiner_law.specs.Law.{JoinerStart, JoinerLists, Taken}
use Rattle.joiner_law.specs.History.{Step}
use Rattle.joiner_law.specs.Standing.{took_of_feeder, took_of_joiner, with_sent, IsOfFeeder, StandsOpen}
use Rattle.migration_plan.specs.Steps.{partner_in_step}
use Rattle.joiner_law.proofs.TakenTurns.{open-end}
use Rattle.joiner_core.specs.Changes.{after_moved, found_moved, moved_found, step_new, with_new, part_by, after_part}
use Rattle.joiner_core.specs.Changes.{IsReady, posts_settled, after_settle}
use Rattle.joiner_core.specs.State.{OpenStep, EpochState, IsRow}
use Rattle.joiner_core.specs.Taking.{IsMachineOf, IsOpen, StandsBy, Stands, IsWithin, IsFixed, IsStepWithin, IsCounted}
use Rattle.joiner_core.specs.Taking.{HasSomeTurn, TookOfFeeder, TookOfJoiner, PartFits}
use Rattle.joiner_core.proofs.RowWidths.{stock-part}
use Rattle.joiner_core.proofs.OwnPosts.{own-none, own-settled, own-before}
use Rattle.std.proofs.lemmas.List.{append-nil}
use Rattle.joiner_core.proofs.SentPosts.{quiet-settled, with_sent-none}
use Rattle.joiner_core.proofs.FlagChanges.{closed-end, flag-set}
use Rattle.joiner_core.proofs.PartnerParts.{open-part, open-part_end}
use Rattle.joiner_core.proofs.SettledSteps.{stands-settled, settled-within, settled-k, settled-id, settled-feeders}
use Rattle.joiner_core.proofs.SettledSteps.{settled-theta}
use Rattle.joiner_core.proofs.TakenTuples.{new-within}
use Rattle.joiner_core.proofs.Outcomes.{does-end, does-part}

-- ---- a feeder's end

module _ (s : JoinerStart) (t : Taken) (lists : JoinerLists) (waiting : List Pair)
    (turned ended ended' : ℕ → Bool) (all_turned part_ended : Bool) (a b : List Tuple) (new cur : Step)
    (past : List Step) where
  same-ends-open : ((p : ℕ) → ended p ≡ ended' p)
      → StandsOpen s t lists waiting turned ended all_turned part_ended a b new cur past
      → StandsOpen s t lists waiting turned ended' all_turned part_ended a b new cur past
  same-ends-open same is =
      let steps = is.steps in
      record {
        steps = record {
          feeders = λ p low. subst (λ (b : Bool). IsOfFeeder s.epoch t.shift_at (length past) (turned p) b
              (t.from_feeder p)) (same p) (steps.feeders p low);
          history = steps.history;
          by_one = steps.by_one;
          in_time = steps.in_time;
          pairs = steps.pairs;
          sent = steps.sent;
          parts = steps.parts;
          told = steps.told;
          first_shift = steps.first_shift;
          from_partner = steps.from_partner;
          to_partner = steps.to_partner;
        };
        store = is.store;
        opened = is.opened;
        links = is.links;
        taken_up_to = is.taken_up_to;
      }

module _ (s : JoinerStart) (t : Taken) (lists : JoinerLists) (waiting : List Pair) (m m' : EpochState) (p : ℕ)
    (low : p < s.feeders) (going : flag_at m.ended p ≡ false) (flags : m'.ended ≡ slice_set m.ended p true) where
  open-ended : (o : OpenStep) → IsOpen s t lists waiting m o
      → IsOpen s (took_of_feeder p End t) lists waiting (record m { ended = m'.ended }) o
  open-ended o is =
      let within : p < length m.ended = let n = is.ended_count in omega arith in
      let after = open-end p low going is.stands in
      record {
        new = is.new;
        cur = is.cur;
        past = is.past;
        all_turned = is.all_turned;
        stands = same-ends-open s (took_of_feeder p End t) lists waiting (flag_at o.turned) _ (flag_at m'.ended)
            is.all_turned o.partner_ended m.store.tuples o.store.tuples is.new is.cur is.past
            (λ q. flag-set m.ended p q within ∙ ap (λ fs. flag_at fs q) (sym flags)) after;
        epoch = is.epoch;
        shift = is.shift;
        step_epoch = is.step_epoch;
        step_shift = is.step_shift;
        ended_count = ap length flags ∙ length-set m.ended p true ∙ is.ended_count;
        moved = is.moved;
        count = is.count;
        missing = is.missing;
        all = is.all;
      }

  end-by : (step : Option OpenStep) → StandsBy s t lists waiting m step
      → StandsBy s (took_of_feeder p End t) lists waiting (record m { ended = m'.ended }) step
  end-by None is = closed-end s t lists waiting m m' p low going flags is
  end-by (Some o) is = open-ended o is

-- where a feeder that hadn't ended is marked as ended, and nothing else changes, its `End` was taken, and nothing sent
pub took-end : (m m' : EpochState) (p : ℕ) (waiting : List Pair) (before : List Post) → IsWithin m
    → flag_at m.ended p ≡ false → m' ≡ record m { ended = m'.ended } → m'.ended ≡ slice_set m.ended p true
    → TookOfFeeder p End m m' waiting waiting before before
took-end m m' p waiting before within going state flags = record {
  added = [];
  sends = sym (append-nil before);
  quiet = refl;
  own = own-none m;
  within = subst (λ (z : EpochState). IsWithin z) (sym state) (record {
    small = within.small;
    shift = within.shift;
    step = within.step;
    ended = ap length flags ∙ length-set m.ended p true ∙ within.ended;
    count = within.count;
    begun = within.begun;
    rests = within.rests;
    id = within.id;
    stock = within.stock;
    step_stock = within.step_stock;
  });
  k = ap (λ (z : EpochState). z.k) state;
  id = ap (λ (z : EpochState). z.id) state;
  feeders = ap (λ (z : EpochState). z.feeders) state;
  theta = ap (λ (z : EpochState). z.theta) state;
  going = going;
  stands = λ s t lists low is.
      let fixed = is.fixed in
      let now = end-by s t lists waiting m m' p low going flags m.step is.now in
      let whole : Stands s (took_of_feeder p End t) lists waiting (record m { ended = m'.ended }) =
      record {
        fixed = record {
          k = fixed.k;
          id = fixed.id;
          feeders = fixed.feeders;
          matches = fixed.matches;
          small = fixed.small;
        };
        now = now;
      } in (
        took_of_feeder p End t,
        record { from_feeder = refl; from_joiner = refl },
        subst (λ (z : EpochState). Stands s (took_of_feeder p End t) (with_sent lists []) waiting z) (sym state)
            (subst (λ (ls : JoinerLists). Stands s (took_of_feeder p End t) ls waiting (record m { ended = m'.ended }))
            (sym (with_sent-none lists)) whole),
      );
  does = does-end m m' p waiting before state flags;
}

-- ---- a tuple that the partner moved here

module _ (s : JoinerStart) (t : Taken) (lists : JoinerLists) (waiting : List Pair) (m : EpochState)
    (q epoch : ℕ) where
  moved-by : (x : Tuple) → IsMachineOf s m → (step : Option OpenStep) → PartFits m q epoch step
      → StandsBy s t lists waiting m step
      → StandsBy s (took_of_joiner q (Moved epoch x) t) lists (waiting ++ moved_found m x step)
      (record m { step = step_new x step }) (step_new x step)
  moved-by x fixed None fits is = absurd fits
  moved-by x fixed (Some o) fits is =
      subst (λ (j : ℕ). IsOpen s (took_of_joiner j (Moved epoch x) t) lists (waiting ++ moved_found m x (Some o))
      (record m { step = Some (with_new o x) }) (with_new o x)) (sym fits.2)
      (subst (λ (e : ℕ). IsOpen s (took_of_joiner (partner_in_step m.shift o.shift m.id) (Moved e x) t) lists
      (waiting ++ moved_found m x (Some o)) (record m { step = Some (with_new o x) }) (with_new o x)) (sym fits.0)
      (open-part s t lists waiting m o x fixed is))

fits-open : (m : EpochState) (q epoch : ℕ) (step : Option OpenStep) → PartFits m q epoch step → step ≡ None → ⊥
fits-open m q epoch None fits is = fits
fits-open m q epoch (Some o) fits is = absurd (cc)

module _ (m m' : EpochState) (q epoch : ℕ) (x : Tuple) (w w' : List Pair) (before : List Post) where
  -- where a tuple that fits the open step's part is stored in that step, and the pairs that it makes wait, a `Moved` of
  -- the partner was taken, and nothing sent
  pub took-moved : IsWithin m → IsRow m.theta x → m' ≡ after_moved m x → w' ≡ w ++ found_moved m x
      → PartFits m q epoch m.step → TookOfJoiner q (Moved epoch x) m m' w w' before before
  took-moved within row state more fits = rw (state, more) (record {
    added = [];
    sends = sym (append-nil before);
    quiet = refl;
    own = own-none m;
    within = new-within m x within row;
    k = refl;
    id = refl;
    feeders = refl;
    theta = refl;
    opened = fits-open m q epoch m.step fits;
    stands = λ s t lists is.
        let fixed = is.fixed in
        let whole : Stands s (took_of_joiner q (Moved epoch x) t) lists (w ++ found_moved m x) (after_moved m x) =
        record {
          fixed = record {
            k = fixed.k;
            id = fixed.id;
            feeders = fixed.feeders;
            matches = fixed.matches;
            small = fixed.small;
          };
          now = moved-by s t lists w m q epoch x fixed m.step fits is.now;
        } in (
          took_of_joiner q (Moved epoch x) t,
          record { from_feeder = refl; from_joiner = refl },
          subst (λ (ls : JoinerLists). Stands s (took_of_joiner q (Moved epoch x) t) ls (w ++ found_moved m x)
              (after_moved m x)) (sym (with_sent-none lists)) whole,
        );
    does = record { left = refl; found = refl; posts = sym (append-nil before) };
  })

-- ---- the end of the partner's part

module _ (s : JoinerStart) (t : Taken) (lists : JoinerLists) (waiting : List Pair) (m : EpochState)
    (q epoch : ℕ) (fixed : IsMachineOf s m) where
  part-end-by : (step : Option OpenStep) → PartFits m q epoch step → StandsBy s t lists waiting m step
      → StandsBy s (took_of_joiner q (MovedEnd epoch) t) lists waiting (record m { step = part_by step }) (part_by step)
  part-end-by None fits is = absurd fits
  part-end-by (Some o) fits is =
      subst (λ (j : ℕ). IsOpen s (took_of_joiner j (MovedEnd epoch) t) lists waiting
      (record m { step = part_by (Some o) }) (record o { partner_ended = true })) (sym fits.2)
      (subst (λ (e : ℕ). IsOpen s (took_of_joiner (partner_in_step m.shift o.shift m.id) (MovedEnd e) t) lists waiting
      (record m { step = part_by (Some o) }) (record o { partner_ended = true })) (sym fits.0)
      (open-part_end s t lists waiting m o fixed fits.1 is))

part-within : (k shift : ℕ) (step : Option OpenStep) → IsStepWithin k shift step → IsStepWithin k shift (part_by step)
part-within k shift None is = tt
part-within k shift (Some o) is = is

part-count : (n : ℕ) (step : Option OpenStep) → IsCounted n step → IsCounted n (part_by step)
part-count n None is = tt
part-count n (Some o) is = is

part-begun : (n : ℕ) (step : Option OpenStep) → HasSomeTurn n step → HasSomeTurn n (part_by step)
part-begun n None is = tt
part-begun n (Some o) is = is

ended-within : (m m1 : EpochState) (ready : Bool) → IsWithin m → m1 ≡ after_part m → (ready ≡ true → IsReady m1.step)
    → (ready ≡ false → IsReady m1.step → ⊥) → IsWithin (after_settle ready m1)
ended-within m m1 ready within part = subst (λ (z : EpochState). (ready ≡ true → IsReady z.step)
    → (ready ≡ false → IsReady z.step → ⊥) → IsWithin (after_settle ready z)) (sym part)
    (λ settles not_yet. settled-within (after_part m) ready settles not_yet (record {
      small = within.small;
      shift = within.shift;
      step = part-within m.k m.shift m.step within.step;
      ended = within.ended;
      count = part-count m.feeders m.step within.count;
      begun = part-begun m.feeders m.step within.begun;
      id = within.id;
      stock = within.stock;
      step_stock = stock-part m.theta m.step within.step_stock;
    }))

-- the open step leads to a neighbouring shift within the grid still, once its partner's part is over
pub part-step : (m m1 : EpochState) → m1 ≡ after_part m → IsStepWithin m.k m.shift m.step
    → IsStepWithin m1.k m1.shift m1.step
part-step m m1 part within = subst (λ (z : EpochState). IsStepWithin z.k z.shift z.step) (sym part)
    (part-within m.k m.shift m.step within)

part-fixed : (m m1 : EpochState) → m1 ≡ after_part m → IsFixed m m1
part-fixed m m1 part = subst (λ (z : EpochState). IsFixed m z) (sym part) (record {
  k = refl;
  id = refl;
  feeders = refl;
  theta = refl;
})

module _ (m m1 m2 : EpochState) (q epoch : ℕ) (ready : Bool) (w : List Pair) (before after : List Post) where
  -- where a `MovedEnd` fits the open step, its partner's part is marked as over, and the step is settled if and only if
  -- it is ready then, that message was taken
  pub took-moved_end : IsWithin m → m1 ≡ after_part m → (ready ≡ true → IsReady m1.step)
      → (ready ≡ false → IsReady m1.step → ⊥) → m2 ≡ after_settle ready m1 → after ≡ before ++ posts_settled ready m1
      → PartFits m q epoch m.step → TookOfJoiner q (MovedEnd epoch) m m2 w w before after
  took-moved_end within part settles not_yet state posts fits = record {
    added = posts_settled ready m1;
    sends = posts;
    quiet = quiet-settled ready m1;
    own = own-before m m1 (posts_settled ready m1) (part-fixed m m1 part)
        (own-settled m1 ready (subst (λ (z : EpochState). z.id < 2 ^ z.k) (sym part) within.id));
    within = subst (λ (z : EpochState). IsWithin z) (sym state) (ended-within m m1 ready within part settles not_yet);
    k = ap (λ (z : EpochState). z.k) state ∙ settled-k m1 ready ∙ ap (λ (z : EpochState). z.k) part;
    id = ap (λ (z : EpochState). z.id) state ∙ settled-id m1 ready ∙ ap (λ (z : EpochState). z.id) part;
    feeders = ap (λ (z : EpochState). z.feeders) state ∙ settled-feeders m1 ready
        ∙ ap (λ (z : EpochState). z.feeders) part;
    theta = ap (λ (z : EpochState). z.theta) state ∙ settled-theta m1 ready ∙ ap (λ (z : EpochState). z.theta) part;
    opened = fits-open m q epoch m.step fits;
    stands = λ s t lists is.
        let fixed = is.fixed in
        let t' = took_of_joiner q (MovedEnd epoch) t in
        let first : Stands s t' lists w (after_part m) =
        record {
          fixed = record {
            k = fixed.k;
            id = fixed.id;
            feeders = fixed.feeders;
            matches = fixed.matches;
            small = fixed.small;
          };
          now = part-end-by s t lists w m q epoch fixed m.step fits is.now;
        } in
        let first' : Stands s t' lists w m1 = subst (λ (z : EpochState). Stands s t' lists w z) (sym part) first in (
          t',
          record { from_feeder = refl; from_joiner = refl },
          subst (λ (z : EpochState). Stands s t' (with_sent lists (posts_settled ready m1)) w z) (sym state)
              (stands-settled s t' lists w m1 ready settles first'),
        );
    does = does-part m m1 m2 ready w before after part settles not_yet state posts;
  }
