-- The machine stands for its lists after a tuple of a feeder, as the whole call.
use Rattle.std.proofs.Common.{◌≡◌, ℕ, ◌+◌, ◌<◌, refl, sym, ◌∙◌, subst, arith, true, false, cond, Option, Some}
use Rattle.std.proofs.Common.{None, List, [], ◌∷◌, ◌++◌, length}
use Rattle.std.proofs.lemmas.List.{append-nil}
use Rattle.std.proofs.lemmas.Bool.{false≢true, false_from_ne_true}
use Rattle.epoch_tags.specs.declared.tuple.Tuple.{Tuple}
use Rattle.epoch_tags.specs.declared.tuple.Pair.{Pair}
use Rattle.epoch_tags.specs.declared.message.ToJoiner.TheVariants.{Tup}
use Rattle.migration_plan.specs.Steps.{holds, exchanged_side, partner_in_step}
use Rattle.joiner_law.specs.Law.{JoinerStart, JoinerLists, Taken}
use Rattle.joiner_law.specs.History.{probed, with_arrived, all_tuples, only_stamp}
use Rattle.joiner_law.specs.Standing.{took_of_feeder, with_sent, StandsOpen}
use Rattle.joiner_law.proofs.Partners.{counts-arrived}
use Rattle.joiner_law.proofs.TakenTuples.{settled-tup, open-late, open-tup}
use Rattle.joiner_core.specs.State.{does_hold, with_placed, IsRow, OpenStep, EpochState}
use Rattle.joiner_core.specs.Changes.{after_old, found_old, posts_old, late_found, late_posts, open_old, opened_late}
use Rattle.joiner_core.specs.Changes.{found_late, posts_late, with_new, after_new, found_new, step_new, new_found}
use Rattle.joiner_core.specs.Changes.{IsReady, turned_in}
use Rattle.joiner_core.specs.Taking.{IsMachineOf, IsClosed, IsOpen, StandsBy, Stands, IsWithin, IsStepWithin, IsCounted}
use Rattle.joiner_core.specs.Taking.{HasSomeTurn, TupFits, CanTakeTup, TookOfFeeder}
use Rattle.joiner_core.proofs.RowWidths.{stock-placed, stock-old, stock-new}
use Rattle.joiner_core.proofs.OwnPosts.{own-none, own-late}
use Rattle.joiner_core.proofs.StoreBags.{settled-placed, open-placed, both-placed}
use Rattle.epoch_tags.specs.declared.message.Post.{Post}
use Rattle.epoch_tags.specs.Flags.{flag_at}
use Rattle.joiner_core.proofs.SentPosts.{with_sent-none, quiet-late}
use Rattle.joiner_core.proofs.Outcomes.{does-old, does-new}

-- what holds at an epoch, and at another, holds at the one that both are
at_epoch : (P : ℕ → ℕ → Type 0) (e f epoch : ℕ) → epoch ≡ e → epoch ≡ f → P e f → P epoch epoch
at_epoch P e f epoch one two is = subst (λ (i : ℕ). P i epoch) (sym one) (subst (λ (j : ℕ). P e j) (sym two) is)

module _ (s : JoinerStart) (t : Taken) (lists : JoinerLists) (waiting : List Pair) (m : EpochState) where
  -- with no step open
  closed-old : (x : Tuple) (p : ℕ) → IsMachineOf s m → p < s.feeders → flag_at m.ended p ≡ false → x.stamp ≡ m.epoch
      → IsClosed s t lists waiting m
      → IsClosed s (took_of_feeder p (Tup x) t) lists (waiting ++ (probed (does_hold m.theta) all_tuples x
      m.store.tuples ++ [])) (record m { store = with_placed x m.store; step = None })
  closed-old x p fixed low going stamp is =
      let at = is.epoch in
      record {
        cur = with_arrived x is.cur;
        past = is.past;
        stands = rw (
          append-nil (probed (does_hold m.theta) all_tuples x m.store.tuples),
          fixed.matches,
        ) (settled-placed s _ lists _ _ m.store.tuples x _ is.past
            (settled-tup p x low going (omega arith) is.stands));
        epoch = is.epoch;
        shift = is.shift;
        ended_count = is.ended_count;
        moved = is.moved ∙ sym (counts-arrived s.k s.id x is.cur is.past);
      }

  -- under an open step
  open-old : (o : OpenStep) (x : Tuple) (p : ℕ) → IsMachineOf s m → p < s.feeders → flag_at m.ended p ≡ false
      → flag_at o.turned p ≡ false → x.stamp ≡ m.epoch → IsOpen s t lists waiting m o
      → IsOpen s (took_of_feeder p (Tup x) t)
      (with_sent lists (posts_late (exchanged_side m.shift o.shift) (partner_in_step m.shift o.shift m.id) o.epoch x))
      (waiting ++ (probed (does_hold m.theta) all_tuples x m.store.tuples
      ++ found_late (does_hold m.theta) m.k m.id o x))
      (record m { store = with_placed x m.store; step = Some (opened_late m.k m.id o x) })
      (opened_late m.k m.id o x)
  open-old o x p fixed low going still stamp is =
      let at = is.epoch in
      let not_all : is.all_turned ≡ false = false_from_ne_true is.all_turned
      (λ yes. false≢true (sym still ∙ is.all yes p low)) in
      let before : StandsOpen s t lists waiting (flag_at o.turned) (flag_at m.ended)
      false o.partner_ended m.store.tuples o.store.tuples is.new is.cur is.past = rw not_all at is.stands in
      let next : s.epoch + length is.past + 1 ≡ s.epoch + length (is.cur ∷ is.past) = omega arith in
      let epoch : o.epoch ≡ s.epoch + length (is.cur ∷ is.past) = is.step_epoch ∙ next in
      let after = open-late p x low going still (omega arith) before in
      record {
        new = is.new;
        cur = with_arrived x is.cur;
        past = is.past;
        all_turned = false;
        stands = rw (
          fixed.matches,
          fixed.k,
          fixed.id,
          is.shift,
          is.step_shift,
        ) (both-placed s _ _ _ _ _ _ _ m.store.tuples o.store.tuples x (holds s.k is.new.shift s.id x)
            is.new _ is.past (at_epoch (λ (i j : ℕ). StandsOpen s (took_of_feeder p (Tup x) t) (with_sent lists
            (posts_late (exchanged_side is.cur.shift is.new.shift)
            (partner_in_step is.cur.shift is.new.shift s.id) i x))
            (waiting ++ (probed s.matches all_tuples x m.store.tuples
            ++ cond (holds s.k is.new.shift s.id x) (probed s.matches (only_stamp j) x o.store.tuples) []))
            (flag_at o.turned) (flag_at m.ended) false o.partner_ended (m.store.tuples ++ x ∷ [])
            (cond (holds s.k is.new.shift s.id x) (o.store.tuples ++ x ∷ []) o.store.tuples)
            is.new (with_arrived x is.cur) is.past)
            (s.epoch + length is.past + 1) (s.epoch + length (is.cur ∷ is.past)) o.epoch is.step_epoch epoch after));
        epoch = is.epoch;
        shift = is.shift;
        step_epoch = is.step_epoch;
        step_shift = is.step_shift;
        ended_count = is.ended_count;
        moved = is.moved ∙ sym (counts-arrived s.k s.id x is.cur is.past);
        count = is.count;
        missing = λ same each. false≢true (sym still ∙ each p low);
        all = λ never. absurd (false≢true never);
      }

  old-by : (x : Tuple) (p : ℕ) → IsMachineOf s m → p < s.feeders → flag_at m.ended p ≡ false → x.stamp ≡ m.epoch
      → (step : Option OpenStep) → turned_in step p ≡ false → StandsBy s t lists waiting m step
      → StandsBy s (took_of_feeder p (Tup x) t) (with_sent lists (late_posts m x step))
      (waiting ++ (probed (does_hold m.theta) all_tuples x m.store.tuples ++ late_found m x step))
      (record m { store = with_placed x m.store; step = open_old m x step }) (open_old m x step)
  old-by x p fixed low going stamp None still is =
      subst (λ (ls : JoinerLists). IsClosed s (took_of_feeder p (Tup x) t) ls
      (waiting ++ (probed (does_hold m.theta) all_tuples x m.store.tuples ++ []))
      (record m { store = with_placed x m.store; step = None })) (sym (with_sent-none lists))
      (closed-old x p fixed low going stamp is)
  old-by x p fixed low going stamp (Some o) still is =
      open-old o x p fixed low going still stamp is

  -- a tuple of the settled epoch
  pub stands-old : (x : Tuple) (p : ℕ) → p < s.feeders → flag_at m.ended p ≡ false → turned_in m.step p ≡ false
      → x.stamp ≡ m.epoch → Stands s t lists waiting m
      → Stands s (took_of_feeder p (Tup x) t) (with_sent lists (posts_old m x)) (waiting ++ found_old m x)
      (after_old m x)
  stands-old x p low going still stamp is =
      let fixed = is.fixed in
      record {
        fixed = record {
          k = fixed.k;
          id = fixed.id;
          feeders = fixed.feeders;
          matches = fixed.matches;
          small = fixed.small;
        };
        now = old-by x p fixed low going stamp m.step still is.now;
      }

  open-new : (o : OpenStep) (x : Tuple) (p : ℕ) → IsMachineOf s m → p < s.feeders → flag_at m.ended p ≡ false
      → flag_at o.turned p ≡ true → x.stamp ≡ o.epoch → IsOpen s t lists waiting m o
      → IsOpen s (took_of_feeder p (Tup x) t) lists (waiting ++ probed (does_hold m.theta) all_tuples x o.store.tuples)
      (record m { step = Some (with_new o x) }) (with_new o x)
  open-new o x p fixed low going has stamp is =
      let at = is.step_epoch in
      record {
        new = with_arrived x is.new;
        cur = is.cur;
        past = is.past;
        all_turned = is.all_turned;
        stands = rw fixed.matches (open-placed s _ _ _ _ _ _ _ m.store.tuples o.store.tuples x _ is.cur is.past
            (open-tup p x low going has (omega arith) is.stands));
        epoch = is.epoch;
        shift = is.shift;
        step_epoch = is.step_epoch;
        step_shift = is.step_shift;
        ended_count = is.ended_count;
        moved = is.moved;
        count = is.count;
        missing = is.missing;
        all = is.all;
      }

  new-by : (x : Tuple) (p : ℕ) → IsMachineOf s m → p < s.feeders → flag_at m.ended p ≡ false → (step : Option OpenStep)
      → turned_in step p ≡ true → TupFits m p x.stamp step → StandsBy s t lists waiting m step
      → StandsBy s (took_of_feeder p (Tup x) t) lists (waiting ++ new_found m x step)
      (record m { step = step_new x step }) (step_new x step)
  new-by x p fixed low going None has fits is = absurd (false≢true has)
  new-by x p fixed low going (Some o) has fits is =
      open-new o x p fixed low going has (fits.1 has) is

  -- where a tuple comes of a feeder that has turned in the open step, the machine stands with it taken and stored
  -- there, and with the pairs that it makes waiting
  pub stands-new : (x : Tuple) (p : ℕ) → p < s.feeders → CanTakeTup m p x.stamp → turned_in m.step p ≡ true
      → Stands s t lists waiting m
      → Stands s (took_of_feeder p (Tup x) t) lists (waiting ++ found_new m x) (after_new m x)
  stands-new x p low can has is =
      let fixed = is.fixed in
      record {
        fixed = record {
          k = fixed.k;
          id = fixed.id;
          feeders = fixed.feeders;
          matches = fixed.matches;
          small = fixed.small;
        };
        now = new-by x p fixed low can.going m.step has can.fits is.now;
      }

fits-old : (m : EpochState) (p stamp : ℕ) (step : Option OpenStep) → turned_in step p ≡ false → TupFits m p stamp step
    → stamp ≡ m.epoch
fits-old m p stamp None still fits = fits
fits-old m p stamp (Some o) still fits = fits.0 still

within-old : (k shift : ℕ) (m : EpochState) (x : Tuple) (step : Option OpenStep) → IsStepWithin k shift step
    → IsStepWithin k shift (open_old m x step)
within-old k shift m x None is = tt
within-old k shift m x (Some o) is = is

within-new : (k shift : ℕ) (x : Tuple) (step : Option OpenStep) → IsStepWithin k shift step
    → IsStepWithin k shift (step_new x step)
within-new k shift x None is = tt
within-new k shift x (Some o) is = is

count-old : (n : ℕ) (m : EpochState) (x : Tuple) (step : Option OpenStep) → IsCounted n step
    → IsCounted n (open_old m x step)
count-old n m x None is = tt
count-old n m x (Some o) is = is

count-new : (n : ℕ) (x : Tuple) (step : Option OpenStep) → IsCounted n step → IsCounted n (step_new x step)
count-new n x None is = tt
count-new n x (Some o) is = is

begun-old : (n : ℕ) (m : EpochState) (x : Tuple) (step : Option OpenStep) → HasSomeTurn n step
    → HasSomeTurn n (open_old m x step)
begun-old n m x None is = tt
begun-old n m x (Some o) is = is

begun-new : (n : ℕ) (x : Tuple) (step : Option OpenStep) → HasSomeTurn n step → HasSomeTurn n (step_new x step)
begun-new n x None is = tt
begun-new n x (Some o) is = is

rests-old : (m : EpochState) (x : Tuple) (step : Option OpenStep) → (IsReady step → ⊥) → IsReady (open_old m x step) → ⊥
rests-old m x None rests ready = ready
rests-old m x (Some o) rests ready = rests ready

rests-new : (x : Tuple) (step : Option OpenStep) → (IsReady step → ⊥) → IsReady (step_new x step) → ⊥
rests-new x None rests ready = ready
rests-new x (Some o) rests ready = rests ready

-- what holds of a machine between two messages holds after a row is stored in the open step
pub new-within : (m : EpochState) (x : Tuple) → IsWithin m → IsRow m.theta x → IsWithin (after_new m x)
new-within m x within row = record {
  small = within.small;
  shift = within.shift;
  step = within-new m.k m.shift x m.step within.step;
  ended = within.ended;
  count = count-new m.feeders x m.step within.count;
  begun = begun-new m.feeders x m.step within.begun;
  rests = rests-new x m.step within.rests;
  id = within.id;
  stock = within.stock;
  step_stock = stock-new m.theta x m.step within.step_stock row;
}

module _ (m m' : EpochState) (x : Tuple) (p : ℕ) (found found' : List Pair) (before after : List Post) where
  -- a row that can be taken, of a feeder that hasn't turned in an open step, was taken where it is stored, perhaps kept
  -- in the open step too and sent to the partner, and its pairs wait
  pub took-old : IsWithin m → CanTakeTup m p x.stamp → IsRow m.theta x → turned_in m.step p ≡ false → m' ≡ after_old m x
      → found' ≡ found ++ found_old m x → after ≡ before ++ posts_old m x
      → TookOfFeeder p (Tup x) m m' found found' before after
  took-old within can row still state more posts = rw (state, more, posts) (record {
    added = posts_old m x;
    sends = refl;
    quiet = quiet-late m x m.step;
    own = own-late m x m.step within.id within.shift within.step row;
    within = record {
      small = within.small;
      shift = within.shift;
      step = within-old m.k m.shift m x m.step within.step;
      ended = within.ended;
      count = count-old m.feeders m x m.step within.count;
      begun = begun-old m.feeders m x m.step within.begun;
      rests = rests-old m x m.step within.rests;
      id = within.id;
      stock = stock-placed m.theta x m.store within.stock row;
      step_stock = stock-old m.theta m x m.step within.step_stock row;
    };
    k = refl;
    id = refl;
    feeders = refl;
    theta = refl;
    going = can.going;
    stands = λ s t lists low is. (
      took_of_feeder p (Tup x) t,
      record { from_feeder = refl; from_joiner = refl },
      stands-old s t lists found m x p low can.going still (fits-old m p x.stamp m.step still can.fits) is,
    );
    does = does-old m p x found before still;
  })

module _ (m m' : EpochState) (x : Tuple) (p : ℕ) (found found' : List Pair) (before : List Post) where
  -- a row that can be taken, of a feeder that has turned in the open step, was taken where it is stored there and its
  -- pairs wait, and nothing is sent
  pub took-new : IsWithin m → CanTakeTup m p x.stamp → IsRow m.theta x → turned_in m.step p ≡ true → m' ≡ after_new m x
      → found' ≡ found ++ found_new m x → TookOfFeeder p (Tup x) m m' found found' before before
  took-new within can row has state more = rw (state, more) (record {
    added = [];
    sends = sym (append-nil before);
    quiet = refl;
    own = own-none m;
    within = new-within m x within row;
    k = refl;
    id = refl;
    feeders = refl;
    theta = refl;
    going = can.going;
    stands = λ s t lists low is. (
      took_of_feeder p (Tup x) t,
      record { from_feeder = refl; from_joiner = refl },
      subst (λ (ls : JoinerLists). Stands s (took_of_feeder p (Tup x) t) ls (found ++ found_new m x)
          (after_new m x)) (sym (with_sent-none lists)) (stands-new s t lists found m x p low can has is),
    );
    does = does-new m p x found before has;
  })
