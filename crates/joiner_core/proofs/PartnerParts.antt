-- An open step after a message of the partner.
use Rattle.std.proofs.Common.{◌≡◌, ℕ, ◌+◌, sym, ◌∙◌, ap, subst, arith, true, false, Some, List, [], ◌∷◌, ◌++◌, length}
use Rattle.epoch_tags.specs.declared.tuple.Tuple.{Tuple}
use Rattle.epoch_tags.specs.declared.tuple.Pair.{Pair}
use Rattle.epoch_tags.specs.declared.message.ToJoiner.TheVariants.{Moved, MovedEnd}
use Rattle.migration_plan.specs.Steps.{partner_in_step}
use Rattle.joiner_law.specs.Law.{JoinerStart, JoinerLists, Taken, partner_of, shift_after}
use Rattle.joiner_law.specs.History.{probed, with_came, only_stamp}
use Rattle.joiner_law.specs.Standing.{took_of_joiner, StandsOpen}
use Rattle.joiner_law.proofs.TakenTuples.{open-moved}
use Rattle.joiner_law.proofs.TakenTurns.{open-moved_end}
use Rattle.joiner_core.specs.State.{does_hold, OpenStep, EpochState}
use Rattle.joiner_core.specs.Changes.{with_new}
use Rattle.joiner_core.specs.Taking.{IsMachineOf, IsOpen}
use Rattle.joiner_core.proofs.StoreBags.{open-placed}
use Rattle.epoch_tags.specs.Flags.{flag_at}

-- with a step open, the law's partner in it is that of the machine's two shifts
pub partner-is : (s : JoinerStart) (t : Taken) (lists : JoinerLists) (waiting : List Pair) (m : EpochState)
    (o : OpenStep) → IsMachineOf s m → (is : IsOpen s t lists waiting m o)
    → partner_of s t (length is.past) ≡ partner_in_step m.shift o.shift m.id
partner-is s t lists waiting m o fixed is =
    let one : shift_after s t (length is.past) ≡ is.cur.shift = is.stands.steps.history.1.0.shift in
    let next : s.epoch + (length is.past + 1) ≡ s.epoch + length (is.cur ∷ is.past) = omega arith in
    let two : shift_after s t (length is.past + 1) ≡ is.new.shift =
    ap t.shift_at next ∙ is.stands.steps.history.0.shift in
    ap (λ a. partner_in_step a (shift_after s t (length is.past + 1)) s.id) (one ∙ sym is.shift)
    ∙ ap (λ b. partner_in_step m.shift b s.id) (two ∙ sym is.step_shift)
    ∙ ap (λ i. partner_in_step m.shift o.shift i) (sym fixed.id)

-- where the partner moves a tuple here, it is taken and stored in the open step, and its pairs with the tuples of the
-- step's epoch wait
pub open-part : (s : JoinerStart) (t : Taken) (lists : JoinerLists) (waiting : List Pair) (m : EpochState)
    (o : OpenStep) (x : Tuple) → IsMachineOf s m → (is : IsOpen s t lists waiting m o)
    → IsOpen s (took_of_joiner (partner_in_step m.shift o.shift m.id) (Moved o.epoch x) t) lists
    (waiting ++ probed (does_hold m.theta) (only_stamp o.epoch) x o.store.tuples)
    (record m { step = Some (with_new o x) }) (with_new o x)
open-part s t lists waiting m o x fixed is =
    let at = is.step_epoch in
    let next : o.epoch ≡ s.epoch + length (is.cur ∷ is.past) = omega arith in
    let after = open-moved o.epoch x is.step_epoch is.stands in
    record {
      new = with_came x is.new;
      cur = is.cur;
      past = is.past;
      all_turned = is.all_turned;
      stands = rw fixed.matches (open-placed s _ _ _ _ _ _ _ m.store.tuples o.store.tuples x _ is.cur is.past
          (subst (λ (q : ℕ). StandsOpen s (took_of_joiner q (Moved o.epoch x) t) lists
          (waiting ++ probed s.matches (only_stamp o.epoch) x o.store.tuples) (flag_at o.turned) (flag_at m.ended)
          is.all_turned o.partner_ended m.store.tuples (o.store.tuples ++ x ∷ []) (with_came x is.new)
          is.cur is.past) (partner-is s t lists waiting m o fixed is)
          (subst (λ (e : ℕ). StandsOpen s (took_of_joiner (partner_of s t (length is.past)) (Moved o.epoch x) t) lists
          (waiting ++ probed s.matches (only_stamp e) x o.store.tuples) (flag_at o.turned) (flag_at m.ended)
          is.all_turned o.partner_ended m.store.tuples (o.store.tuples ++ x ∷ []) (with_came x is.new)
          is.cur is.past) (sym next) after)));
      epoch = is.epoch;
      shift = is.shift;
      step_epoch = is.step_epoch;
      step_shift = is.step_shift;
      ended_count = is.ended_count;
      moved = is.moved;
      count = is.count;
      missing = is.missing;
      all = is.all;
    }

-- where the partner's part isn't over and ends, its `MovedEnd` is taken
pub open-part_end : (s : JoinerStart) (t : Taken) (lists : JoinerLists) (waiting : List Pair) (m : EpochState)
    (o : OpenStep) → IsMachineOf s m → o.partner_ended ≡ false → (is : IsOpen s t lists waiting m o)
    → IsOpen s (took_of_joiner (partner_in_step m.shift o.shift m.id) (MovedEnd o.epoch) t) lists waiting
    (record m { step = Some (record o { partner_ended = true }) }) (record o { partner_ended = true })
open-part_end s t lists waiting m o fixed going is =
    let before : StandsOpen s t lists waiting (flag_at o.turned) (flag_at m.ended)
    is.all_turned false m.store.tuples o.store.tuples is.new is.cur is.past = rw going at is.stands in
    let after = open-moved_end o.epoch is.step_epoch before in
    record {
      new = is.new;
      cur = is.cur;
      past = is.past;
      all_turned = is.all_turned;
      stands = subst (λ (q : ℕ). StandsOpen s (took_of_joiner q (MovedEnd o.epoch) t) lists waiting (flag_at o.turned)
          (flag_at m.ended) is.all_turned true m.store.tuples o.store.tuples is.new is.cur is.past)
          (partner-is s t lists waiting m o fixed is) after;
      epoch = is.epoch;
      shift = is.shift;
      step_epoch = is.step_epoch;
      step_shift = is.step_shift;
      ended_count = is.ended_count;
      moved = is.moved;
      count = is.count;
      missing = is.missing;
      all = is.all;
    }
