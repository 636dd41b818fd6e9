-- A step is opened.
use Rattle.std.proofs.Common.{◌≡◌, ℕ, ◌+◌, ◌<◌, ◌≤◌, refl, sym, ◌∙◌, subst, arith, false, Option, Some, None, List, []}
use Rattle.std.proofs.Common.{length}
use Rattle.std.proofs.lemmas.Bool.{false≢true}
use Rattle.epoch_tags.specs.declared.tuple.Pair.{Pair}
use Rattle.migration_plan.specs.Steps.{AreNeighbours}
use Rattle.joiner_law.specs.Law.{JoinerStart, JoinerLists, Taken}
use Rattle.joiner_law.specs.History.{new_step}
use Rattle.joiner_law.specs.Standing.{with_sent, with_shift}
use Rattle.joiner_law.proofs.TakenTurns.{opened-step}
use Rattle.joiner_core.specs.State.{OpenStep, EpochState}
use Rattle.joiner_core.specs.Changes.{IsOpened, posts_opened, HasBegun, begun_posts}
use Rattle.joiner_core.specs.Taking.{IsMachineOf, IsClosed, IsOpen, StandsBy, IsWithin, IsStepWithin, IsCounted}
use Rattle.joiner_core.specs.Taking.{TurnFits, CanTakeTurn}
use Rattle.epoch_tags.specs.Flags.{flag_at}
use Rattle.joiner_core.proofs.SentPosts.{with_sent-none}
use Rattle.joiner_core.proofs.FlagChanges.{same-flags}

-- the step is open, and feeder p may turn to it
abbrev pub IsSomeTurn : ℕ → ℕ → ℕ → Option OpenStep → Type 0
IsSomeTurn p epoch shift None = ⊥
IsSomeTurn p epoch shift (Some o) = (flag_at o.turned p ≡ false) × (epoch ≡ o.epoch) × (shift ≡ o.shift)

module _ (s : JoinerStart) (t : Taken) (lists : JoinerLists) (waiting : List Pair) (m : EpochState)
    (o : OpenStep) (epoch shift : ℕ) (fixed : IsMachineOf s m) where
  closed-opened : epoch ≡ m.epoch + 1 → shift ≤ m.k → AreNeighbours m.shift shift → 0 < s.feeders
      → IsOpened m epoch shift o → IsClosed s t lists waiting m
      → IsOpen s (with_shift epoch shift t) (with_sent lists (posts_opened m epoch shift)) waiting
      (record m { step = Some o }) o
  closed-opened next within near some opened is =
      let at = is.epoch in
      let now : epoch ≡ s.epoch + length is.past + 1 = omega arith in
      let near' : AreNeighbours is.cur.shift shift = subst (λ (b : ℕ). AreNeighbours b shift) is.shift near in
      let within' : shift ≤ s.k = let k = fixed.k in omega arith in
      let after = opened-step shift within' near' is.stands in
      record {
        new = new_step shift;
        cur = is.cur;
        past = is.past;
        all_turned = false;
        stands = rw (
          opened.store,
          opened.partner_ended,
          fixed.k,
          fixed.id,
          is.shift,
          now,
        ) (same-flags s _ _ waiting (λ p. false) (flag_at o.turned) _ false false m.store.tuples _ _ is.cur is.past
            (λ p. sym (opened.turned p)) after);
        epoch = is.epoch;
        shift = is.shift;
        step_epoch = opened.epoch ∙ now;
        step_shift = opened.shift;
        ended_count = is.ended_count;
        moved = is.moved;
        count = opened.count ∙ fixed.feeders;
        missing = λ same each. false≢true (sym (opened.turned 0) ∙ each 0 some);
        all = λ never. absurd (false≢true never);
      }

-- what is said of the open step doesn't depend on the place where the machine keeps it
same-open : (s : JoinerStart) (t : Taken) (lists : JoinerLists) (waiting : List Pair) (m : EpochState) (o : OpenStep)
    (step : Option OpenStep) → IsOpen s t lists waiting m o → IsOpen s t lists waiting (record m { step = step }) o
same-open s t lists waiting m o step is = record {
  new = is.new;
  cur = is.cur;
  past = is.past;
  all_turned = is.all_turned;
  stands = is.stands;
  epoch = is.epoch;
  shift = is.shift;
  step_epoch = is.step_epoch;
  step_shift = is.step_shift;
  ended_count = is.ended_count;
  moved = is.moved;
  count = is.count;
  missing = is.missing;
  all = is.all;
}

module _ (s : JoinerStart) (t : Taken) (lists : JoinerLists) (waiting : List Pair) (m : EpochState)
    (p epoch shift : ℕ) (fixed : IsMachineOf s m) (low : p < s.feeders) where
  -- where feeder p may turn and the step was opened for it or was open, the machine stands with the posts of the
  -- opening sent and nothing more taken, though the epoch may have got its shift, and p may turn in that step
  pub begun-by : (step step' : Option OpenStep) → TurnFits m p epoch shift step → HasBegun m epoch shift step step'
      → StandsBy s t lists waiting m step
      → (t' : Taken) × ((t'.from_feeder ≡ t.from_feeder) × (t'.from_joiner ≡ t.from_joiner))
      × IsSomeTurn p epoch shift step'
      × StandsBy s t' (with_sent lists (begun_posts m epoch shift step)) waiting (record m { step = step' }) step'
  begun-by None None fits has is = absurd has
  begun-by None (Some o) fits has is = (
    with_shift epoch shift t,
    (refl, refl),
    (has.turned p, sym has.epoch, sym has.shift),
    closed-opened s t lists waiting m o epoch shift fixed fits.0 fits.1 fits.2 (omega arith) has is,
  )
  begun-by (Some o) step' fits has is = (
    t,
    (refl, refl),
    subst (λ (z : Option OpenStep). IsSomeTurn p epoch shift z) (sym has) fits,
    subst (λ (z : Option OpenStep). StandsBy s t (with_sent lists []) waiting (record m { step = z }) z) (sym has)
        (subst (λ (ls : JoinerLists). IsOpen s t ls waiting (record m { step = Some o }) o) (sym (with_sent-none lists))
        (same-open s t lists waiting m o (Some o) is)),
  )

-- the shifts stay within the grid
pub begun-within : (m : EpochState) (p epoch shift : ℕ) (step step' : Option OpenStep) → TurnFits m p epoch shift step
    → IsStepWithin m.k m.shift step → HasBegun m epoch shift step step' → IsStepWithin m.k m.shift step'
begun-within m p epoch shift None None fits within has = tt
begun-within m p epoch shift None (Some o) fits within has =
    subst (λ (b : ℕ). (b ≤ m.k) × AreNeighbours m.shift b) (sym has.shift) (fits.1, fits.2)
begun-within m p epoch shift (Some o) step' fits within has =
    subst (λ (z : Option OpenStep). IsStepWithin m.k m.shift z) (sym has) within

-- a turn that opens the step leads to a neighbouring shift
pub turn-next : (m : EpochState) (p epoch shift : ℕ) (step : Option OpenStep) → TurnFits m p epoch shift step
    → step ≡ None → AreNeighbours m.shift shift
turn-next m p epoch shift None fits none = fits.2
turn-next m p epoch shift (Some o) fits none = absurd (cc)

-- a turn that can be taken begins a step to a neighbouring shift within the grid
pub begun-step : (m m1 : EpochState) (p epoch shift : ℕ) → IsWithin m → CanTakeTurn m p epoch shift
    → m1 ≡ record m { step = m1.step } → HasBegun m epoch shift m.step m1.step → IsStepWithin m1.k m1.shift m1.step
begun-step m m1 p epoch shift within can rest begun =
    subst (λ (z : EpochState). IsStepWithin z.k z.shift m1.step) (sym rest)
    (begun-within m p epoch shift m.step m1.step can.fits within.step begun)

-- the step that was opened or was open has a flag for each feeder
pub begun-count : (m : EpochState) (epoch shift : ℕ) (step step' : Option OpenStep) → IsCounted m.feeders step
    → HasBegun m epoch shift step step' → IsCounted m.feeders step'
begun-count m epoch shift None None is has = tt
begun-count m epoch shift None (Some o) is has = has.count
begun-count m epoch shift (Some o) step' is has = subst (λ (z : Option OpenStep). IsCounted m.feeders z) (sym has) is
