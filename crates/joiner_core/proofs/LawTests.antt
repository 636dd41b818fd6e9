-- The machine's tests are those of the law, for the lists for which it stands.
use Rattle.std.proofs.Common.{◌≡◌, ℕ, ◌+◌, ◌<◌, ◌≤◌, refl, sym, ◌∙◌, ap, subst, arith, Bool, true, false, Option, Some}
use Rattle.std.proofs.Common.{None, List, ◌∷◌, length}
use Rattle.std.proofs.lemmas.Bool.{false≢true}
use Rattle.row_cells.proofs.Totals.{greatest_above, greatest_most}
use Rattle.epoch_tags.specs.declared.tuple.Pair.{Pair}
use Rattle.epoch_tags.specs.declared.message.ToJoiner.{ToJoiner}
use Rattle.epoch_tags.specs.declared.message.ToJoiner.TheVariants.{Tup, Turn, End, Moved, MovedEnd}
use Rattle.epoch_tags.specs.Messages.{turns, moved_ends}
use Rattle.epoch_tags.specs.Flags.{flag_at}
use Rattle.migration_plan.specs.Steps.{AreNeighbours, partner_in_step}
use Rattle.joiner_law.specs.Law.{JoinerStart, JoinerLists, Taken, partner_of, shift_after, opened, CanTakeOfFeeder}
use Rattle.joiner_law.specs.Law.{CanTakeOfJoiner, IsOpenPart}
use Rattle.joiner_law.specs.Standing.{one_if}
use Rattle.joiner_core.specs.State.{OpenStep, EpochState}
use Rattle.joiner_core.specs.Taking.{IsMachineOf, IsClosed, IsOpen, StandsBy, Stands, TupFits, TurnFits, HasSomeTurn}
use Rattle.joiner_core.specs.Taking.{PartFits, TakesOfFeeder, TakesOfJoiner}
use Rattle.joiner_core.proofs.PartnerParts.{partner-is}

-- a flag and what it counts
flag-none : (n : ℕ) (b : Bool) → n ≡ one_if b → b ≡ false → n ≡ 0
flag-none n true is down = absurd (false≢true (sym down))
flag-none n false is down = is

none-flag : (n : ℕ) (b : Bool) → n ≡ one_if b → n ≡ 0 → b ≡ false
none-flag n true is none = absurd (omega arith)
none-flag n false is none = refl

turns-down : (n done : ℕ) (b : Bool) → n ≡ done + one_if b → b ≡ false → n ≡ done
turns-down n done true is down = absurd (false≢true (sym down))
turns-down n done false is down = omega arith

turns-up : (n done : ℕ) (b : Bool) → n ≡ done + one_if b → b ≡ true → n ≡ done + 1
turns-up n done true is up = is
turns-up n done false is up = absurd (false≢true up)

down-turns : (n done : ℕ) (b : Bool) → n ≡ done + one_if b → n ≡ done → b ≡ false
down-turns n done true is same = absurd (omega arith)
down-turns n done false is same = refl

flag-cases : (b : Bool) (stamp n e f : ℕ) → n ≡ one_if b → (b ≡ false → stamp ≡ e) × (b ≡ true → stamp ≡ f) → f ≡ e + 1
    → stamp ≡ e + n
flag-cases true stamp n e f is fits next = let at = fits.1 refl in omega arith
flag-cases false stamp n e f is fits next = let at = fits.0 refl in omega arith

-- ---- with no step open

-- with no step open, no more steps were opened than are past
pub closed-few : (s : JoinerStart) (t : Taken) (lists : JoinerLists) (waiting : List Pair) (m : EpochState)
    → (is : IsClosed s t lists waiting m) → opened s t ≤ length is.past
closed-few s t lists waiting m is = greatest_most s.feeders (length is.past) (λ p. turns (t.from_feeder p))
    (λ p low. let many = (is.stands.steps.feeders p low).turns in omega arith)

module _ (s : JoinerStart) (t : Taken) (lists : JoinerLists) (waiting : List Pair) (m : EpochState) (done p : ℕ) where
  closed-feeder : (x : ToJoiner) → IsMachineOf s m → p < s.feeders → m.epoch ≡ s.epoch + done → m.step ≡ None
      → IsClosed s t lists waiting m
      → (TakesOfFeeder m p x → CanTakeOfFeeder s t done p x) × (CanTakeOfFeeder s t done p x → TakesOfFeeder m p x)
  closed-feeder (Tup x) fixed low epoch none is =
      let of = is.stands.steps.feeders p low in
      let at = is.epoch in
      let many = of.turns in (
        λ can. (
          flag-none _ _ of.ends can.going,
          let fits : x.stamp ≡ m.epoch = subst (λ (z : Option OpenStep). TupFits m p x.stamp z) none can.fits in
              omega arith,
        ),
        λ can. record {
          going = none-flag _ _ of.ends can.0;
          fits = subst (λ (z : Option OpenStep). TupFits m p x.stamp z)
              (sym none) (let stamp = can.1 in omega arith);
        },
      )
  closed-feeder (Turn epoch' shift) fixed low epoch none is =
      let of = is.stands.steps.feeders p low in
      let at = is.epoch in
      let many = of.turns in
      let few = closed-few s t lists waiting m is in
      let same : done ≡ length is.past = omega arith in
      let b : shift_after s t done ≡ m.shift = ap (λ n. shift_after s t n) same ∙ is.stands.steps.history.0.shift
      ∙ sym is.shift in (
        λ can.
            let fits : (epoch' ≡ m.epoch + 1) × (shift ≤ m.k)
            × AreNeighbours m.shift shift = subst (λ (z : Option OpenStep). TurnFits m p epoch' shift z)
            none can.fits in
            let next = fits.0 in let within = fits.1 in let k = fixed.k in (
              flag-none _ _ of.ends can.going,
              omega arith,
              omega arith,
              omega arith,
              subst (λ (n : ℕ). AreNeighbours n shift) (sym b) fits.2,
              λ less. absurd (omega arith),
            ),
        λ can.
            let next = can.2 in let within = can.3 in let k = fixed.k in
            record {
              going = none-flag _ _ of.ends can.0;
              fits = subst (λ (z : Option OpenStep). TurnFits m p epoch' shift z) (sym none) (
                omega arith,
                omega arith,
                subst (λ (n : ℕ). AreNeighbours n shift) b can.4,
              );
            },
      )
  closed-feeder End fixed low epoch none is =
      let of = is.stands.steps.feeders p low in
      (λ can. flag-none _ _ of.ends can, λ can. none-flag _ _ of.ends can)
  closed-feeder (Moved epoch' x) fixed low epoch none is = (λ can. can, λ can. can)
  closed-feeder (MovedEnd epoch') fixed low epoch none is = (λ can. can, λ can. can)

-- ---- with a step open

-- with a step open in which some feeder has turned, more steps were opened than are past
pub open-begun : (s : JoinerStart) (t : Taken) (lists : JoinerLists) (waiting : List Pair) (m : EpochState)
    (o : OpenStep) → HasSomeTurn s.feeders (Some o) → (is : IsOpen s t lists waiting m o) → length is.past < opened s t
open-begun s t lists waiting m o some is =
    let of = is.stands.steps.feeders some.0 some.1 in
    let many = turns-up _ _ _ of.turns some.2 in
    let above = greatest_above s.feeders (λ p. turns (t.from_feeder p)) some.0 some.1 in
    omega arith

module _ (s : JoinerStart) (t : Taken) (lists : JoinerLists) (waiting : List Pair) (m : EpochState)
    (o : OpenStep) (done p : ℕ) where
  open-feeder : (x : ToJoiner) → IsMachineOf s m → p < s.feeders → m.epoch ≡ s.epoch + done → m.step ≡ Some o
      → HasSomeTurn s.feeders (Some o) → IsOpen s t lists waiting m o
      → (TakesOfFeeder m p x → CanTakeOfFeeder s t done p x) × (CanTakeOfFeeder s t done p x → TakesOfFeeder m p x)
  open-feeder (Tup x) fixed low epoch opens some is =
      let of = is.stands.steps.feeders p low in
      let at = is.epoch in
      let next = is.step_epoch in
      let many = of.turns in (
        λ can.
            let fits : TupFits m p x.stamp (Some o) = subst (λ (z : Option OpenStep). TupFits m p x.stamp z)
            opens can.fits in (
              flag-none _ _ of.ends can.going,
              let stamp = flag-cases (flag_at o.turned p) x.stamp (one_if (flag_at o.turned p)) m.epoch o.epoch refl
                  fits
                  (omega arith) in omega arith,
            ),
        λ can.
            let stamp = can.1 in
            record {
              going = none-flag _ _ of.ends can.0;
              fits = subst (λ (z : Option OpenStep). TupFits m p x.stamp z) (sym opens) (
                λ down. let n = turns-down _ _ _ many down in omega arith,
                λ up. let n = turns-up _ _ _ many up in
                    omega arith,
              );
            },
      )
  open-feeder (Turn epoch' shift) fixed low epoch opens some is =
      let of = is.stands.steps.feeders p low in
      let at = is.epoch in
      let next = is.step_epoch in
      let same : done ≡ length is.past = omega arith in
      let b : shift_after s t done ≡ is.cur.shift = ap (λ n. shift_after s t n) same
      ∙ is.stands.steps.history.1.0.shift in
      let later : s.epoch + (done + 1) ≡ s.epoch + length (is.cur ∷ is.past) = omega arith in
      let c : shift_after s t (done + 1) ≡ o.shift = ap t.shift_at later ∙ is.stands.steps.history.0.shift
      ∙ sym is.step_shift in
      let top = is.stands.steps.history.0.within in
      let o_shift = is.step_shift in
      let less = open-begun s t lists waiting m o some is in (
        λ can.
            let fits : TurnFits m p epoch' shift (Some o) = subst (λ (z : Option OpenStep). TurnFits m p epoch' shift z)
            opens can.fits in
            let still = turns-down _ _ _ of.turns fits.0 in
            let e = fits.1 in let sh = fits.2 in (
              flag-none _ _ of.ends can.going,
              omega arith,
              omega arith,
              omega arith,
              subst (λ (n : ℕ). AreNeighbours (shift_after s t done) n) (sym (sh ∙ o_shift))
                  (subst (λ (n : ℕ). AreNeighbours n is.new.shift) (sym b) is.stands.steps.by_one.0),
              λ yes. sh ∙ sym c,
            ),
        λ can.
            let e = can.2 in
            record {
              going = none-flag _ _ of.ends can.0;
              fits = subst (λ (z : Option OpenStep). TurnFits m p epoch' shift z) (sym opens)
                  (down-turns _ _ _ of.turns (can.1 ∙ same), omega arith, can.5 (omega arith) ∙ c);
            },
      )
  open-feeder End fixed low epoch opens some is =
      let of = is.stands.steps.feeders p low in
      (λ can. flag-none _ _ of.ends can, λ can. none-flag _ _ of.ends can)
  open-feeder (Moved epoch' x) fixed low epoch opens some is = (λ can. can, λ can. can)
  open-feeder (MovedEnd epoch') fixed low epoch opens some is = (λ can. can, λ can. can)

-- ---- of joiners

module _ (s : JoinerStart) (t : Taken) (lists : JoinerLists) (waiting : List Pair) (m : EpochState)
    (done q epoch' : ℕ) (fixed : IsMachineOf s m) (epoch : m.epoch ≡ s.epoch + done) where
  part-by : (step : Option OpenStep) → HasSomeTurn s.feeders step → StandsBy s t lists waiting m step
      → (PartFits m q epoch' step → IsOpenPart s t done q epoch') × (IsOpenPart s t done q epoch' → PartFits m q epoch'
      step)
  part-by None some is =
      let few = closed-few s t lists waiting m is in
      let at = is.epoch in
      (λ can. absurd can, λ can. let less = can.0 in absurd (omega arith))
  part-by (Some o) some is =
      let at = is.epoch in
      let next = is.step_epoch in
      let same : done ≡ length is.past = omega arith in
      let less = open-begun s t lists waiting m o some is in
      let who : partner_of s t done ≡ partner_in_step m.shift o.shift m.id =
      ap (λ n. partner_of s t n) same ∙ partner-is s t lists waiting m o fixed is in
      let whose : partner_of s t (length is.past) ≡ partner_in_step m.shift o.shift m.id =
      partner-is s t lists waiting m o fixed is in
      let part : moved_ends (s.epoch + length is.past + 1) (t.from_joiner (partner_of s t (length is.past)))
      ≡ one_if o.partner_ended = is.stands.steps.parts.0 in
      let told : moved_ends o.epoch (t.from_joiner (partner_in_step m.shift o.shift m.id)) ≡ one_if o.partner_ended =
      ap (λ e. moved_ends e (t.from_joiner (partner_in_step m.shift o.shift m.id))) next
      ∙ ap (λ z. moved_ends (s.epoch + length is.past + 1) (t.from_joiner z)) (sym whose) ∙ part in (
        λ can.
            let e = can.0 in (
              omega arith,
              omega arith,
              can.2 ∙ sym who,
              ap (λ z. moved_ends z (t.from_joiner q)) e ∙ ap (λ z. moved_ends o.epoch (t.from_joiner z)) can.2
                  ∙ flag-none _ _ told can.1,
            ),
        λ can.
            let e = can.1 in
            let here : epoch' ≡ o.epoch = omega arith in
            let of : q ≡ partner_in_step m.shift o.shift m.id = can.2 ∙ who in (
              here,
              none-flag _ _ told (ap (λ z. moved_ends o.epoch (t.from_joiner z)) (sym of)
                  ∙ ap (λ z. moved_ends z (t.from_joiner q)) (sym here) ∙ can.3),
              of,
            ),
      )

module _ (s : JoinerStart) (t : Taken) (lists : JoinerLists) (waiting : List Pair) (m : EpochState) (done p : ℕ) where
  feeder-by : (x : ToJoiner) → IsMachineOf s m → p < s.feeders → m.epoch ≡ s.epoch + done → (step : Option OpenStep)
      → m.step ≡ step → HasSomeTurn s.feeders step → StandsBy s t lists waiting m step
      → (TakesOfFeeder m p x → CanTakeOfFeeder s t done p x) × (CanTakeOfFeeder s t done p x → TakesOfFeeder m p x)
  feeder-by x fixed low epoch None same some is =
      closed-feeder s t lists waiting m done p x fixed low epoch same is
  feeder-by x fixed low epoch (Some o) same some is =
      open-feeder s t lists waiting m o done p x fixed low epoch same some is

  -- the two tests are one
  pub tests-feeder : (x : ToJoiner) → p < s.feeders → m.epoch ≡ s.epoch + done → HasSomeTurn s.feeders m.step
      → Stands s t lists waiting m
      → (TakesOfFeeder m p x → CanTakeOfFeeder s t done p x) × (CanTakeOfFeeder s t done p x → TakesOfFeeder m p x)
  tests-feeder x low epoch some is =
      feeder-by x is.fixed low epoch m.step refl some is.now

module _ (s : JoinerStart) (t : Taken) (lists : JoinerLists) (waiting : List Pair) (m : EpochState) (done q : ℕ) where
  -- a machine that stands takes a message of a joiner exactly where the law says so, with the steps that led to its
  -- epoch settled
  pub tests-joiner : (x : ToJoiner) → m.epoch ≡ s.epoch + done → HasSomeTurn s.feeders m.step
      → Stands s t lists waiting m
      → (TakesOfJoiner m q x → CanTakeOfJoiner s t done q x) × (CanTakeOfJoiner s t done q x → TakesOfJoiner m q x)
  tests-joiner (Tup x) epoch some is = (λ can. can, λ can. can)
  tests-joiner (Turn epoch' shift) epoch some is = (λ can. can, λ can. can)
  tests-joiner End epoch some is = (λ can. can, λ can. can)
  tests-joiner (Moved epoch' x) epoch some is =
      part-by s t lists waiting m done q epoch' is.fixed epoch m.step some is.now
  tests-joiner (MovedEnd epoch') epoch some is =
      part-by s t lists waiting m done q epoch' is.fixed epoch m.step some is.now
