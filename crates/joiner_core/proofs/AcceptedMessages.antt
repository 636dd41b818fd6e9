-- A message is taken or held.
use Rattle.std.proofs.Common.{◌≡◌, ℕ, ◌^◌, ◌<◌, inl, inr, refl, sym, ◌∙◌, ap, subst, arith, Bool, true, Option, Some}
use Rattle.std.proofs.Common.{◌&&◌, false, None, List, [], ◌∷◌, ◌++◌, length, append_assoc, get_or-set_same}
use Rattle.std.proofs.Common.{get_or-set_other}
use Rattle.std.specs.Prelude.{slice_set, flat_map}
use Rattle.std.proofs.Math.ListN.{length-set}
use Rattle.std.proofs.lemmas.Bool.{cases_eq, false≢true}
use Rattle.epoch_tags.specs.declared.actor.Actor.TheVariants.{Feeder, Joiner as Joiner'}
use Rattle.epoch_tags.specs.declared.tuple.Pair.{Pair}
use Rattle.epoch_tags.specs.declared.message.Post.{Post}
use Rattle.epoch_tags.specs.declared.message.ToJoiner.{ToJoiner}
use Rattle.epoch_tags.specs.declared.message.ToCollector.{ToCollector}
use Rattle.epoch_tags.specs.Messages.{pairs_found}
use Rattle.epoch_tags.specs.Held.{held_at}
use Rattle.joiner_law.specs.Law.{JoinerStart, JoinerLists, Taken}
use Rattle.joiner_law.specs.History.{Step}
use Rattle.joiner_law.specs.Standing.{grown, pairs_sent, ArePairs, AreSent, AreSteps}
use Rattle.joiner_law.proofs.LongerLists.{grown-same, grown-other}
use Rattle.joiner_core.specs.State.{HasRow, OpenStep, EpochState, MachineState}
use Rattle.joiner_core.proofs.RowWidths.{same-rows, rows-held}
use Rattle.joiner_core.specs.Taking.{StandsBy, Stands, TookOfFeeder, TookOfJoiner, TakesOfFeeder, TakesOfJoiner}
use Rattle.joiner_core.specs.Outcomes.{can_take_of_feeder, can_take_of_joiner}
use Rattle.joiner_core.specs.Calls.{is_clear}
use Rattle.joiner_core.specs.Machine.{IsSound, Accepts}
use Rattle.joiner_core.proofs.Replays.{does-accept-feeder, does-hold-feeder, does-accept-joiner, does-hold-joiner}
use Rattle.joiner_core.proofs.OwnPosts.{own-none}
use Rattle.std.proofs.lemmas.List.{append-nil}
use Rattle.joiner_core.proofs.SentPosts.{with_sent-none}

-- ---- what was received, and what was sent to the collector, stand apart

-- the lists with other messages received, and others sent to the collector
abbrev pub with_other : JoinerLists → (ℕ → List ToJoiner) → (ℕ → List ToJoiner) → List ToCollector → JoinerLists
with_other lists f g zs = record lists { from_feeder = f; from_joiner = g; to_collector = zs }

-- the pairs that were sent and that wait are as good as others
abbrev pub PairsMove : JoinerStart → JoinerLists → List Pair → List ToCollector → List Pair → Type 0
PairsMove s lists w zs w' = (steps : List Step) → ArePairs s (pairs_sent lists) w steps
    → ArePairs s (flat_map pairs_found zs) w' steps

sent-other : (s : JoinerStart) (lists : JoinerLists) (f g : ℕ
    → List ToJoiner) (zs : List ToCollector) (ended : Bool) (steps : List Step) → AreSent s lists ended steps
    → AreSent s (with_other lists f g zs) ended steps
sent-other s lists f g zs ended [] is = tt
sent-other s lists f g zs ended (step ∷ []) is = tt
sent-other s lists f g zs ended (step ∷ (before ∷ past)) is = (
  record { tuples = is.0.tuples; ends = is.0.ends },
  sent-other s lists f g zs true (before ∷ past) is.1,
)

module _ (s : JoinerStart) (t : Taken) (lists : JoinerLists) (f g : ℕ → List ToJoiner) (zs : List ToCollector)
    (w w' : List Pair) where
  steps-other : (done : ℕ) (turned ended : ℕ → Bool) (all_turned part_ended : Bool) (steps : List Step)
      → PairsMove s lists w zs w' → AreSteps s t lists w done turned ended all_turned part_ended steps
      → AreSteps s t (with_other lists f g zs) w' done turned ended all_turned part_ended steps
  steps-other done turned ended all_turned part_ended steps moves is = record {
    feeders = is.feeders;
    history = is.history;
    by_one = is.by_one;
    in_time = is.in_time;
    pairs = moves steps is.pairs;
    sent = sent-other s lists f g zs all_turned steps is.sent;
    parts = is.parts;
    told = is.told;
    first_shift = is.first_shift;
    from_partner = is.from_partner;
    to_partner = is.to_partner;
  }

  by-other : (m : EpochState) → PairsMove s lists w zs w' → (step : Option OpenStep) → StandsBy s t lists w m step
      → StandsBy s t (with_other lists f g zs) w' m step
  by-other m moves None is = record {
    cur = is.cur;
    past = is.past;
    stands = let st = is.stands in record {
      steps = steps-other _ _ _ _ _ _ moves st.steps;
      store = st.store;
      links = st.links;
      taken_up_to = st.taken_up_to;
    };
    epoch = is.epoch;
    shift = is.shift;
    ended_count = is.ended_count;
    moved = is.moved;
  }
  by-other m moves (Some o) is = record {
    new = is.new;
    cur = is.cur;
    past = is.past;
    all_turned = is.all_turned;
    stands = let st = is.stands in record {
      steps = steps-other _ _ _ _ _ _ moves st.steps;
      store = st.store;
      opened = st.opened;
      links = st.links;
      taken_up_to = st.taken_up_to;
    };
    epoch = is.epoch;
    shift = is.shift;
    step_epoch = is.step_epoch;
    step_shift = is.step_shift;
    ended_count = is.ended_count;
    moved = is.moved;
    count = is.count;
    missing = is.missing;
    all = is.all;
  }

  -- where the pairs sent and waiting may be exchanged for others, what stands for the lists stands for them with any
  -- messages received, with those others sent or waiting, and with the same messages taken
  pub stands-other : (m : EpochState) → PairsMove s lists w zs w' → Stands s t lists w m
      → Stands s t (with_other lists f g zs) w' m
  stands-other m moves is = record {
    fixed = is.fixed;
    now = by-other m moves m.step is.now;
  }

stands-received : (s : JoinerStart) (t : Taken) (lists : JoinerLists) (f g : ℕ
    → List ToJoiner) (w : List Pair) (m : EpochState) → Stands s t lists w m
    → Stands s t (with_other lists f g lists.to_collector) w m
stands-received s t lists f g w m is = stands-other s t lists f g lists.to_collector w w m (λ steps pairs. pairs) is

-- ---- a message of a feeder

module _ (old new : MachineState) (p : ℕ) (m : ToJoiner) (w w' : List Pair) (before after : List Post) where
  -- of a sound machine that holds nothing of feeder p: a message of it that can be taken, and was, is accepted
  pub accepts-taken-feeder : IsSound old → p < old.epochs.feeders → held_at old.of_feeders p ≡ []
      → TakesOfFeeder old.epochs p m → new ≡ record old { epochs = new.epochs }
      → TookOfFeeder p m old.epochs new.epochs w w' before after → Accepts (Feeder p) m old new w w' before after
  accepts-taken-feeder sound low clear can state took =
      let own : new.of_feeders ≡ old.of_feeders = ap (λ (z : MachineState). z.of_feeders) state in
      let other : new.of_joiners ≡ old.of_joiners = ap (λ (z : MachineState). z.of_joiners) state in
      record {
        sound = record {
          within = took.within;
          feeders = ap length own ∙ sound.feeders ∙ sym took.feeders;
          joiners = ap length other ∙ sound.joiners ∙ ap (λ k. 2 ^ k) (sym took.k);
          feeder_rows = same-rows _ _ _ _ took.theta own sound.feeder_rows;
          joiner_rows = same-rows _ _ _ _ took.theta other sound.joiner_rows;
        };
        added = took.added;
        sends = took.sends;
        quiet = took.quiet;
        own = took.own;
        taken = inl (record { clear = clear; can = can; feeders = own; joiners = other });
        told = ap (λ (z : MachineState). z.told) state;
        fixed = record { k = took.k; id = took.id; feeders = took.feeders; theta = took.theta };
        does = does-accept-feeder old new p m w w' before after clear can state took.does;
        rests = λ at. let n = sound.within.ended in absurd (false≢true (sym took.going ∙ at.ended p (omega arith)));
        stands = λ s lists is.
            let many = is.stands.fixed.feeders in
            let after = took.stands s is.taken (with_other lists (grown p m lists.from_feeder)
            lists.from_joiner lists.to_collector) (omega arith)
            (stands-received s is.taken lists (grown p m lists.from_feeder)
            lists.from_joiner w old.epochs is.stands) in
            let t' = after.0 in
            record {
              taken = t';
              stands = after.2;
              feeders = λ j less. elim (cases_eq j p) [
                | inl here ↦
                    let grows : t'.from_feeder p ≡ is.taken.from_feeder p ++ m ∷ [] =
                    ap (λ (f : ℕ → List ToJoiner). f p) after.1.from_feeder ∙ grown-same p m is.taken.from_feeder in
                    let was : is.taken.from_feeder p ++ held_at old.of_feeders p ≡ lists.from_feeder p =
                    subst (λ (i : ℕ). is.taken.from_feeder i ++ held_at old.of_feeders i ≡ lists.from_feeder i) here
                    (is.feeders j less) in
                    let same : is.taken.from_feeder p ≡ lists.from_feeder p =
                    sym (append-nil (is.taken.from_feeder p)) ∙ ap (λ zs. is.taken.from_feeder p ++ zs) (sym clear)
                    ∙ was in
                    let now : held_at new.of_feeders p ≡ [] = ap (λ qs. held_at qs p) own ∙ clear in
                    rw here (ap (λ zs. t'.from_feeder p ++ zs) now ∙ append-nil (t'.from_feeder p) ∙ grows
                    ∙ ap (λ zs. zs ++ m ∷ []) same ∙ sym (grown-same p m lists.from_feeder))
                | inr differ ↦
                    let keeps : t'.from_feeder j ≡ is.taken.from_feeder j =
                    ap (λ (f : ℕ → List ToJoiner). f j) after.1.from_feeder
                    ∙ grown-other p m is.taken.from_feeder j differ in
                    ap (λ zs. zs ++ held_at new.of_feeders j) keeps
                    ∙ ap (λ qs. is.taken.from_feeder j ++ held_at qs j) own ∙ is.feeders j less
                    ∙ sym (grown-other p m lists.from_feeder j differ)
              ];
              joiners = λ j less. ap (λ (f : ℕ → List ToJoiner). f j ++ held_at new.of_joiners j) after.1.from_joiner
                  ∙ ap (λ qs. is.taken.from_joiner j ++ held_at qs j) other ∙ is.joiners j less;
            };
      }

module _ (old : MachineState) (queues : List (List ToJoiner)) (p : ℕ) (m : ToJoiner) (w : List Pair)
    (before : List Post) where
  -- a message of feeder p, with a row of the widths if it carries one, that a sound machine puts behind those it holds
  -- of p, and which changes nothing else, is accepted
  pub accepts-held-feeder : IsSound old → p < old.epochs.feeders → HasRow old.epochs.theta m
      → (is_clear (held_at old.of_feeders p) && can_take_of_feeder old.epochs p m) ≡ false
      → queues ≡ slice_set old.of_feeders p (held_at old.of_feeders p ++ m ∷ [])
      → Accepts (Feeder p) m old (record old { of_feeders = queues }) w w before before
  accepts-held-feeder sound low row waits put =
      let count = sound.feeders in
      let within : p < length old.of_feeders = omega arith in
      record {
        sound = record {
          within = sound.within;
          feeders = ap length put ∙ length-set old.of_feeders p (held_at old.of_feeders p ++ m ∷ []) ∙ sound.feeders;
          joiners = sound.joiners;
          feeder_rows = rows-held old.epochs.theta old.of_feeders queues p m within put row sound.feeder_rows;
          joiner_rows = sound.joiner_rows;
        };
        added = [];
        sends = sym (append-nil before);
        quiet = refl;
        own = own-none old.epochs;
        taken = inr (ap (λ qs. record old { of_feeders = qs }) put);
        told = refl;
        fixed = record { k = refl; id = refl; feeders = refl; theta = refl };
        does = does-hold-feeder old (record old { of_feeders = queues }) p m w before waits
            (ap (λ qs. record old { of_feeders = qs }) put);
        rests = λ at. (refl, refl);
        stands = λ s lists is.
            record {
              taken = is.taken;
              stands = subst (λ (ls : JoinerLists). Stands s is.taken ls w old.epochs)
                  (sym (with_sent-none (with_other lists (grown p m lists.from_feeder)
                  lists.from_joiner lists.to_collector))) (stands-received s is.taken lists
                  (grown p m lists.from_feeder)
                  lists.from_joiner w old.epochs is.stands);
              feeders = λ j less. elim (cases_eq j p) [
                | inl here ↦
                    let was : is.taken.from_feeder p ++ held_at old.of_feeders p ≡ lists.from_feeder p =
                    subst (λ (i : ℕ). is.taken.from_feeder i ++ held_at old.of_feeders i ≡ lists.from_feeder i) here
                    (is.feeders j less) in
                    let now : held_at queues p ≡ held_at old.of_feeders p ++ m ∷ [] =
                    ap (λ qs. held_at qs p) put ∙ get_or-set_same old.of_feeders p
                    (held_at old.of_feeders p ++ m ∷ []) [] within in
                    rw here (ap (λ zs. is.taken.from_feeder p ++ zs) now
                    ∙ sym (append_assoc (is.taken.from_feeder p) (held_at old.of_feeders p) (m ∷ []))
                    ∙ ap (λ zs. zs ++ m ∷ []) was ∙ sym (grown-same p m lists.from_feeder))
                | inr differ ↦
                    let keeps : held_at queues j ≡ held_at old.of_feeders j =
                    ap (λ qs. held_at qs j) put ∙ get_or-set_other old.of_feeders p j
                    (held_at old.of_feeders p ++ m ∷ []) [] differ in
                    ap (λ zs. is.taken.from_feeder j ++ zs) keeps ∙ is.feeders j less
                    ∙ sym (grown-other p m lists.from_feeder j differ)
              ];
              joiners = is.joiners;
            };
      }

-- ---- a message of a joiner

module _ (old new : MachineState) (q : ℕ) (m : ToJoiner) (w w' : List Pair) (before after : List Post) where
  -- of a sound machine that holds nothing of joiner q: a message of it that can be taken, and was, is accepted
  pub accepts-taken-joiner : IsSound old → held_at old.of_joiners q ≡ [] → TakesOfJoiner old.epochs q m
      → new ≡ record old { epochs = new.epochs }
      → ((j : ℕ) → TakesOfJoiner old.epochs j m → TookOfJoiner j m old.epochs new.epochs w w' before after)
      → Accepts (Joiner' q) m old new w w' before after
  accepts-taken-joiner sound clear can state takes =
      let took = takes q can in
      let own : new.of_joiners ≡ old.of_joiners = ap (λ (z : MachineState). z.of_joiners) state in
      let other : new.of_feeders ≡ old.of_feeders = ap (λ (z : MachineState). z.of_feeders) state in
      record {
        sound = record {
          within = took.within;
          feeders = ap length other ∙ sound.feeders ∙ sym took.feeders;
          joiners = ap length own ∙ sound.joiners ∙ ap (λ k. 2 ^ k) (sym took.k);
          feeder_rows = same-rows _ _ _ _ took.theta other sound.feeder_rows;
          joiner_rows = same-rows _ _ _ _ took.theta own sound.joiner_rows;
        };
        added = took.added;
        sends = took.sends;
        quiet = took.quiet;
        own = took.own;
        taken = inl (record { clear = clear; can = can; feeders = other; joiners = own });
        told = ap (λ (z : MachineState). z.told) state;
        fixed = record { k = took.k; id = took.id; feeders = took.feeders; theta = took.theta };
        does = does-accept-joiner old new q m w w' before after clear can state took.does;
        rests = λ at. absurd (took.opened at.closed);
        stands = λ s lists is.
            let after = took.stands s is.taken (with_other lists lists.from_feeder (grown q m lists.from_joiner)
            lists.to_collector) (stands-received s is.taken lists lists.from_feeder (grown q m lists.from_joiner)
            w old.epochs is.stands) in
            let t' = after.0 in
            record {
              taken = t';
              stands = after.2;
              feeders = λ j less. ap (λ (f : ℕ → List ToJoiner). f j ++ held_at new.of_feeders j) after.1.from_feeder
                  ∙ ap (λ qs. is.taken.from_feeder j ++ held_at qs j) other ∙ is.feeders j less;
              joiners = λ j less. elim (cases_eq j q) [
                | inl here ↦
                    let grows : t'.from_joiner q ≡ is.taken.from_joiner q ++ m ∷ [] =
                    ap (λ (f : ℕ → List ToJoiner). f q) after.1.from_joiner ∙ grown-same q m is.taken.from_joiner in
                    let was : is.taken.from_joiner q ++ held_at old.of_joiners q ≡ lists.from_joiner q =
                    subst (λ (i : ℕ). is.taken.from_joiner i ++ held_at old.of_joiners i ≡ lists.from_joiner i) here
                    (is.joiners j less) in
                    let same : is.taken.from_joiner q ≡ lists.from_joiner q =
                    sym (append-nil (is.taken.from_joiner q)) ∙ ap (λ zs. is.taken.from_joiner q ++ zs) (sym clear)
                    ∙ was in
                    let now : held_at new.of_joiners q ≡ [] = ap (λ qs. held_at qs q) own ∙ clear in
                    rw here (ap (λ zs. t'.from_joiner q ++ zs) now ∙ append-nil (t'.from_joiner q) ∙ grows
                    ∙ ap (λ zs. zs ++ m ∷ []) same ∙ sym (grown-same q m lists.from_joiner))
                | inr differ ↦
                    let keeps : t'.from_joiner j ≡ is.taken.from_joiner j =
                    ap (λ (f : ℕ → List ToJoiner). f j) after.1.from_joiner
                    ∙ grown-other q m is.taken.from_joiner j differ in
                    ap (λ zs. zs ++ held_at new.of_joiners j) keeps
                    ∙ ap (λ qs. is.taken.from_joiner j ++ held_at qs j) own ∙ is.joiners j less
                    ∙ sym (grown-other q m lists.from_joiner j differ)
              ];
            };
      }

module _ (old : MachineState) (queues : List (List ToJoiner)) (q : ℕ) (m : ToJoiner) (w : List Pair)
    (before : List Post) where
  -- a message of joiner q of the grid, with a row of the widths if it carries one, that a sound machine puts behind
  -- those it holds of q, and which changes nothing else, is accepted
  pub accepts-held-joiner : IsSound old → q < 2 ^ old.epochs.k → HasRow old.epochs.theta m
      → (is_clear (held_at old.of_joiners q) && can_take_of_joiner old.epochs q m) ≡ false
      → queues ≡ slice_set old.of_joiners q (held_at old.of_joiners q ++ m ∷ [])
      → Accepts (Joiner' q) m old (record old { of_joiners = queues }) w w before before
  accepts-held-joiner sound low row waits put =
      let count = sound.joiners in
      let within : q < length old.of_joiners = omega arith in
      record {
        sound = record {
          within = sound.within;
          feeders = sound.feeders;
          joiners = ap length put ∙ length-set old.of_joiners q (held_at old.of_joiners q ++ m ∷ []) ∙ sound.joiners;
          feeder_rows = sound.feeder_rows;
          joiner_rows = rows-held old.epochs.theta old.of_joiners queues q m within put row sound.joiner_rows;
        };
        added = [];
        sends = sym (append-nil before);
        quiet = refl;
        own = own-none old.epochs;
        taken = inr (ap (λ qs. record old { of_joiners = qs }) put);
        told = refl;
        fixed = record { k = refl; id = refl; feeders = refl; theta = refl };
        does = does-hold-joiner old (record old { of_joiners = queues }) q m w before waits
            (ap (λ qs. record old { of_joiners = qs }) put);
        rests = λ at. (refl, refl);
        stands = λ s lists is.
            record {
              taken = is.taken;
              stands = subst (λ (ls : JoinerLists). Stands s is.taken ls w old.epochs)
                  (sym (with_sent-none (with_other lists lists.from_feeder (grown q m lists.from_joiner)
                  lists.to_collector))) (stands-received s is.taken lists lists.from_feeder
                  (grown q m lists.from_joiner)
                  w old.epochs is.stands);
              feeders = is.feeders;
              joiners = λ j less. elim (cases_eq j q) [
                | inl here ↦
                    let was : is.taken.from_joiner q ++ held_at old.of_joiners q ≡ lists.from_joiner q =
                    subst (λ (i : ℕ). is.taken.from_joiner i ++ held_at old.of_joiners i ≡ lists.from_joiner i) here
                    (is.joiners j less) in
                    let now : held_at queues q ≡ held_at old.of_joiners q ++ m ∷ [] =
                    ap (λ qs. held_at qs q) put ∙ get_or-set_same old.of_joiners q
                    (held_at old.of_joiners q ++ m ∷ []) [] within in
                    rw here (ap (λ zs. is.taken.from_joiner q ++ zs) now
                    ∙ sym (append_assoc (is.taken.from_joiner q) (held_at old.of_joiners q) (m ∷ []))
                    ∙ ap (λ zs. zs ++ m ∷ []) was ∙ sym (grown-same q m lists.from_joiner))
                | inr differ ↦
                    let keeps : held_at queues j ≡ held_at old.of_joiners j =
                    ap (λ qs. held_at qs j) put ∙ get_or-set_other old.of_joiners q j
                    (held_at old.of_joiners q ++ m ∷ []) [] differ in
                    ap (λ zs. is.taken.from_joiner j ++ zs) keeps ∙ is.joiners j less
                    ∙ sym (grown-other q m lists.from_joiner j differ)
              ];
            };
      }
