-- Flags that are the same at each number, and a feeder's end.
use Rattle.std.proofs.Common.{◌≡◌, ℕ, ◌<◌, refl, sym, ◌∙◌, ap, subst, arith, Bool, true, false, List, length, inl, inr}
use Rattle.std.proofs.Common.{eq-eqb, get_or-set_same, get_or-set_other}
use Rattle.std.proofs.lemmas.Bool.{cases_eq, ne_eqb}
use Rattle.std.specs.Prelude.{slice_set}
use Rattle.std.proofs.Math.ListN.{length-set}
use Rattle.epoch_tags.specs.declared.tuple.Tuple.{Tuple}
use Rattle.epoch_tags.specs.declared.tuple.Pair.{Pair}
use Rattle.epoch_tags.specs.declared.message.ToJoiner.TheVariants.{End}
use Rattle.joiner_law.specs.Law.{JoinerStart, JoinerLists, Taken}
use Rattle.joiner_law.specs.History.{Step}
use Rattle.joiner_law.specs.Standing.{took_of_feeder, with_flag, IsOfFeeder, StandsSettled, StandsOpen}
use Rattle.joiner_law.proofs.TakenTurns.{settled-end}
use Rattle.joiner_core.specs.State.{EpochState}
use Rattle.joiner_core.specs.Taking.{IsClosed}
use Rattle.epoch_tags.specs.Flags.{flag_at}

-- flags that are the same at each number
feeders-same : (s : JoinerStart) (t : Taken) (done : ℕ) (turned turned' ended : ℕ → Bool)
    → ((p : ℕ) → turned p ≡ turned' p)
    → ((p : ℕ) → p < s.feeders → IsOfFeeder s.epoch t.shift_at done (turned p) (ended p) (t.from_feeder p)) → (p : ℕ)
    → p < s.feeders → IsOfFeeder s.epoch t.shift_at done (turned' p) (ended p) (t.from_feeder p)
feeders-same s t done turned turned' ended same all p low =
    subst (λ (b : Bool). IsOfFeeder s.epoch t.shift_at done b (ended p) (t.from_feeder p)) (same p) (all p low)

module _ (s : JoinerStart) (t : Taken) (lists : JoinerLists) (waiting : List Pair)
    (turned turned' ended : ℕ → Bool) (all_turned part_ended : Bool) (a b : List Tuple) (new cur : Step)
    (past : List Step) where
  -- what stands with a step open stands with any other flags of turns that are the same at each number
  pub same-flags : ((p : ℕ) → turned p ≡ turned' p)
      → StandsOpen s t lists waiting turned ended all_turned part_ended a b new cur past
      → StandsOpen s t lists waiting turned' ended all_turned part_ended a b new cur past
  same-flags same is =
      let steps = is.steps in
      record {
        steps = record {
          feeders = feeders-same s t (length past) turned turned' ended same steps.feeders;
          history = steps.history;
          by_one = steps.by_one;
          in_time = steps.in_time;
          pairs = steps.pairs;
          sent = steps.sent;
          parts = steps.parts;
          told = steps.told;
          first_shift = steps.first_shift;
          from_partner = steps.from_partner;
          to_partner = steps.to_partner;
        };
        store = is.store;
        opened = is.opened;
        links = is.links;
        taken_up_to = is.taken_up_to;
      }

module _ (s : JoinerStart) (t : Taken) (lists : JoinerLists) (waiting : List Pair) (ended ended' : ℕ → Bool)
    (a : List Tuple) (cur : Step) (past : List Step) where
  -- what stands with no step open stands with any other flags of ends that are the same at each number
  pub same-ends : ((p : ℕ) → ended p ≡ ended' p) → StandsSettled s t lists waiting ended a cur past
      → StandsSettled s t lists waiting ended' a cur past
  same-ends same is =
      let steps = is.steps in
      record {
        steps = record {
          feeders = λ p low. subst (λ (b : Bool). IsOfFeeder s.epoch t.shift_at (length past) false b (t.from_feeder p))
              (same p) (steps.feeders p low);
          history = steps.history;
          by_one = steps.by_one;
          in_time = steps.in_time;
          pairs = steps.pairs;
          sent = steps.sent;
          parts = steps.parts;
          told = steps.told;
          first_shift = steps.first_shift;
          from_partner = steps.from_partner;
          to_partner = steps.to_partner;
        };
        store = is.store;
        links = is.links;
        taken_up_to = is.taken_up_to;
      }

-- the flags with number p up, which is one of theirs, are at each number those of the list with place p set
pub flag-set : (flags : List Bool) (p q : ℕ) → p < length flags
    → with_flag p (flag_at flags) q ≡ flag_at (slice_set flags p true) q
flag-set flags p q low = elim (cases_eq q p) [
  | inl is ↦ rw (is, eq-eqb p p refl) (sym (get_or-set_same flags p true false low))
  | inr differ ↦ rw (ne_eqb q p differ) (sym (get_or-set_other flags p q true false differ))
]

module _ (s : JoinerStart) (t : Taken) (lists : JoinerLists) (waiting : List Pair) (m m' : EpochState) (p : ℕ)
    (low : p < s.feeders) (going : flag_at m.ended p ≡ false) (flags : m'.ended ≡ slice_set m.ended p true) where
  -- with no step open, where the flag of a feeder that hadn't ended is set, the machine stands with its `End` taken
  pub closed-end : IsClosed s t lists waiting m
      → IsClosed s (took_of_feeder p End t) lists waiting (record m { ended = m'.ended })
  closed-end is =
      let within : p < length m.ended = let n = is.ended_count in omega arith in
      let after = settled-end p low going is.stands in
      record {
        cur = is.cur;
        past = is.past;
        stands = same-ends s (took_of_feeder p End t) lists waiting _ (flag_at m'.ended) m.store.tuples is.cur is.past
            (λ q. flag-set m.ended p q within ∙ ap (λ fs. flag_at fs q) (sym flags)) after;
        epoch = is.epoch;
        shift = is.shift;
        ended_count = ap length flags ∙ length-set m.ended p true ∙ is.ended_count;
        moved = is.moved;
      }
