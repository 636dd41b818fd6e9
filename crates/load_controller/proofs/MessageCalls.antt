-- A call with a message: one that is counted, one that was held, and one that is passed over.
use Rattle.std.proofs.Common.{◌≡◌, ℕ, ◌^◌, ◌<◌, refl, sym, ◌∙◌, ap, subst, arith, Bool, false, not, List, [], ◌∷◌, ◌++◌}
use Rattle.std.proofs.Common.{length, drop, reverse, get_or-set_same, get_or-set_other}
use Rattle.std.specs.Prelude.{slice_set}
use Rattle.std.proofs.Math.ListN.{length-set}
use Rattle.std.proofs.lemmas.Bool.{not-true, lt-ltb}
use Rattle.std.proofs.lemmas.List.{append-nil}
use Rattle.std.proofs.lemmas.List.Elements.{All-nil}
use Rattle.epoch_tags.specs.declared.actor.Actor.{Actor}
use Rattle.epoch_tags.specs.declared.actor.Actor.TheVariants.{Feeder, Joiner, Controller}
use Rattle.epoch_tags.specs.declared.message.Post.{Post}
use Rattle.epoch_tags.specs.declared.message.ToController.{ToController}
use Rattle.epoch_tags.specs.declared.message.ToController.TheVariants.{Ask, Drained, Settled}
use Rattle.epoch_tags.specs.Posts.{GoesOver}
use Rattle.epoch_tags.specs.Held.{held_at}
use Rattle.load_controller.specs.declared.line.Cause.TheVariants.{Settle}
use Rattle.load_controller.specs.declared.line.TurnLine.{TurnLine}
use Rattle.load_controller.specs.declared.ledger.Ledger.{Ledger}
use Rattle.load_controller.specs.Journal.{has_drained, has_settled}
use Rattle.load_controller.specs.Law.{IsInPlace, SettlesInPlace, cause_of}
use Rattle.load_controller.specs.Standing.{ControllerState, TakesMessage, PassesOver, IsPassedOver, with_message}
use Rattle.load_controller.specs.Standing.{with_sent, posts_for, posts_by, with_all_held}
use Rattle.load_controller.specs.Machine.{IsSound, IsReady, IsStuck, StandsWithin, Advances, Took, HasPlace, CauseFits}
use Rattle.load_controller.specs.Machine.{CountsCause, rules_of, state_of}
use Rattle.load_controller.proofs.CallResults.{placed_counts, line_state, same_left, stays_stuck, passed_stays}
use Rattle.load_controller.proofs.Standings.{feeder_counted, held_counted, joiner_held, message_passed, as_own}
use Rattle.load_controller.proofs.Standings.{within_of, stuck_of, stands_of}
use Rattle.load_controller.proofs.CallParts.{sent_none, prefix_self, sent_within, took_then, adds_line, over_line}
use Rattle.load_controller.proofs.CallParts.{stands_with, recast, first_same, rest_same}

-- ---- a feeder's message

has_place : (c : Ledger) (s : IsSound c) (p : ℕ) (m : ToController) → HasPlace c p m
    → (p < c.feeders) × IsInPlace c.line s.past p m
has_place c s p (Ask dr ds) place = (place.0, (ap not (sym (s.drained p place.0) ∙ place.1), place.2, place.3))
has_place c s p Drained place = (place.0, ap not (sym (s.drained p place.0) ∙ place.1))
has_place c s p (Settled epoch) place = absurd place

in_place_has : (c : Ledger) (s : IsSound c) (p : ℕ) (m : ToController) → p < c.feeders → IsInPlace c.line s.past p m
    → HasPlace c p m
in_place_has c s p (Ask dr ds) low (fresh, few_r, few_s) =
    (low, s.drained p low ∙ not-true (has_drained p (c.line ∷ s.past)) fresh, few_r, few_s)
in_place_has c s p Drained low fresh = (low, s.drained p low ∙ not-true (has_drained p (c.line ∷ s.past)) fresh)
in_place_has c s p (Settled epoch) low in_place = in_place

-- a message in place has a cause that may come
pub place_fits : (c : Ledger) (p : ℕ) (m : ToController) → HasPlace c p m → CauseFits c (cause_of p m)
place_fits c p (Ask dr ds) place = (place.0, place.2, place.3)
place_fits c p Drained place = place.0
place_fits c p (Settled epoch) place = absurd place

feeder_took : (p : ℕ) (m : ToController) (old new : Ledger) (before after : List Post) → IsSound old → IsSound new
    → HasPlace old p m → CountsCause (cause_of p m) old new before after → Took (Feeder p) m old new before after
feeder_took p m old new before after s t place c =
    let adds = adds_line (cause_of p m) old new before after s t c in
    let placed = has_place old s p m place in
    record {
      state =
          rw (placed_counts old s p m place)
          (ap with_all_held (sym (line_state (cause_of p m) old new s adds.rules adds.held adds.line adds.journal)));
      rules = adds.rules;
      grows = record { rest = new.line ∷ []; joins = sym adds.journal };
      added = posts_for (rules_of old) new.line old.line s.past;
      sends = adds.sends;
      posted = adds.posted;
      over = over_line (cause_of p m) old new before after s (place_fits old p m place) c;
      stands = λ first lists w.
          let both = sym s.newest ∙ w.newest in
          let here =
          recast (rules_of old) first lists old.journal (held_at old.held) w old.line s.past s.newest
          (first_same old.line w.line s.past w.past both) (rest_same old.line w.line s.past w.past both) in
          subst
          (λ hs.
          StandsWithin (rules_of old) first
          (with_sent (with_message (Feeder p) m lists) (posts_for (rules_of old) new.line old.line s.past)
          new.journal) new.journal (held_at hs)) (sym adds.held)
          (stands_with (rules_of old) first (with_message (Feeder p) m lists) old.line new.line s.past (cause_of p m)
          old.journal new.journal (held_at old.held) adds.line adds.journal
          (feeder_counted (rules_of old) first lists old.journal (held_at old.held) here p m placed.0 placed.1));
    }

-- ---- a held message

-- the machine with other held messages
abbrev pub sound_held : (c : Ledger) (held : List (List ℕ)) → IsSound c → length held ≡ length c.held
    → IsSound (record c { held = held })
sound_held c held s many = record {
  past = s.past;
  newest = s.newest;
  k = s.k;
  weights = s.weights;
  bounded = s.bounded;
  guided = s.guided;
  near = s.near;
  drained_len = s.drained_len;
  drained = s.drained;
  settled_len = s.settled_len;
  settled = s.settled;
  count = s.count;
  few = s.few;
  at_most = s.at_most;
  over = s.over;
  queues = many ∙ s.queues;
}

-- the first held of joiner j goes
abbrev pub without_first : Ledger → ℕ → List (List ℕ)
without_first c j = slice_set c.held j (drop 1 (held_at c.held j))

-- so has a held word that is ready
pub ready_fits : (c : Ledger) (held : List (List ℕ)) (j : ℕ) → IsReady c j
    → CauseFits (record c { held = held }) (Settle j)
ready_fits c held j ready = (ready.low, ready.moves, ready.new)

held_took : (old new : Ledger) (j : ℕ) (before after : List Post) (s : IsSound old) → IsSound new → IsReady old j
    → ((i : ℕ) → i < j → ¬ IsReady old i)
    → CountsCause (Settle j) (record old { held = without_first old j }) new before after
    → Advances old new before after
held_took old new j before after s t ready lowest c =
    let queues = without_first old j in
    let mid = record old { held = queues } in
    let many : length queues ≡ length old.held = length-set old.held j (drop 1 (held_at old.held j)) in
    let adds = adds_line (Settle j) mid new before after (sound_held old queues s many) t c in
    let within : j < length old.held = let n = s.queues in let low = ready.low in omega arith in
    record {
      state =
          same_left old new j s ready lowest adds.held
          (line_state (Settle j) mid new (sound_held old queues s many) adds.rules adds.held adds.line adds.journal);
      rules = adds.rules;
      grows = record { rest = new.line ∷ []; joins = sym adds.journal };
      added = posts_for (rules_of old) new.line old.line s.past;
      sends = adds.sends;
      posted = adds.posted;
      over = over_line (Settle j) mid new before after (sound_held old queues s many) (ready_fits old queues j ready) c;
      stands = λ first lists w.
          let both = sym s.newest ∙ w.newest in
          let here =
          recast (rules_of old) first lists old.journal (held_at old.held) w old.line s.past s.newest
          (first_same old.line w.line s.past w.past both) (rest_same old.line w.line s.past w.past both) in
          let moves : SettlesInPlace old.line s.past j old.line.epoch =
          (ready.moves, refl, ap not (sym (s.settled j ready.low) ∙ ready.new)) in
          let own : held_at queues j ≡ drop 1 (held_at old.held j) =
          get_or-set_same old.held j (drop 1 (held_at old.held j)) [] within in
          subst
          (λ hs.
          StandsWithin (rules_of old) first
          (with_sent lists (posts_for (rules_of old) new.line old.line s.past) new.journal) new.journal
          (held_at hs)) (sym adds.held)
          (stands_with (rules_of old) first lists old.line new.line s.past (Settle j) old.journal new.journal
          (held_at queues) adds.line adds.journal
          (held_counted (rules_of old) first lists old.journal (held_at old.held) (held_at queues)
          here j old.line.epoch ready.low moves
          (ready.first ∙ ap (λ xs. old.line.epoch ∷ xs) (sym own))
          (λ i differ. get_or-set_other old.held j i (drop 1 (held_at old.held j)) [] (λ same. differ (sym same)))));
    }

module _ (old mid new : Ledger) (j : ℕ) (before after : List Post) where
  -- the machine after the pop, as the code has it
  pub advances_held : IsSound old → IsSound new → IsReady old j → ((i : ℕ) → i < j → ¬ IsReady old i)
      → mid ≡ record old { held = without_first old j } → CountsCause (Settle j) mid new before after
      → Advances old new before after
  advances_held s t ready lowest is c =
      held_took old new j before after s t ready lowest (subst (λ x. CountsCause (Settle j) x new before after) is c)

-- ---- a joiner's message

-- a joiner's word was taken and is held
pub joiner_took : (j epoch : ℕ) (old new : Ledger) (posts : List Post) → IsSound old → j < 2 ^ old.k
    → new ≡ record old { held = slice_set old.held j (held_at old.held j ++ epoch ∷ []) }
    → Took (Joiner j) (Settled epoch) old new posts posts
joiner_took j epoch old new posts s low is = subst (λ x. Took (Joiner j) (Settled epoch) old x posts posts) (sym is) (
    let more = held_at old.held j ++ epoch ∷ [] in
    let queues = slice_set old.held j more in
    let within : j < length old.held = let n = s.queues in omega arith in
    record {
      state = rw (lt-ltb j (2 ^ old.k) low) refl;
      rules = refl;
      grows = prefix_self old.journal;
      added = [];
      sends = sym (append-nil posts);
      posted = sym (append-nil (posts_by (rules_of old) (reverse old.journal)));
      over = All-nil (GoesOver old.k old.feeders Controller);
      stands = λ first lists w.
          let held = joiner_held (rules_of old) first lists old.journal (held_at old.held) (held_at queues) w j epoch
          (get_or-set_same old.held j more [] within)
          (λ i differ. get_or-set_other old.held j i more [] (λ same. differ (sym same))) in
          subst (λ ls. StandsWithin (rules_of old) first ls old.journal (held_at queues))
          (sent_none (with_message (Joiner j) (Settled epoch) lists) old.journal w.same) held;
    })

-- ---- the end of a call

stuck_here : (c : Ledger) (s : IsSound c) → IsStuck c → (j : ℕ) → j < 2 ^ c.k → (epoch : ℕ) (rest : List ℕ)
    → held_at c.held j ≡ epoch ∷ rest → ¬ SettlesInPlace c.line s.past j epoch
stuck_here c s stuck j low epoch rest is place = stuck j (record {
  low = low;
  moves = place.0;
  new = s.settled j low ∙ not-true (has_settled j (c.line ∷ s.past)) place.2;
  first = is ∙ ap (λ e. e ∷ rest) place.1 ∙ ap (λ xs. c.line.epoch ∷ xs) (sym (ap (drop 1) is));
})

-- a part of a call after which no held message is ready is a whole call
pub takes_message : (from : Actor) (m : ToController) (old new : Ledger) (before after : List Post) → IsSound new
    → IsStuck new → Took from m old new before after
    → TakesMessage from m (state_of old false) (state_of new false) before after
takes_message from m old new before after s stuck took = record {
  state = sym (stays_stuck new s stuck) ∙ sym took.state;
  rules = took.rules;
  grows = took.grows;
  added = took.added;
  sends = took.sends;
  posted = took.posted;
  over = took.over;
  stands = λ start lists stands.
      let first = start.first in
      let lists' = with_sent (with_message from m lists) took.added new.journal in
      let own = as_own start lists (state_of old false) stands in
      let w =
      subst (λ r. StandsWithin r first lists' new.journal (held_at new.held)) (sym took.rules)
      (took.stands first lists (within_of first lists (state_of old false) own)) in
      let both = sym s.newest ∙ w.newest in
      let here =
      recast (rules_of new) first lists' new.journal (held_at new.held) w new.line s.past s.newest
      (first_same new.line w.line s.past w.past both) (rest_same new.line w.line s.past w.past both) in
      stands_of first lists' (state_of new false) here (stuck_here new s stuck) start (took.rules ∙ stands.began) refl;
}

module _ (p : ℕ) (m : ToController) (old mid new : Ledger) (before between after : List Post) where
  -- a feeder's message in place, and then the held ones
  pub feeder_takes : IsSound old → IsSound mid → IsSound new → HasPlace old p m
      → CountsCause (cause_of p m) old mid before between → Advances mid new between after → IsStuck new
      → TakesMessage (Feeder p) m (state_of old false) (state_of new false) before after
  feeder_takes s t u place c advances stuck =
      takes_message (Feeder p) m old new before after u stuck
      (took_then (Feeder p) m old mid new before between after (feeder_took p m old mid before between s t place c)
      advances)

module _ (j epoch : ℕ) (old mid new : Ledger) (before after : List Post) where
  -- a joiner's word, and then the held ones
  pub joiner_takes : IsSound old → IsSound new → j < 2 ^ old.k
      → mid ≡ record old { held = slice_set old.held j (held_at old.held j ++ epoch ∷ []) }
      → Advances mid new before after → IsStuck new
      → TakesMessage (Joiner j) (Settled epoch) (state_of old false) (state_of new false) before after
  joiner_takes s u low is advances stuck =
      takes_message (Joiner j) (Settled epoch) old new before after u stuck
      (took_then (Joiner j) (Settled epoch) old mid new before before after
      (joiner_took j epoch old mid before s low is) advances)

-- ---- a message that is passed over

-- a message that is passed over changes nothing
pub passed_takes : (from : Actor) (m : ToController) (c : Ledger) (posts : List Post) (s : IsSound c)
    → IsPassedOver (rules_of c) c.line s.past from m
    → TakesMessage from m (state_of c false) (state_of c false) posts posts
passed_takes from m c posts s over = record {
  state = passed_stays c s from m over;
  rules = refl;
  grows = prefix_self c.journal;
  added = [];
  sends = sym (append-nil posts);
  posted = sym (append-nil (posts_by (rules_of c) (reverse c.journal)));
  over = All-nil (GoesOver c.k c.feeders Controller);
  stands = λ start lists stands.
      let first = start.first in
      let own = as_own start lists (state_of c false) stands in
      let w = within_of first lists (state_of c false) own in
      let both = sym s.newest ∙ w.newest in
      let same_line = first_same c.line w.line s.past w.past both in
      let same_past = rest_same c.line w.line s.past w.past both in
      let over' : IsPassedOver (rules_of c) w.line w.past from m =
      subst (λ l. IsPassedOver (rules_of c) l w.past from m) same_line
      (subst (λ ls. IsPassedOver (rules_of c) c.line ls from m) same_past over) in
      let passed = message_passed (rules_of c) first lists c.journal (held_at c.held) w from m over' in
      let ends = sym w.newest ∙ passed.newest in
      let here =
      recast (rules_of c) first (with_message from m lists) c.journal (held_at c.held) passed w.line w.past w.newest
      (first_same w.line passed.line w.past passed.past ends) (rest_same w.line passed.line w.past passed.past ends)
      in
      stands_of first (with_sent (with_message from m lists) [] c.journal) (state_of c false)
      (sent_within (rules_of c) first (with_message from m lists) c.journal (held_at c.held) here)
      (stuck_of first lists (state_of c false) own) start stands.began refl;
}

-- a feeder's message that has no place
pub no_place : (c : Ledger) (s : IsSound c) (p : ℕ) (m : ToController) → ¬ HasPlace c p m
    → IsPassedOver (rules_of c) c.line s.past (Feeder p) m
no_place c s p m never = λ low in_place. never (in_place_has c s p m low in_place)

-- a message that has its place is not passed over
pub placed_not_passed : (c : Ledger) (p : ℕ) (m : ToController) → IsSound c → HasPlace c p m
    → (line : TurnLine) (past : List TurnLine) → reverse c.journal ≡ line ∷ past
    → IsPassedOver (rules_of c) line past (Feeder p) m → ⊥
placed_not_passed c p m s place line past newest over =
    let placed = has_place c s p m place in
    let both = sym s.newest ∙ newest in
    let same_line = first_same c.line line s.past past both in
    let same_past = rest_same c.line line s.past past both in
    over placed.0
    (subst (λ l. IsInPlace l past p m) same_line (subst (λ ls. IsInPlace c.line ls p m) same_past placed.1))

-- ---- as callers see it

module _ (from : Actor) (m : ToController) (old new : Ledger) (spent : Bool) (state : ControllerState)
    (before after : List Post) where
  -- what is passed over, in the words of the contract
  pub passes_view : state_of old spent ≡ state → spent ≡ false
      → ((line : TurnLine) (past : List TurnLine) → reverse old.journal ≡ line ∷ past → IsPassedOver (rules_of old) line
      past from m → PassesOver (state_of old false) (state_of new false) before after) → (line : TurnLine)
      (past : List TurnLine) → reverse state.journal ≡ line ∷ past → IsPassedOver state.rules line past from m
      → PassesOver state (state_of new spent) before after
  passes_view is ready passes =
      subst
      (λ (st : ControllerState). (line : TurnLine) (past : List TurnLine) → reverse st.journal ≡ line ∷ past
      → IsPassedOver st.rules line past from m → PassesOver st (state_of new spent) before after) is
      (subst
      (λ (b : Bool). (line : TurnLine) (past : List TurnLine) → reverse old.journal ≡ line ∷ past
      → IsPassedOver (rules_of old) line past from m → PassesOver (state_of old b) (state_of new b) before after)
      (sym ready) passes)
