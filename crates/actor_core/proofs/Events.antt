-- A machine's call is one event.
use Rattle.std.proofs.Common.{◌≡◌, ℕ, ◌==◌, refl, sym, ap, subst, ◌∙◌, cond, List, [], ◌∷◌, ◌++◌, filter_map}
use Rattle.std.proofs.Common.{append-nil, length, reverse, drop, false, Result, Ok, Err}
use Rattle.std.specs.Prelude.{OnOk}
use Rattle.std.proofs.Math.Seq.{drop-append_seam}
use Rattle.epoch_tags.specs.declared.actor.Actor.{Actor}
use Rattle.epoch_tags.specs.declared.actor.Actor.TheVariants.{Feeder, Joiner, Controller, Collector}
use Rattle.epoch_tags.specs.declared.message.Msg.{Msg}
use Rattle.epoch_tags.specs.declared.message.Msg.TheVariants.{Joiner as Joiner', Feeder as Feeder'}
use Rattle.epoch_tags.specs.declared.message.Msg.TheVariants.{Controller as Controller', Collector as Collector'}
use Rattle.epoch_tags.specs.declared.message.Post.{Post}
use Rattle.epoch_tags.specs.declared.message.ToFeeder.{ToFeeder}
use Rattle.epoch_tags.specs.declared.message.ToJoiner.{ToJoiner}
use Rattle.epoch_tags.specs.declared.message.ToController.{ToController}
use Rattle.epoch_tags.specs.declared.message.ToCollector.{ToCollector}
use Rattle.epoch_tags.specs.Posts.{joiner_msg, feeder_msg, controller_msg, collector_msg, AllGoOver}
use Rattle.reshuffler_core.specs.Law.{FeederStart}
use Rattle.reshuffler_core.specs.Standing.{FeederState, TakesMessage as FeederTakes, Begins}
use Rattle.reshuffler_core.specs.Standing.{with_sent as feeder_with_sent, with_message as feeder_with}
use Rattle.reshuffler_core.specs.Standing.{StandsFor as FeederStands}
use Rattle.load_controller.specs.declared.line.TurnLine.{TurnLine}
use Rattle.load_controller.specs.Journal.{Rules}
use Rattle.load_controller.specs.Standing.{ControllerState, TakesMessage as ControllerTakes, posts_by}
use Rattle.load_controller.specs.Standing.{state_after as controller_state_after}
use Rattle.load_controller.specs.Standing.{with_message as controller_with, with_sent as controller_with_sent}
use Rattle.load_controller.specs.Standing.{StandsFor as ControllerStands}
use Rattle.joiner_law.specs.Law.{JoinerStart, JoinerLists}
use Rattle.joiner_law.specs.Standing.{with_sent as joiner_with_sent}
use Rattle.joiner_core.specs.Machine.{with_message as joiner_with}
use Rattle.joiner_core.specs.Standing.{TakesMessage as JoinerTakes, StandsFor as JoinerStands, k_of, id_of, feeders_of}
use Rattle.joiner_core.specs.Standing.{JoinerState}
use Rattle.pair_collector.specs.Standing.{CollectorState, TakesMessage as CollectorTakes}
use Rattle.pair_collector.specs.Standing.{state_after as collector_state_after}
use Rattle.pair_collector.specs.Standing.{with_message as collector_with, StandsFor as CollectorStands}
use Rattle.trace_law.proofs.FoundOnce.{turn_round}
use Rattle.actor_core.specs.Lists.{ActorLists, Took, Began, feeder_lists, joiner_lists, controller_lists}
use Rattle.actor_core.specs.Lists.{collector_lists, with_event}
use Rattle.actor_core.specs.Standing.{Start, OfFeeder, OfJoiner, OfController, OfCollector, Stands, GoOut, Occurs}
use Rattle.actor_core.specs.declared.machines.Core.TheVariants.{Feeder as TheFeeder, Joiner as TheJoiner}
use Rattle.actor_core.specs.declared.machines.Core.TheVariants.{Controller as TheController, Collector as TheCollector}
use Rattle.actor_core.specs.Effects.{journal_posts, new_posts}
use Rattle.actor_core.proofs.TypedLists.{joiner_posts, feeder_posts, controller_posts, collector_posts, appended, got}

-- what follows of a success from two of its clauses
pub by_both : {T E P Q X : Type 0} (r : Result T E) → (P → Q → X) → OnOk r P → OnOk r Q → OnOk r X
by_both (Ok x) from one two = from one two
by_both (Err e) from one two = tt

-- ---- a joiner's own numbers

grid_of : (old : JoinerState) (s : JoinerStart) (lists : JoinerLists) → JoinerStands s lists old
    → (k_of old ≡ s.k) × (feeders_of old ≡ s.feeders) × (id_of old ≡ s.id)
grid_of old s lists st =
    let fixed = st.machine.between.within.stands.fixed in
    (fixed.k, fixed.feeders, fixed.id)

joiner_over : (old : JoinerState) (posts : List Post) (s : JoinerStart) (lists : JoinerLists) → JoinerStands s lists old
    → AllGoOver (k_of old) (feeders_of old) (Joiner (id_of old)) posts → AllGoOver s.k s.feeders (Joiner s.id) posts
joiner_over old posts s lists st over =
    let grid = grid_of old s lists st in
    subst (λ k. AllGoOver k s.feeders (Joiner s.id) posts) grid.0
    (subst (λ n. AllGoOver (k_of old) n (Joiner s.id) posts) grid.1
    (subst (λ id. AllGoOver (k_of old) (feeders_of old) (Joiner id) posts) grid.2 over))

-- ---- a feeder

feeder_lists_are : (m : ToFeeder) (posts : List Post) (ls : ActorLists)
    → feeder_with_sent (feeder_with m (feeder_lists ls)) posts
    ≡ feeder_lists (with_event (Took Controller (Feeder' m)) posts ls)
feeder_lists_are m posts ls =
    let a = appended feeder_msg (ls.received Controller) (Feeder' m ∷ []) (m ∷ []) refl in
    let b = appended controller_msg (ls.sent Controller) _ _ (controller_posts posts) in
    let c = λ (j : ℕ). appended joiner_msg (ls.sent (Joiner j)) _ _ (joiner_posts j posts) in
    sym (λ i. record { received = a i; to_controller = b i; to_joiner = λ j. c j i })

-- a feeder's call with a message is one event
pub feeder_takes : (old new : FeederState) (m : ToFeeder) (before after : List Post)
    → FeederTakes m old new before after
    → Occurs (Took Controller (Feeder' m)) (TheFeeder old) (TheFeeder new) before after
feeder_takes old new m before after t =
    record {
      added = t.added;
      sends = t.sends;
      event = record {
        stands = stands;
        over = over;
        asks = tt;
        joins = λ theta is. tt;
        state = ap TheFeeder t.state;
        posted = t.posts;
      };
    }
  where
    stands : (s : Start) (ls : ActorLists) → Stands s ls (TheFeeder old)
        → Stands s (with_event (Took Controller (Feeder' m)) t.added ls) (TheFeeder new)
    stands (OfFeeder p feeders s) ls st =
        subst (λ x. FeederStands s x new) (feeder_lists_are m t.added ls) (t.stands s (feeder_lists ls) st)
    stands (OfJoiner s) ls st = st
    stands (OfController s) ls st = st
    stands (OfCollector n) ls st = st

    over : (s : Start) (ls : ActorLists) → Stands s ls (TheFeeder old) → GoOut s t.added
    over (OfFeeder p feeders s) ls st =
        λ low. subst (λ (x : FeederStart). AllGoOver x.k feeders (Feeder p) t.added) st.began (t.over p feeders low)
    over (OfJoiner s) ls st = absurd st
    over (OfController s) ls st = absurd st
    over (OfCollector n) ls st = absurd st

-- ---- the collector

collector_lists_are : (from : Actor) (m : ToCollector) (ls : ActorLists)
    → collector_with from m (collector_lists ls) ≡ collector_lists (with_event (Took from (Collector' m)) [] ls)
collector_lists_are (Feeder p) m ls = refl
collector_lists_are (Joiner q) m ls =
    let a = λ (j : ℕ). got collector_msg (q == j) (Collector' m) m (ls.received (Joiner j)) refl in
    let e = λ (j : ℕ). ap (λ b. cond b (filter_map collector_msg (ls.received (Joiner j)) ++ m ∷ [])
    (filter_map collector_msg (ls.received (Joiner j)))) (turn_round q j) in
    sym (λ i. record { from_joiner = λ j. (a j ∙ e j) i })
collector_lists_are Controller m ls = refl
collector_lists_are Collector m ls = refl

-- the collector's call is one event, and sends nothing
pub collector_takes : (old new : CollectorState) (from : Actor) (m : ToCollector) (before : List Post)
    → CollectorTakes from m old new → new ≡ collector_state_after from m old
    → Occurs (Took from (Collector' m)) (TheCollector old) (TheCollector new) before before
collector_takes old new from m before t state =
    record {
      added = [];
      sends = sym (append-nil before);
      event = record {
        stands = stands;
        over = over;
        asks = tt;
        joins = λ theta is. tt;
        state = ap TheCollector state;
        posted = refl;
      };
    }
  where
    stands : (s : Start) (ls : ActorLists) → Stands s ls (TheCollector old)
        → Stands s (with_event (Took from (Collector' m)) [] ls) (TheCollector new)
    stands (OfFeeder p feeders s) ls st = st
    stands (OfJoiner s) ls st = st
    stands (OfController s) ls st = st
    stands (OfCollector n) ls st =
        subst (λ x. CollectorStands n x new) (collector_lists_are from m ls) (t.stands n (collector_lists ls) st)

    over : (s : Start) (ls : ActorLists) → Stands s ls (TheCollector old) → GoOut s []
    over (OfFeeder p feeders s) ls st = absurd st
    over (OfJoiner s) ls st = absurd st
    over (OfController s) ls st = absurd st
    over (OfCollector n) ls st = refl

-- ---- a feeder that begins

feeder_lists_begun : (posts : List Post) (ls : ActorLists)
    → feeder_with_sent (feeder_lists ls) posts ≡ feeder_lists (with_event Began posts ls)
feeder_lists_begun posts ls =
    let b = appended controller_msg (ls.sent Controller) _ _ (controller_posts posts) in
    let c = λ (j : ℕ). appended joiner_msg (ls.sent (Joiner j)) _ _ (joiner_posts j posts) in
    sym (λ i. record {
      received = filter_map feeder_msg (ls.received Controller);
      to_controller = b i;
      to_joiner = λ j. c j i;
    })

-- a feeder's beginning is one event
pub feeder_begins : (old new : FeederState) (before after : List Post) → Begins old new before after
    → Occurs Began (TheFeeder old) (TheFeeder new) before after
feeder_begins old new before after t = record {
  added = t.added;
  sends = t.sends;
  event = record {
    stands = stands;
    over = over;
    asks = ap length t.asks_next;
    joins = λ theta is. tt;
    state = ap TheFeeder t.state;
    posted = t.posts;
  };
}
  where
    stands : (s : Start) (ls : ActorLists) → Stands s ls (TheFeeder old)
        → Stands s (with_event Began t.added ls) (TheFeeder new)
    stands (OfFeeder p feeders s) ls st =
        subst (λ x. FeederStands s x new) (feeder_lists_begun t.added ls) (t.stands s (feeder_lists ls) st)
    stands (OfJoiner s) ls st = st
    stands (OfController s) ls st = st
    stands (OfCollector n) ls st = st

    over : (s : Start) (ls : ActorLists) → Stands s ls (TheFeeder old) → GoOut s t.added
    over (OfFeeder p feeders s) ls st =
        λ low. subst (λ (x : FeederStart). AllGoOver x.k feeders (Feeder p) t.added) st.began (t.over p feeders low)
    over (OfJoiner s) ls st = absurd st
    over (OfController s) ls st = absurd st
    over (OfCollector n) ls st = absurd st

-- ---- the controller

controller_lists_are : (from : Actor) (m : ToController) (posts : List Post) (old new : List TurnLine) (ls : ActorLists)
    → controller_with_sent (controller_with from m (controller_lists old ls)) posts new
    ≡ controller_lists new (with_event (Took from (Controller' m)) posts ls)
controller_lists_are (Feeder p) m posts old new ls =
    let a = λ (q : ℕ). got controller_msg (p == q) (Controller' m) m (ls.received (Feeder q)) refl in
    let c = λ (q : ℕ). appended feeder_msg (ls.sent (Feeder q)) _ _ (feeder_posts q posts) in
    sym (λ i. record {
      from_feeder = λ q. a q i;
      from_joiner = λ j. filter_map controller_msg (ls.received (Joiner j));
      to_feeder = λ q. c q i;
      journal = new;
    })
controller_lists_are (Joiner p) m posts old new ls =
    let a = λ (q : ℕ). got controller_msg (p == q) (Controller' m) m (ls.received (Joiner q)) refl in
    let c = λ (q : ℕ). appended feeder_msg (ls.sent (Feeder q)) _ _ (feeder_posts q posts) in
    sym (λ i. record {
      from_feeder = λ q. filter_map controller_msg (ls.received (Feeder q));
      from_joiner = λ q. a q i;
      to_feeder = λ q. c q i;
      journal = new;
    })
controller_lists_are Controller m posts old new ls =
    let c = λ (q : ℕ). appended feeder_msg (ls.sent (Feeder q)) _ _ (feeder_posts q posts) in
    sym (λ i. record {
      from_feeder = λ q. filter_map controller_msg (ls.received (Feeder q));
      from_joiner = λ j. filter_map controller_msg (ls.received (Joiner j));
      to_feeder = λ q. c q i;
      journal = new;
    })
controller_lists_are Collector m posts old new ls =
    let c = λ (q : ℕ). appended feeder_msg (ls.sent (Feeder q)) _ _ (feeder_posts q posts) in
    sym (λ i. record {
      from_feeder = λ q. filter_map controller_msg (ls.received (Feeder q));
      from_joiner = λ j. filter_map controller_msg (ls.received (Joiner j));
      to_feeder = λ q. c q i;
      journal = new;
    })

controller_posted : (old new : ControllerState) (from : Actor) (m : ToController) (before after : List Post)
    → (t : ControllerTakes from m old new before after) → t.added ≡ new_posts old (controller_state_after from m old)
controller_posted old new from m before after t =
    let same : journal_posts new ≡ journal_posts old ++ t.added =
    ap (λ (r : Rules). posts_by r (reverse new.journal)) t.rules ∙ t.posted in
    sym (ap (λ (c : ControllerState). new_posts old c) (sym t.state)
    ∙ ap (drop (length (journal_posts old))) same ∙ drop-append_seam (journal_posts old) t.added)

-- the controller's call is one event
pub controller_takes : (old new : ControllerState) (from : Actor) (m : ToController) (before after : List Post)
    → ControllerTakes from m old new before after
    → Occurs (Took from (Controller' m)) (TheController old) (TheController new) before after
controller_takes old new from m before after t =
    record {
      added = t.added;
      sends = t.sends;
      event = record {
        stands = stands;
        over = over;
        asks = tt;
        joins = λ theta is. tt;
        state = ap TheController t.state;
        posted = controller_posted old new from m before after t;
      };
    }
  where
    stands : (s : Start) (ls : ActorLists) → Stands s ls (TheController old)
        → Stands s (with_event (Took from (Controller' m)) t.added ls) (TheController new)
    stands (OfFeeder p feeders s) ls st = st
    stands (OfJoiner s) ls st = st
    stands (OfController s) ls st = subst (λ x. ControllerStands s x new)
        (controller_lists_are from m t.added old.journal new.journal ls)
        (t.stands s (controller_lists old.journal ls) st)
    stands (OfCollector n) ls st = st

    over : (s : Start) (ls : ActorLists) → Stands s ls (TheController old) → GoOut s t.added
    over (OfFeeder p feeders s) ls st = absurd st
    over (OfJoiner s) ls st = absurd st
    over (OfController s) ls st = subst (λ (r : Rules). AllGoOver r.k r.feeders Controller t.added) st.began t.over
    over (OfCollector n) ls st = absurd st

-- ---- a joiner

joiner_got : (p q : ℕ) (m : ToJoiner) (before : List Msg)
    → filter_map joiner_msg (cond (p == q) (before ++ Joiner' m ∷ []) before)
    ≡ cond (q == p) (filter_map joiner_msg before ++ m ∷ []) (filter_map joiner_msg before)
joiner_got p q m before =
    got joiner_msg (p == q) (Joiner' m) m before refl ∙ ap (λ b. cond b (filter_map joiner_msg before ++ m ∷ [])
    (filter_map joiner_msg before)) (turn_round p q)

joiner_lists_are : (from : Actor) (m : ToJoiner) (posts : List Post) (ls : ActorLists)
    → joiner_with_sent (joiner_with from m (joiner_lists ls)) posts
    ≡ joiner_lists (with_event (Took from (Joiner' m)) posts ls)
joiner_lists_are (Feeder p) m posts ls =
    let b = appended controller_msg (ls.sent Controller) _ _ (controller_posts posts) in
    let c = λ (j : ℕ). appended joiner_msg (ls.sent (Joiner j)) _ _ (joiner_posts j posts) in
    let d = appended collector_msg (ls.sent Collector) _ _ (collector_posts posts) in
    sym (λ i. record {
      from_feeder = λ q. joiner_got p q m (ls.received (Feeder q)) i;
      from_joiner = λ q. filter_map joiner_msg (ls.received (Joiner q));
      to_joiner = λ j. c j i;
      to_controller = b i;
      to_collector = d i;
    })
joiner_lists_are (Joiner p) m posts ls =
    let b = appended controller_msg (ls.sent Controller) _ _ (controller_posts posts) in
    let c = λ (j : ℕ). appended joiner_msg (ls.sent (Joiner j)) _ _ (joiner_posts j posts) in
    let d = appended collector_msg (ls.sent Collector) _ _ (collector_posts posts) in
    sym (λ i. record {
      from_feeder = λ q. filter_map joiner_msg (ls.received (Feeder q));
      from_joiner = λ q. joiner_got p q m (ls.received (Joiner q)) i;
      to_joiner = λ j. c j i;
      to_controller = b i;
      to_collector = d i;
    })
joiner_lists_are Controller m posts ls =
    let b = appended controller_msg (ls.sent Controller) _ _ (controller_posts posts) in
    let c = λ (j : ℕ). appended joiner_msg (ls.sent (Joiner j)) _ _ (joiner_posts j posts) in
    let d = appended collector_msg (ls.sent Collector) _ _ (collector_posts posts) in
    sym (λ i. record {
      from_feeder = λ q. filter_map joiner_msg (ls.received (Feeder q));
      from_joiner = λ q. filter_map joiner_msg (ls.received (Joiner q));
      to_joiner = λ j. c j i;
      to_controller = b i;
      to_collector = d i;
    })
joiner_lists_are Collector m posts ls =
    let b = appended controller_msg (ls.sent Controller) _ _ (controller_posts posts) in
    let c = λ (j : ℕ). appended joiner_msg (ls.sent (Joiner j)) _ _ (joiner_posts j posts) in
    let d = appended collector_msg (ls.sent Collector) _ _ (collector_posts posts) in
    sym (λ i. record {
      from_feeder = λ q. filter_map joiner_msg (ls.received (Feeder q));
      from_joiner = λ q. filter_map joiner_msg (ls.received (Joiner q));
      to_joiner = λ j. c j i;
      to_controller = b i;
      to_collector = d i;
    })

-- a joiner's call is one event
pub joiner_takes : (old new : JoinerState) (from : Actor) (m : ToJoiner) (before after : List Post)
    → JoinerTakes from m old new before after → new.spent ≡ false
    → Occurs (Took from (Joiner' m)) (TheJoiner old) (TheJoiner new) before after
joiner_takes old new from m before after t going =
    record {
      added = t.added;
      sends = t.sends;
      event = record {
        stands = stands;
        over = over;
        asks = tt;
        joins = λ theta is. t.same.of_theta ∙ is;
        state = ap TheJoiner (λ i. record { machine = t.state i; spent = going i });
        posted = t.posts;
      };
    }
  where
    stands : (s : Start) (ls : ActorLists) → Stands s ls (TheJoiner old)
        → Stands s (with_event (Took from (Joiner' m)) t.added ls) (TheJoiner new)
    stands (OfFeeder p feeders s) ls st = st
    stands (OfJoiner s) ls st =
        subst (λ x. JoinerStands s x new) (joiner_lists_are from m t.added ls) (t.stands s (joiner_lists ls) st)
    stands (OfController s) ls st = st
    stands (OfCollector n) ls st = st

    over : (s : Start) (ls : ActorLists) → Stands s ls (TheJoiner old) → GoOut s t.added
    over (OfFeeder p feeders s) ls st = absurd st
    over (OfJoiner s) ls st = joiner_over old t.added s (joiner_lists ls) st t.over
    over (OfController s) ls st = absurd st
    over (OfCollector n) ls st = absurd st
