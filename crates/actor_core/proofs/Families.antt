-- The typed family of machines that stand for their lists agrees, and is finished where their work is over.
use Rattle.std.proofs.Common.{◌⊎◌, inl, inr, ◌≤◌, arith}
use Rattle.std.proofs.lemmas.Bool.{cases_lt}
use Rattle.std.proofs.Common.{◌≡◌, ℕ, ◌<◌, ◌^◌, ltb, ltb-true, lt-ltb, true≢false, refl, sym, ap, subst, ◌∙◌, Bool}
use Rattle.std.proofs.Common.{true, false, Option, List, [], filter_map}
use Rattle.std.proofs.Math.Bridge.{le_prop}
use Rattle.std.proofs.lemmas.List.Elements.{filter_map-append}
use Rattle.row_cells.specs.Lists.{IsPrefix, SameBag}
use Rattle.row_cells.proofs.Totals.{greatest_above}
use Rattle.epoch_tags.specs.declared.actor.Actor.{Actor}
use Rattle.epoch_tags.specs.declared.actor.Actor.TheVariants.{Feeder, Joiner, Controller, Collector}
use Rattle.epoch_tags.specs.declared.message.ToFeeder.{ToFeeder}
use Rattle.epoch_tags.specs.Messages.{stops, turns}
use Rattle.epoch_tags.specs.Posts.{joiner_msg, feeder_msg, controller_msg, collector_msg}
use Rattle.reshuffler_core.specs.Law.{FeederStart, FeederLaw}
use Rattle.joiner_law.specs.Law.{JoinerStart, JoinerLists, JoinerLaw, Taken, IsFinished as IsFinishedJoiner}
use Rattle.joiner_law.specs.Law.{opened, store}
use Rattle.joiner_core.specs.State.{tuples_of}
use Rattle.store_parts.specs.Stored.{Stored}
use Rattle.load_controller.specs.Journal.{begun}
use Rattle.load_controller.specs.Standing.{ControllerStart}
use Rattle.load_controller.specs.Law.{ControllerLaw}
use Rattle.pair_collector.specs.Law.{IsComplete}
use Rattle.pair_collector.proofs.KeptMessages.{complete_says}
use Rattle.trace_law.specs.Family.{Family, IsFinished, feeder_start, joiner_start, rest_after}
use Rattle.trace_law.specs.Family.{rules_of}
use Rattle.actor_core.specs.Lists.{ActorLists, feeder_lists, joiner_lists, controller_lists, collector_lists}
use Rattle.actor_core.specs.Standing.{OfFeeder, OfJoiner, OfController, OfCollector, Stands, IsOver, GoesOn}
use Rattle.actor_core.specs.Leavings.{Gives}
use Rattle.actor_core.specs.Families.{AreFronts, IsActor, start_for, family_of, journal_of}
use Rattle.actor_core.specs.declared.machines.Core.{Core}
use Rattle.actor_core.specs.declared.machines.Core.TheVariants.{Feeder as TheFeeder, Joiner as TheJoiner}
use Rattle.actor_core.specs.declared.machines.Core.TheVariants.{Controller as TheController, Collector as TheCollector}
use Rattle.actor_core.specs.Tasks.{Task, Agrees}

-- ---- the laws, read off

-- a feeder's machine keeps the feeder's law, by what it took, which tells whether its work is over
pub feeder_law : (p feeders : ℕ) (s : FeederStart) (ls : ActorLists) (core : Core)
    → Stands (OfFeeder p feeders s) ls core
    → (taken : List ToFeeder) × FeederLaw s (feeder_lists ls) taken × (IsOver core → 0 < stops taken)
    × (0 < stops taken → ¬ GoesOn core)
feeder_law p feeders s ls (TheFeeder f) st =
    (st.taken, st.law, (λ over. st.stopped.0 over), (λ stopped goes. true≢false (sym (st.stopped.1 stopped) ∙ goes)))
feeder_law p feeders s ls (TheJoiner j) st = absurd st
feeder_law p feeders s ls (TheController c) st = absurd st
feeder_law p feeders s ls (TheCollector c) st = absurd st

-- a joiner that has finished has settled each step that it opened
settled_all : (s : JoinerStart) (lists : JoinerLists) (taken : Taken) (law : JoinerLaw s lists taken) → 0 < s.feeders
    → IsFinishedJoiner s lists taken → law.done ≡ opened s taken
settled_all s lists taken law some finished = go (cases_lt law.done (opened s taken))
    (cases_lt (opened s taken) law.done)
  where
    go : (law.done < opened s taken) ⊎ (opened s taken ≤ law.done)
        → (opened s taken < law.done) ⊎ (law.done ≤ opened s taken) → law.done ≡ opened s taken
    go (inl less) other = absurd (law.unsettled (finished.0.1 law.done less))
    go (inr more) (inl less) =
        let turned = (law.settled (opened s taken) less).0 0 some in
        let most = greatest_above s.feeders (λ p. turns (taken.from_feeder p)) 0 some in
        absurd (omega (arith, turned, most))
    go (inr more) (inr less) = omega (arith, more, less)

-- a joiner's machine keeps the joiner's law, by what it took, which tells whether its work is over; then the store that
-- the machine gives back is its last
pub joiner_law : (s : JoinerStart) (ls : ActorLists) (core : Core) → Stands (OfJoiner s) ls core
    → (taken : Taken) × JoinerLaw s (joiner_lists ls) taken × (IsOver core → IsFinishedJoiner s (joiner_lists ls) taken)
    × (IsFinishedJoiner s (joiner_lists ls) taken → ¬ GoesOn core)
    × (0 < s.feeders → IsFinishedJoiner s (joiner_lists ls) taken → (given : Stored) → Gives core given
    → SameBag (tuples_of given) (store s taken (opened s taken)))
joiner_law s ls (TheFeeder f) st = absurd st
joiner_law s ls (TheJoiner j) st = (
  st.taken,
  st.law,
  (λ over. over s (joiner_lists ls) st),
  (λ finished goes. goes s (joiner_lists ls) st finished),
  (λ some finished given gives.
      subst (λ n. SameBag (tuples_of given) (store s st.taken n))
      (settled_all s (joiner_lists ls) st.taken st.law some finished) (gives.tuples s (joiner_lists ls) st)),
)
joiner_law s ls (TheController c) st = absurd st
joiner_law s ls (TheCollector c) st = absurd st

-- the controller's machine keeps the controller's law, with its own journal
pub controller_law : (s : ControllerStart) (ls : ActorLists) (core : Core) → Stands (OfController s) ls core
    → ControllerLaw s.rules s.first (controller_lists (journal_of core) ls)
controller_law s ls (TheFeeder f) st = absurd st
controller_law s ls (TheJoiner j) st = absurd st
controller_law s ls (TheController c) st = st.law
controller_law s ls (TheCollector c) st = absurd st

controller_goes : (s : ControllerStart) (ls : ActorLists) (core : Core) → Stands (OfController s) ls core
    → ¬ GoesOn core
controller_goes s ls (TheFeeder f) st = absurd st
controller_goes s ls (TheJoiner j) st = absurd st
controller_goes s ls (TheController c) st = λ goes. goes
controller_goes s ls (TheCollector c) st = absurd st

-- the lists of a collector's machine whose work is over are complete
pub collector_over : (n : ℕ) (ls : ActorLists) (core : Core) → Stands (OfCollector n) ls core → IsOver core
    → IsComplete n (collector_lists ls)
collector_over n ls (TheFeeder f) st = absurd st
collector_over n ls (TheJoiner j) st = absurd st
collector_over n ls (TheController c) st = absurd st
collector_over n ls (TheCollector c) st = λ over. (complete_says n (collector_lists ls) c st).0 over

collector_goes : (n : ℕ) (ls : ActorLists) (core : Core) → Stands (OfCollector n) ls core
    → IsComplete n (collector_lists ls) → ¬ GoesOn core
collector_goes n ls (TheFeeder f) st = absurd st
collector_goes n ls (TheJoiner j) st = absurd st
collector_goes n ls (TheController c) st = absurd st
collector_goes n ls (TheCollector c) st =
    λ all goes. true≢false (sym ((complete_says n (collector_lists ls) c st).1 all) ∙ goes)

-- ---- one choice for each index below n

module _ {A : Type 0} (P : ℕ → A → Type 0) (n : ℕ) (other : A) (given : (p : ℕ) → p < n → (x : A) × P p x) where
  pick : (p : ℕ) (b : Bool) → ltb p n ≡ b → A
  pick p true e = (given p (ltb-true p n e)).0
  pick p false e = other

  picked : (p : ℕ) → p < n → (b : Bool) (e : ltb p n ≡ b) → P p (pick p b e)
  unfolding pick
  picked p low true e = (given p (ltb-true p n e)).1
  picked p low false e = absurd (true≢false (sym (lt-ltb p n low) ∙ e))

  -- where each index below n has some x with P, there is a function that gives one
  pub choice : (f : ℕ → A) × ((p : ℕ) → p < n → P p (f p))
  choice = ((λ p. pick p (ltb p n) refl), (λ p low. picked p low (ltb p n) refl))

-- ---- fronts

read_front : {M X : Type 0} (kind : M → Option X) (front whole : List M) → IsPrefix front whole
    → IsPrefix (filter_map kind front) (filter_map kind whole)
read_front kind front whole prefix =
    record {
      rest = filter_map kind prefix.rest;
      joins = sym (filter_map-append kind front prefix.rest)
          ∙ ap (filter_map kind) prefix.joins;
    }

-- ---- the family

-- the machines of a wave, each standing for its actor's lists; where W holds, their work is over
module _ (task : Task) (f : Actor → ActorLists)
    (cores : (a : Actor) → IsActor task.setting a → (core : Core) × Stands (start_for task a) (f a) core)
    (fronts : AreFronts f)
    (W : Type 0) (over : W → (a : Actor) (is : IsActor task.setting a) → IsOver (cores a is).0) where
  abbrev feeder_took : ℕ → List ToFeeder → Type 0
  feeder_took p taken =
      FeederLaw (feeder_start task.input task.setting task.rest p) (feeder_lists (f (Feeder p))) taken
      × (W → 0 < stops taken)
      × ((is : p < task.setting.feeders) → 0 < stops taken → ¬ GoesOn (cores (Feeder p) is).0)

  feeders : (taken : ℕ → List ToFeeder) × ((p : ℕ) → p < task.setting.feeders → feeder_took p (taken p))
  feeders = choice feeder_took task.setting.feeders [] (λ p low.
      let law = feeder_law p task.setting.feeders (feeder_start task.input task.setting task.rest p) (f (Feeder p))
      (cores (Feeder p) low).0 (cores (Feeder p) low).1 in (
        law.0,
        (
          law.1,
          (λ w. law.2 (over w (Feeder p) low)),
          (λ is stopped. subst (λ (l : p < task.setting.feeders). ¬ GoesOn (cores (Feeder p) l).0) (le_prop low is)
              (law.3 stopped)),
        ),
      ))

  abbrev joiner_took : ℕ → Taken → Type 0
  joiner_took j taken =
      JoinerLaw (joiner_start task.input task.setting task.rest j) (joiner_lists (f (Joiner j))) taken
      × (W → IsFinishedJoiner (joiner_start task.input task.setting task.rest j) (joiner_lists (f (Joiner j)))
      taken)
      × ((is : j < 2 ^ task.setting.k) → IsFinishedJoiner (joiner_start task.input task.setting task.rest j)
      (joiner_lists (f (Joiner j))) taken → ¬ GoesOn (cores (Joiner j) is).0)
      × ((is : j < 2 ^ task.setting.k) → 0 < task.setting.feeders
      → IsFinishedJoiner (joiner_start task.input task.setting task.rest j) (joiner_lists (f (Joiner j))) taken
      → (given : Stored) → Gives (cores (Joiner j) is).0 given
      → SameBag (tuples_of given) (store (joiner_start task.input task.setting task.rest j) taken
      (opened (joiner_start task.input task.setting task.rest j) taken)))

  joiners : (taken : ℕ → Taken) × ((j : ℕ) → j < 2 ^ task.setting.k → joiner_took j (taken j))
  joiners = choice joiner_took (2 ^ task.setting.k) (record {
    from_feeder = λ p. [];
    from_joiner = λ q. [];
    shift_at = λ e. 0;
  }) (λ j low.
      let law = joiner_law (joiner_start task.input task.setting task.rest j) (f (Joiner j)) (cores (Joiner j) low).0
      (cores (Joiner j) low).1 in (
        law.0,
        (
          law.1,
          (λ w. law.2 (over w (Joiner j) low)),
          (λ is finished. subst (λ (l : j < 2 ^ task.setting.k). ¬ GoesOn (cores (Joiner j) l).0) (le_prop low is)
              (law.3 finished)),
          (λ is some finished given gives.
              law.4 some finished given
              (subst (λ (l : j < 2 ^ task.setting.k). Gives (cores (Joiner j) l).0 given) (le_prop is low) gives)),
        ),
      ))

  -- the lists of all, with the journal of the controller's machine
  abbrev family : Family
  family = family_of (journal_of (cores Controller tt).0) f

  -- the family agrees
  pub agrees : Agrees task family
  agrees = record {
    taken_by_feeder = feeders.0;
    taken_by_joiner = joiners.0;
    feeders = λ p low. (feeders.1 p low).0;
    joiners = λ j low. (joiners.1 j low).0;
    controller = controller_law (record { rules = rules_of task.setting; first = begun task.rest.line })
        (f Controller) (cores Controller tt).0 (cores Controller tt).1;
    feeder_joiner = λ p j low low'. read_front joiner_msg _ _ (fronts (Feeder p) (Joiner j));
    joiner_joiner = λ i j low low'. read_front joiner_msg _ _ (fronts (Joiner i) (Joiner j));
    controller_feeder = λ p low. read_front feeder_msg _ _ (fronts Controller (Feeder p));
    feeder_controller = λ p low. read_front controller_msg _ _ (fronts (Feeder p) Controller);
    joiner_controller = λ j low. read_front controller_msg _ _ (fronts (Joiner j) Controller);
    joiner_collector = λ j low. read_front collector_msg _ _ (fronts (Joiner j) Collector);
  }

  -- it is finished where W holds
  pub is_finished : W
      → IsFinished task.input task.setting task.rest family agrees
  unfolding agrees
  is_finished w = record {
    feeders = λ p low. (feeders.1 p low).1 w;
    joiners = λ j low. (joiners.1 j low).1 w;
    collector = collector_over (2 ^ task.setting.k) (f Collector) (cores Collector tt).0 (cores Collector tt).1
        (over w Collector tt);
  }

  -- where the family is finished, the work of none goes on
  pub none_goes : IsFinished task.input task.setting task.rest family agrees
      → (a : Actor) (is : IsActor task.setting a) → ¬ GoesOn (cores a is).0
  unfolding agrees
  none_goes finished (Feeder p) is = (feeders.1 p is).2 is (finished.feeders p is)
  none_goes finished (Joiner j) is = (joiners.1 j is).2 is (finished.joiners j is)
  none_goes finished Controller is = controller_goes (record {
    rules = rules_of task.setting;
    first = begun task.rest.line;
  }) (f Controller) (cores Controller is).0 (cores Controller is).1
  none_goes finished Collector is =
      collector_goes (2 ^ task.setting.k) (f Collector) (cores Collector is).0 (cores Collector is).1 finished.collector

  -- the store that a joiner's machine gives back then is what the family leaves it
  pub left_stores : IsFinished task.input task.setting task.rest family agrees
      → 0 < task.setting.feeders → (j : ℕ) (is : j < 2 ^ task.setting.k) (given : Stored)
      → Gives (cores (Joiner j) is).0 given
      → SameBag (tuples_of given) ((rest_after task.input task.setting task.rest family agrees).stores j)
  unfolding agrees
  left_stores finished some j is given gives = (joiners.1 j is).3 is some (finished.joiners j is) given gives
