-- The lists of all actors are an agreeing family, and once the collector is complete they answer the run.
use Rattle.std.proofs.Common.{◌≡◌, ℕ, ◌+◌, ◌<◌, ◌^◌, sym, ap, subst, ◌∙◌, true, Option, Some, None, List, length, arith}
use Rattle.std.specs.Prelude.{slice_get, ⊤}
use Rattle.epoch_tags.specs.declared.actor.Actor.{Actor}
use Rattle.epoch_tags.specs.declared.actor.Actor.TheVariants.{Joiner, Controller, Collector}
use Rattle.row_cells.specs.Lists.{SameBag}
use Rattle.store_parts.specs.Stored.{Stored}
use Rattle.joiner_core.specs.State.{tuples_of}
use Rattle.load_controller.specs.declared.line.TurnLine.{TurnLine}
use Rattle.load_controller.specs.Standing.{ControllerState}
use Rattle.pair_collector.specs.Law.{CollectorLists, IsComplete}
use Rattle.pair_collector.specs.Standing.{CollectorState, StandsFor as CollectorStands, is_complete}
use Rattle.pair_collector.proofs.KeptMessages.{complete_says}
use Rattle.trace_law.specs.declared.run.Run.{Run}
use Rattle.trace_law.specs.Runs.{run_of}
use Rattle.trace_law.specs.Laws.{CompleteIsFinished, FinishedAnswers}
use Rattle.trace_law.specs.Family.{rest_after}
use Rattle.actor_core.specs.declared.cast.Cast.{Cast}
use Rattle.actor_core.specs.Lists.{ActorLists, collector_lists}
use Rattle.actor_core.specs.Standing.{Stands, OfCollector, IsOver}
use Rattle.actor_core.specs.Families.{AreFronts, IsActor, core_in, family_of, journal_of, start_for}
use Rattle.actor_core.specs.Numbers.{at_number, count_of, number}
use Rattle.actor_core.specs.Elements.{IsAllAt}
use Rattle.actor_core.specs.Endings.{AreLast, IsAnswerOf}
use Rattle.actor_core.specs.Leavings.{Gives}
use Rattle.actor_core.specs.Players.{AllStand, IsFinishedFamily, is_complete_among}
use Rattle.actor_core.specs.Players.{is_complete_at, is_complete_core}
use Rattle.actor_core.specs.Players.{journal_among, journal_at}
use Rattle.actor_core.specs.declared.machines.Core.{Core}
use Rattle.actor_core.specs.declared.machines.Core.TheVariants.{Feeder as TheFeeder, Joiner as TheJoiner}
use Rattle.actor_core.specs.declared.machines.Core.TheVariants.{Controller as TheController, Collector as TheCollector}
use Rattle.actor_core.specs.Tasks.{Task, IsTask, Agrees, IsRun}
use Rattle.actor_core.proofs.Families.{agrees as agreeing, is_finished, left_stores}
use Rattle.actor_core.proofs.OwnNumbers.{none_some, some_is}

-- ---- what a collector's machine says

-- it took all only if it is complete
pub core_says : (n : ℕ) (ls : ActorLists) (core : Core) → Stands (OfCollector n) ls core → is_complete_core core ≡ true
    → IsComplete n (collector_lists ls)
core_says n ls (TheFeeder f) st done = absurd st
core_says n ls (TheJoiner j) st done = absurd st
core_says n ls (TheController c) st done = absurd st
core_says n ls (TheCollector c) st done = (complete_says n (collector_lists ls) c st).0 done

-- and it is complete if it took all
pub complete_core : (n : ℕ) (ls : ActorLists) (core : Core) → Stands (OfCollector n) ls core
    → IsComplete n (collector_lists ls) → is_complete_core core ≡ true
complete_core n ls (TheFeeder f) st all = absurd st
complete_core n ls (TheJoiner c) st all = absurd st
complete_core n ls (TheController c) st all = absurd st
complete_core n ls (TheCollector c) st all = (complete_says n (collector_lists ls) c st).1 all

-- ---- the last two machines are the controller's and the collector's

module _ (cast : Cast) (cores : List Core) (all : length cores ≡ count_of cast)
    (controller : ControllerState) (collector : CollectorState) (last : AreLast cores controller collector) where
  place_is : last.before ≡ cast.feeders + cast.joiners
  place_is = let whole = sym last.many ∙ all in omega arith

  -- where the last two of as many machines as the run has actors are a controller's and a collector's, the controller's
  -- stands under the number of the run's controller
  pub controller_named : core_in cast cores Controller ≡ Some (TheController controller)
  controller_named = subst (λ n. slice_get cores n ≡ Some (TheController controller)) place_is last.controller_is

  -- and the collector's under that of the run's collector
  pub collector_named : core_in cast cores Collector ≡ Some (TheCollector collector)
  collector_named = subst (λ n. slice_get cores (n + 1) ≡ Some (TheCollector collector)) place_is last.collector_is

  -- the journal is that controller's
  pub journal_named : journal_among cast cores ≡ controller.journal
  journal_named = ap journal_at controller_named

  -- the collector is complete, if that among the machines is
  pub collector_complete : is_complete_among cast cores ≡ true → is_complete collector ≡ true
  collector_complete done = sym (ap is_complete_at collector_named) ∙ done

-- ---- the family of a task

-- the family of a wave that is over, to which the stores belong that its joiners' machines give back
pub record LeavesItsStores (task : Task) (cast : Cast) (cores : List Core) (f : Actor → ActorLists)
    (journal : List TurnLine) : Type 0 where
  pub family : IsFinishedFamily task journal f
  pub stored : (j : ℕ) → j < 2 ^ task.setting.k → (core : Core) (given : Stored)
      → core_in cast cores (Joiner j) ≡ Some core → Gives core given
      → SameBag (tuples_of given)
      ((rest_after task.input task.setting task.rest (family_of journal f) family.agrees).stores j)

module _ (task : Task) (cast : Cast) (cores : List Core) (f : Actor → ActorLists)
    (all : AllStand task cast cores f) (fronts : AreFronts f) where
  -- each actor of the run has a machine that stands for the actor's lists
  abbrev pub machines : (a : Actor) → IsActor task.setting a
      → (core : Core) × Stands (start_for task a) (f a) core
  machines a is = ((all.stands a is).0, (all.stands a is).2)

  abbrev journal : List TurnLine
  journal = journal_among cast cores

  -- the journal among the machines is that of the machine found for the controller
  pub journal_is : journal ≡ journal_of (all.stands Controller tt).0
  journal_is = ap journal_at (all.stands Controller tt).1

  -- the lists agree
  pub agrees : Agrees task (family_of journal f)
  agrees =
      subst (λ js. Agrees task (family_of js f)) (sym journal_is)
      (agreeing task f machines fronts ⊥ (λ w. absurd w))

  -- where the collector is complete, they are finished
  pub complete_finished : CompleteIsFinished → IsTask task → is_complete_among cast cores ≡ true
      → IsFinishedFamily task journal f
  complete_finished law is_task done =
      let own = all.stands Collector tt in
      let collected = core_says (2 ^ task.setting.k) (f Collector) own.0 own.2 (sym (ap is_complete_at own.1) ∙ done) in
      record {
        agrees = agrees;
        finished = law task.input task.setting task.rest (family_of journal f) is_task.valid is_task.begins agrees
            collected;
      }

  found : IsAllAt IsOver cores → (n : Option ℕ) (core : Core)
      → at_number None n (λ k. slice_get cores k) ≡ Some core → IsOver core
  found over None core is = absurd (none_some core is)
  found over (Some n) core is = over n core is

  all_over : IsAllAt IsOver cores → ⊤ → (a : Actor) (is : IsActor task.setting a) → IsOver (machines a is).0
  all_over over u a is = found over (number cast a) (all.stands a is).0 (all.stands a is).1

  -- and so they are where the work of all is over
  pub over_finished : IsAllAt IsOver cores → IsFinishedFamily task journal f
  over_finished over =
      subst (λ js. IsFinishedFamily task js f) (sym journal_is)
      (record {
        agrees = agreeing task f machines fronts ⊤ (all_over over);
        finished = is_finished task f machines fronts ⊤ (all_over over) tt;
      })

  -- then the stores that the joiners' machines give back are what the family leaves
  pub over_leaves : IsAllAt IsOver cores → 0 < task.setting.feeders
      → LeavesItsStores task cast cores f journal
  over_leaves over some =
      let ended = is_finished task f machines fronts ⊤ (all_over over) tt in
      subst (LeavesItsStores task cast cores f) (sym journal_is)
      (record {
        family = record {
          agrees = agreeing task f machines fronts ⊤ (all_over over);
          finished = ended;
        };
        stored = λ j low core given there gives.
            let own = all.stands (Joiner j) low in
            let same = some_is own.0 core (sym own.1 ∙ there) in
            left_stores task f machines fronts ⊤ (all_over over) ended some j low given
            (subst (λ c. Gives c given) (sym same) gives);
      })

  -- and so they are where the collector is complete
  pub complete_leaves : CompleteIsFinished → IsTask task → is_complete_among cast cores ≡ true
      → LeavesItsStores task cast cores f journal
  complete_leaves law is_task done =
      let last = all.stands Collector tt in
      let collected = core_says (2 ^ task.setting.k) (f Collector) last.0 last.2
      (sym (ap is_complete_at last.1) ∙ done) in
      let agreed = agreeing task f machines fronts ⊥ (λ w. absurd w) in
      let own = journal_of (all.stands Controller tt).0 in
      let ended = law task.input task.setting task.rest (family_of own f) is_task.valid is_task.begins agreed
      collected in
      subst (LeavesItsStores task cast cores f) (sym journal_is)
      (record {
        family = record { agrees = agreed; finished = ended };
        stored = λ j low core given there gives.
            let machine = all.stands (Joiner j) low in
            let same = some_is machine.0 core (sym machine.1 ∙ there) in
            left_stores task f machines fronts ⊥ (λ w. absurd w) ended is_task.valid.some j low given
            (subst (λ c. Gives c given) (sym same) gives);
      })

-- the last two machines of a finished family of a wave answer its run
module _ (law : FinishedAnswers) (task : Task) (cast : Cast) (cores : List Core) (f : Actor → ActorLists)
    (is_task : IsTask task) (all : AllStand task cast cores f)
    (family : IsFinishedFamily task (journal_among cast cores) f)
    (controller : ControllerState) (collector : CollectorState) (last : AreLast cores controller collector)
    (bouts : ℕ) (run : Run) (answers : (joiners' : ℕ) (ls : CollectorLists) → CollectorStands joiners' ls collector
    → IsAnswerOf joiners' ls controller.journal bouts run) where
  abbrev told : List TurnLine
  told = journal_among cast cores

  answer : IsAnswerOf (2 ^ task.setting.k) (collector_lists (f Collector)) controller.journal bouts run
  answer =
      let own = all.stands Collector tt in
      let named = collector_named cast cores all.all controller collector last in
      let is = some_is own.0 (TheCollector collector) (sym own.1 ∙ named) in
      let its = subst (λ core. Stands (OfCollector (2 ^ task.setting.k)) (f Collector) core) is own.2 in
      answers (2 ^ task.setting.k) (collector_lists (f Collector)) its

  run_among : IsRun task told run
  run_among =
      let collected = answer.collected in
      let agreed = family.agrees in
      let is_run =
      law task.input task.setting task.rest (family_of told f) is_task.valid is_task.begins agreed family.finished
      collected answer.collects bouts in
      let journal_is = journal_named cast cores all.all controller collector last in
      let run_is : run ≡ run_of collected told bouts =
      answer.run_is ∙ ap (λ js. run_of collected js bouts) (sym journal_is) in
      subst (IsRun task told) (sym run_is) is_run

  -- where the family is finished and the run is what its collector answers, the run is one of the task, with its own
  -- journal
  pub run_ends : IsRun task run.journal run
  run_ends = subst (λ js. IsRun task js run) (sym run_among.keeps) run_among
