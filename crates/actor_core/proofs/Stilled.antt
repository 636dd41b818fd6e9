-- Where nothing is left on any link, and no feeder would begin, the run is finished.
use Rattle.std.proofs.Common.{◌≡◌, ℕ, ◌^◌, ◌<◌, ◌⊎◌, refl, sym, ap, subst, ◌∙◌, Bool, true, false, Option, None, Some}
use Rattle.std.proofs.Common.{List, filter_map}
use Rattle.std.specs.Prelude.{slice_get}
use Rattle.std.proofs.lemmas.Option.{slice_get_within}
use Rattle.epoch_tags.specs.Links.{HasLink, feeder_joiner, controller_feeder, feeder_controller, joiner_controller}
use Rattle.epoch_tags.specs.Links.{joiner_collector}
use Rattle.epoch_tags.specs.Messages.{asks, draineds, grants}
use Rattle.epoch_tags.specs.Posts.{joiner_msg, feeder_msg, controller_msg, collector_msg}
use Rattle.epoch_tags.specs.declared.actor.Actor.{Actor}
use Rattle.epoch_tags.specs.declared.actor.Actor.TheVariants.{Feeder, Joiner, Controller, Collector}
use Rattle.load_controller.specs.declared.line.TurnLine.{TurnLine}
use Rattle.trace_law.specs.Laws.{QuietIsFinished}
use Rattle.trace_law.specs.Family.{IsFinished, IsQuiet, feeder_start}
use Rattle.actor_core.specs.declared.cast.Cast.{Cast}
use Rattle.actor_core.specs.Lists.{ActorLists, feeder_lists}
use Rattle.actor_core.specs.Standing.{GoesOn, Stands, Waits}
use Rattle.actor_core.specs.Families.{AreFronts, IsActor, core_in, family_of, journal_of, start_for}
use Rattle.actor_core.specs.Numbers.{actor_at, at_number}
use Rattle.actor_core.specs.Elements.{IsSomeAt}
use Rattle.actor_core.specs.Players.{AllStand, is_complete_among, is_complete_at}
use Rattle.actor_core.specs.declared.machines.Core.{Core}
use Rattle.actor_core.specs.Tasks.{Task, IsTask, Agrees}
use Rattle.actor_core.proofs.CompleteAnswer.{complete_core, machines}
use Rattle.actor_core.proofs.Families.{agrees as agreeing, none_goes}
use Rattle.actor_core.proofs.OwnNumbers.{is_actor, number_there, some_is}
use Rattle.actor_core.proofs.Waiting.{waits_says}

module _ (task : Task) (cast : Cast) (cores : List Core) (f : Actor → ActorLists)
    (all : AllStand task cast cores f) (fronts : AreFronts f)
    (received : (from to : Actor) → HasLink task.setting.k task.setting.feeders from to
    → (f to).received from ≡ (f from).sent to)
    (waits : (p : ℕ) → p < task.setting.feeders → (core : Core) → core_in cast cores (Feeder p) ≡ Some core
    → Waits core) where
  abbrev journal : List TurnLine
  journal = journal_of (all.stands Controller tt).0

  abbrev cores_by_actor : (a : Actor) → IsActor task.setting a
      → (core : Core) × Stands (start_for task a) (f a) core
  cores_by_actor = machines task cast cores f all fronts

  abbrev agrees : Agrees task (family_of journal f)
  agrees = agreeing task f cores_by_actor fronts ⊥ (λ w. absurd w)

  none_begins : (p : ℕ) → p < task.setting.feeders
      → (0 < draineds (feeder_lists (f (Feeder p))).to_controller)
      ⊎ (grants (agrees.taken_by_feeder p) < asks (feeder_lists (f (Feeder p))).to_controller)
  none_begins p low =
      let own = all.stands (Feeder p) low in
      let start = feeder_start task.input task.setting task.rest p in
      let law = agrees.feeders p low in
      waits_says p task.setting.feeders start (f (Feeder p)) own.0 (agrees.taken_by_feeder p) own.2 law
      (waits p low own.0 own.1)

  quiet : IsQuiet task.input task.setting task.rest (family_of journal f) agrees
  quiet = record {
    feeder_joiner = λ p j low low'.
        ap (filter_map joiner_msg) (received (Feeder p) (Joiner j) (feeder_joiner low low'));
    joiner_joiner = λ i j link. ap (filter_map joiner_msg) (received (Joiner i) (Joiner j) link);
    controller_feeder = λ p low.
        ap (filter_map feeder_msg) (received Controller (Feeder p) (controller_feeder low));
    feeder_controller = λ p low.
        ap (filter_map controller_msg) (received (Feeder p) Controller (feeder_controller low));
    joiner_controller = λ j low.
        ap (filter_map controller_msg) (received (Joiner j) Controller (joiner_controller low));
    joiner_collector = λ j low.
        ap (filter_map collector_msg) (received (Joiner j) Collector (joiner_collector low));
    none_begins = none_begins;
  }

  module _ (law : QuietIsFinished) (is_task : IsTask task) where
    finished : IsFinished task.input task.setting task.rest (family_of journal f) agrees
    finished = law task.input task.setting task.rest (family_of journal f) is_task.valid is_task.begins agrees quiet

    -- the collector is complete
    pub still_complete : is_complete_among cast cores ≡ true
    still_complete =
        let own = all.stands Collector tt in
        ap is_complete_at own.1 ∙ complete_core (2 ^ task.setting.k) (f Collector) own.0 own.2 finished.collector

    none_at_work : IsSomeAt GoesOn cores → ⊥
    none_at_work some =
        let low = slice_get_within cores some.place some.there some.is in
        let a = actor_at cast some.place in
        let numbered = number_there cast some.place (subst (λ z. some.place < z) all.all low) in
        let is = is_actor task.setting cast a some.place all.cast_is numbered in
        let own = all.stands a is in
        let there : core_in cast cores a ≡ Some some.there =
        ap (λ (i : Option ℕ). at_number None i (λ n. slice_get cores n)) numbered ∙ some.is in
        let same = some_is some.there own.0 (sym there ∙ own.1) in
        none_goes task f cores_by_actor fronts ⊥ (λ w. absurd w) finished a is
        (subst GoesOn same some.holds)

    -- so who finds that some work goes on, or that none does, finds that none does
    pub still_is_done : (done : Bool) → (done ≡ false → IsSomeAt GoesOn cores) → done ≡ true
    still_is_done true goes = refl
    still_is_done false goes = absurd (none_at_work (goes refl))
