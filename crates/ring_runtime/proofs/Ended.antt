-- What finished seats over rings leave and answer.
use Rattle.std.proofs.Common.{◌≡◌, ℕ, refl, sym, subst, ◌∙◌, true}
use Rattle.std.proofs.Common.{map, length}
use Rattle.std.proofs.lemmas.List.{length-map}
use mathlib.Core.Path.{fun_ext}
use Rattle.epoch_tags.specs.declared.actor.Actor.{Actor}
use Rattle.load_controller.specs.Standing.{ControllerState}
use Rattle.pair_collector.specs.Law.{CollectorLists}
use Rattle.pair_collector.specs.Standing.{CollectorState, StandsFor as CollectorStands, is_complete}
use Rattle.trace_law.specs.declared.run.Run.{Run}
use Rattle.trace_law.specs.Laws.{CompleteIsFinished, FinishedAnswers}
use Rattle.actor_core.specs.Endings.{AreLast, IsAnswerOf}
use Rattle.actor_core.specs.Families.{AreFronts}
use Rattle.actor_core.specs.Numbers.{count_of}
use Rattle.actor_core.specs.Players.{IsFinishedFamily}
use Rattle.actor_core.specs.Tasks.{Task, IsTask, IsRun}
use Rattle.actor_core.proofs.CompleteAnswer.{collector_complete, complete_finished, journal_named, run_ends}
use Rattle.actor_core.proofs.Seats.{same_among}
use Rattle.ring_runtime.specs.Seats.{RingSeatView, frame_of, lists_of}
use Rattle.ring_runtime.specs.Joins.{AreWired}
use Rattle.ring_runtime.specs.Bouts.{RingSeatsView, StandsFor, cores_in, is_collected, journal_in, lists_in}
use Rattle.ring_runtime.specs.Endings.{RingEndsView, end_of, lists_left, lists_of_end}
use Rattle.ring_runtime.proofs.RingLists.{many}

-- ---- what is left of seats

-- the ends of seats
abbrev pub ends_in : RingSeatsView → RingEndsView
ends_in v = record { cast = v.cast; ends = map end_of v.seats }

-- they have the lists of their seats
pub ends_keep : (v : RingSeatsView) (a : Actor) → lists_left (ends_in v) a ≡ lists_in v a
ends_keep v = same_among end_of lists_of lists_of_end (λ s. refl) v.cast v.seats

module _ (v : RingSeatsView) (wired : AreWired v.cast (map frame_of v.seats)) where
  many_cores : length (cores_in v) ≡ count_of v.cast
  many_cores = length-map v.seats (λ (s : RingSeatView). s.core) ∙ many v.cast v.seats wired

  -- ---- the last two machines

  module _ (controller : ControllerState) (collector : CollectorState)
      (last : AreLast (cores_in v) controller collector) where
    -- the collector is complete
    pub complete_there : is_collected v ≡ true → is_complete collector ≡ true
    complete_there = collector_complete v.cast (cores_in v) many_cores controller collector last

    -- a run with that controller's journal has that of the seats
    pub told_journal : (run : Run) → run.journal ≡ controller.journal → run.journal ≡ journal_in v
    told_journal run is =
        is ∙ sym (journal_named v.cast (cores_in v) many_cores controller collector last)

    -- a complete collector ends the run
    module _ (law : CompleteIsFinished) (done : is_collected v ≡ true) (task : Task)
        (is_task : IsTask task) (stands : StandsFor task v) (fronts : AreFronts (lists_in v))
        (run : Run) where
      family_ends : IsFinishedFamily task (journal_in v) (lists_in v)
      family_ends =
          complete_finished task v.cast (cores_in v) (lists_in v) stands fronts law is_task done

      -- so what the seats leave is a finished family, with the journal of the run that is told
      pub told_family : run.journal ≡ controller.journal → (e : RingEndsView)
          → ((a : Actor) → lists_left e a ≡ lists_in v a) → IsFinishedFamily task run.journal (lists_left e)
      told_family is e same =
          subst (λ js. IsFinishedFamily task js (lists_left e)) (sym (told_journal run is))
          (subst (IsFinishedFamily task (journal_in v)) (sym (fun_ext same)) family_ends)

      -- and what the controller and the collector answer is a run of the task
      pub told_run : FinishedAnswers → (bouts : ℕ)
          → ((joiners : ℕ) (ls : CollectorLists) → CollectorStands joiners ls collector
          → IsAnswerOf joiners ls controller.journal bouts run)
          → IsRun task run.journal run
      told_run answers_law bouts answers =
          run_ends answers_law task v.cast (cores_in v) (lists_in v) is_task stands family_ends
          controller collector last bouts run answers
