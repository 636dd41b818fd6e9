-- What finished seats leave and answer.
use Rattle.std.proofs.Common.{◌≡◌, ℕ, ◌≤◌, ◌^◌, refl, sym, ap, subst, ◌∙◌, true}
use Rattle.std.proofs.Common.{List}
use Rattle.std.proofs.Common.{◌∷◌, map, length}
use Rattle.std.specs.Prelude.{reverse}
use Rattle.std.proofs.lemmas.List.{length-map}
use mathlib.Core.Path.{fun_ext}
use Rattle.epoch_tags.specs.declared.actor.Actor.{Actor}
use Rattle.load_controller.specs.Standing.{ControllerState}
use Rattle.load_controller.specs.declared.line.TurnLine.{TurnLine}
use Rattle.pair_collector.specs.Law.{CollectorLists}
use Rattle.pair_collector.specs.Standing.{CollectorState, StandsFor as CollectorStands, is_complete}
use Rattle.trace_law.specs.declared.run.Run.{Run}
use Rattle.trace_law.specs.Laws.{AnswersInTheEnd, CompleteIsFinished, FinishedAnswers}
use Rattle.actor_core.specs.declared.cast.Cast.{Cast}
use Rattle.actor_core.specs.Endings.{AreLast, IsAnswerOf}
use Rattle.actor_core.specs.Families.{AreFronts}
use Rattle.actor_core.specs.Numbers.{count_of}
use Rattle.actor_core.specs.Leavings.{AreLeft}
use Rattle.actor_core.specs.Players.{IsFinishedFamily}
use Rattle.actor_core.specs.Rests.{IsRestOf}
use Rattle.actor_core.specs.Tasks.{IsRun, IsTask, Task}
use Rattle.actor_core.specs.declared.rests.Rest.{Rest as NextRest}
use Rattle.actor_core.proofs.CompleteAnswer.{agrees, collector_complete, complete_finished, journal_named, run_ends}
use Rattle.actor_core.proofs.NextRest.{complete_rest}
use Rattle.actor_core.proofs.Seats.{same_among}
use Rattle.join_runtime.specs.Views.{SeatView, frame_of, lists_of}
use Rattle.join_runtime.specs.Joins.{AreJoined}
use Rattle.join_runtime.specs.Bouts.{AllJoinBy, SeatsView, StandsFor, cores_in, lists_in}
use Rattle.join_runtime.specs.Endings.{EndsView, end_of, is_collected, journal_in, lists_left, lists_of_end}

-- ---- what is left of seats

-- the ends of seats
abbrev pub ends_in : SeatsView → EndsView
ends_in v = record { cast = v.cast; ends = map end_of v.seats }

-- they have the lists of their seats
pub ends_keep : (v : SeatsView) (a : Actor) → lists_left (ends_in v) a ≡ lists_in v a
ends_keep v = same_among end_of lists_of lists_of_end (λ s. refl) v.cast v.seats

module _ (v : SeatsView) (joined : AreJoined v.cast (map frame_of v.seats)) where
  -- there are as many seats as actors
  pub many_seats : length v.seats ≡ count_of v.cast
  many_seats = sym (length-map v.seats frame_of) ∙ joined.all

  many_cores : length (cores_in v) ≡ count_of v.cast
  many_cores = length-map v.seats (λ (s : SeatView). s.core) ∙ many_seats

  -- ---- the last two machines

  module _ (controller : ControllerState) (collector : CollectorState)
      (last : AreLast (cores_in v) controller collector) where
    -- the collector is complete
    pub complete_there : is_collected v ≡ true → is_complete collector ≡ true
    complete_there = collector_complete v.cast (cores_in v) many_cores controller collector last

    -- a run with that controller's journal has that of the seats
    pub told_journal : (run : Run) → run.journal ≡ controller.journal → run.journal ≡ journal_in v
    told_journal run is =
        is ∙ sym (journal_named v.cast (cores_in v) many_cores controller collector last)

    -- a complete collector ends the task
    module _ (law : CompleteIsFinished) (done : is_collected v ≡ true) (task : Task) (is_task : IsTask task)
        (stands : StandsFor task v) (fronts : AreFronts (lists_in v)) where
      task_ends : IsFinishedFamily task (journal_in v) (lists_in v)
      task_ends = complete_finished task v.cast (cores_in v) (lists_in v) stands fronts law is_task done

      -- so what its seats leave is a finished family of the task, with the journal of the run that is told
      pub told_family : (run : Run) → run.journal ≡ controller.journal → (e : EndsView)
          → ((a : Actor) → lists_left e a ≡ lists_in v a) → IsFinishedFamily task run.journal (lists_left e)
      told_family run is e same =
          subst (λ js. IsFinishedFamily task js (lists_left e)) (sym (told_journal run is))
          (subst (IsFinishedFamily task (journal_in v)) (sym (fun_ext same)) task_ends)

      -- and what its controller and its collector answer is a run of the task
      pub told_run : (run : Run) → FinishedAnswers → (bouts : ℕ)
          → ((joiners : ℕ) (ls : CollectorLists) → CollectorStands joiners ls collector
          → IsAnswerOf joiners ls controller.journal bouts run)
          → IsRun task run.journal run
      told_run run answers_law bouts answers =
          run_ends answers_law task v.cast (cores_in v) (lists_in v) is_task stands task_ends controller collector
          last bouts run answers

      -- and what its machines leave stands for the input
      pub told_rest : AnswersInTheEnd → AllJoinBy task.input.theta v → (next : NextRest)
          → AreLeft v.cast.feeders (cores_in v) next.stores controller collector
          → ((k : ℕ) → k ≤ 8 → v.cast.joiners ≡ 2 ^ k → next.k ≡ k)
          → ((l : TurnLine) (past : List TurnLine) → reverse controller.journal ≡ l ∷ past → next.line ≡ l)
          → IsRestOf task.input task.setting next
      told_rest answers_law joins next left grid is_last =
          let agreed = (agrees task v.cast (cores_in v) (lists_in v) stands fronts).controller in
          let named = journal_named v.cast (cores_in v) many_cores controller collector last in
          let same : next.line ≡ agreed.line =
          is_last agreed.line agreed.past (ap reverse (sym named) ∙ agreed.journal) in
          complete_rest answers_law task v.cast (cores_in v) (lists_in v) is_task stands fronts law done joins
          next.stores controller collector left next.k next.line agreed.past
          (grid task.setting.k is_task.valid.small (ap (λ (cast : Cast). cast.joiners) stands.cast_is))
          (agreed.journal ∙ ap (λ l. l ∷ agreed.past) (sym same))
