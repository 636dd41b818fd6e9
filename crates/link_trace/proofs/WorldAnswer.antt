-- What a world stands for: an agreeing family, finished where the work of all is over, or where nothing is left.
use Rattle.std.specs.Prelude.{reverse}
use Rattle.std.proofs.Common.{◌≡◌, ℕ, sym, ap, ◌∙◌, Bool, true, false, List, ◌∷◌}
use Rattle.epoch_tags.specs.declared.actor.Actor.{Actor}
use Rattle.load_controller.specs.declared.line.TurnLine.{TurnLine}
use Rattle.load_controller.specs.Standing.{ControllerState}
use Rattle.store_parts.specs.Stored.{Stored}
use Rattle.pair_collector.specs.Law.{CollectorLists}
use Rattle.pair_collector.specs.Standing.{CollectorState, StandsFor as CollectorStands}
use Rattle.trace_law.specs.declared.run.Run.{Run}
use Rattle.trace_law.specs.Laws.{AnswersInTheEnd, FinishedAnswers, QuietIsFinished}
use Rattle.actor_core.specs.Lists.{ActorLists}
use Rattle.actor_core.specs.Standing.{GoesOn, IsOver}
use Rattle.actor_core.specs.Families.{AreFronts}
use Rattle.actor_core.specs.Elements.{IsAllAt, IsSomeAt}
use Rattle.actor_core.specs.Endings.{AreLast, IsAnswerOf}
use Rattle.actor_core.specs.Leavings.{AreLeft}
use Rattle.actor_core.specs.Rests.{IsRestOf}
use Rattle.actor_core.specs.Tasks.{Task, IsTask, IsRun}
use Rattle.actor_core.proofs.Balances.{balanced_fronts, none_left}
use Rattle.actor_core.proofs.CompleteAnswer.{agrees, journal_named, over_finished, run_ends}
use Rattle.actor_core.proofs.NextRest.{next_rest}
use Rattle.actor_core.proofs.Stilled as stilled
use Rattle.link_trace.specs.Worlds.{WorldState, AllJoinBy, StandsFor, IsStill, WorldAgrees, left_of}

-- its lists agree
pub agree : WorldAgrees
agree task w lists stands =
    agrees task w.cast w.cores lists stands.machines (balanced_fronts lists (left_of w) stands.balanced)

module _ (task : Task) (w : WorldState) (lists : Actor → ActorLists) (stands : StandsFor task w lists) where
  fronts : AreFronts lists
  fronts = balanced_fronts lists (left_of w) stands.balanced

  -- where nothing is left, and no feeder would begin, who finds that some work goes on, or that none does, finds none
  pub still_is_done : IsStill task.setting w → QuietIsFinished → IsTask task
      → (done : Bool) → (done ≡ false → IsSomeAt GoesOn w.cores) → done ≡ true
  still_is_done still law is_task =
      stilled.still_is_done task w.cast w.cores lists stands.machines fronts
      (λ from to link. none_left lists (left_of w) stands.balanced from to (still.links from to link))
      still.waits law is_task

  module _ (controller : ControllerState) (collector : CollectorState)
      (last : AreLast w.cores controller collector) where
    -- the last two machines answer its run, where the work of all is over
    pub ends : FinishedAnswers → IsTask task → IsAllAt IsOver w.cores → (bouts : ℕ) (run : Run)
        → ((joiners : ℕ) (ls : CollectorLists) → CollectorStands joiners ls collector
        → IsAnswerOf joiners ls controller.journal bouts run)
        → IsRun task run.journal run
    ends law is_task over =
        run_ends law task w.cast w.cores lists is_task stands.machines
        (over_finished task w.cast w.cores lists stands.machines fronts over)
        controller collector last

    -- and what the machines leave, with the last line of the journal, stands for the input
    pub leaves : AnswersInTheEnd → IsTask task → IsAllAt IsOver w.cores → AllJoinBy task.input.theta w
        → (k : ℕ) (line : TurnLine) (stores : List Stored)
        → AreLeft w.cast.feeders w.cores stores controller collector → k ≡ task.setting.k
        → ((l : TurnLine) (past : List TurnLine) → reverse controller.journal ≡ l ∷ past → line ≡ l)
        → IsRestOf task.input task.setting (record { k = k; line = line; stores = stores })
    leaves law is_task over joins k line stores left grid is_last =
        let agreed = (agree task w lists stands).controller in
        let named = journal_named w.cast w.cores stands.machines.all controller collector last in
        let same : line ≡ agreed.line =
        is_last agreed.line agreed.past (ap reverse (sym named) ∙ agreed.journal) in
        next_rest law task w.cast w.cores lists is_task stands.machines fronts over joins stores controller collector
        left k line agreed.past grid (agreed.journal ∙ ap (λ l. l ∷ agreed.past) (sym same))
