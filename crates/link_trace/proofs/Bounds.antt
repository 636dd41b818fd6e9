-- A world's events are those that its lists count, and so they are few.
use Rattle.std.proofs.Common.{◌≡◌, ℕ, zero, suc, ◌+◌, ◌^◌, ◌<◌, ◌≤◌, ◌-◌, refl, sym, subst, ◌∷◌, ◌++◌, List, arith}
use Rattle.epoch_tags.specs.declared.actor.Actor.{Actor}
use Rattle.epoch_tags.specs.declared.actor.Actor.TheVariants.{Feeder}
use Rattle.load_controller.specs.Journal.{last_epoch}
use Rattle.load_controller.specs.declared.line.TurnLine.{TurnLine}
use Rattle.trace_law.specs.declared.input.Input.{Input}
use Rattle.trace_law.specs.declared.setting.Setting.{Setting}
use Rattle.trace_law.specs.declared.run.Run.{Run}
use Rattle.trace_law.specs.MostEvents.{most_events}
use Rattle.trace_law.specs.Family.{first_rest, migrations}
use Rattle.trace_law.specs.Laws.{EventsAreFew}
use Rattle.trace_law.specs.Validity.{IsValidInput, IsValidSetting}
use Rattle.actor_core.specs.Lists.{ActorLists, Cause, Took, Began, no_lists}
use Rattle.actor_core.specs.Families.{after_event}
use Rattle.actor_core.specs.Counts.{EventsFit}
use Rattle.actor_core.specs.Tasks.{Task, IsTask}
use Rattle.actor_core.proofs.EventCounts.{count, took_counts, began_counts, linked_after, left_linked}
use Rattle.actor_core.proofs.EventsFit.{under}
use Rattle.actor_core.proofs.EventsCounted.{IsCounted, few_events, none_counted}
use Rattle.link_trace.specs.declared.slots.Slot.{Slot}
use Rattle.link_trace.specs.declared.slots.Slot.TheVariants.{Begin, Link}
use Rattle.link_trace.specs.Worlds.{WorldState, StandsFor, MakesEvent, journal_in}
use Rattle.link_trace.specs.Order.{Happens}
use Rattle.link_trace.proofs.WorldAnswer.{agree}

-- it stands for lists of this task that count so many events
pub record IsReached (task : Task) (n : ℕ) (w : WorldState) : Type 0 where
  pub lists : Actor → ActorLists
  pub stands : StandsFor task w lists
  pub counted : IsCounted task.setting lists n

module _ (task : Task) where
  -- an event that the lists count is one more
  event_reached : (self : Actor) (cause : Cause) (n : ℕ) (old new : WorldState) (made : MakesEvent self cause old new)
      (before : IsReached task n old)
      → count task.setting before.lists + 1 ≤ count task.setting (after_event self cause made.posts before.lists)
      → IsReached task (suc n) new
  event_reached self cause n old new made before more =
      let out = made.over task before.lists before.stands in
      let enough = before.counted.enough in
      record {
        lists = after_event self cause made.posts before.lists;
        stands = made.stands task before.lists before.stands;
        counted = record {
          linked = linked_after task self cause made.posts before.lists before.counted.linked out.0 out.1;
          enough = omega arith;
        };
      }

  -- each event of a world is one more
  pub slot_reached : (slot : Slot) (n : ℕ) (old new : WorldState) → Happens slot old new → IsReached task n old
      → IsReached task (suc n) new
  slot_reached (Begin p) n old new happens before =
      let made = happens.1 in
      let out = made.over task before.lists before.stands in
      event_reached (Feeder p) Began n old new made before
      (began_counts task.setting p made.posts before.lists out.0 made.asks)
  slot_reached (Link from to) n old new delivers before =
      let made = delivers.event in
      let lists = before.lists in
      let out = made.over task lists before.stands in
      let received = (lists to).received from in
      let sent = (lists from).sent to in
      let whole : received ++ delivers.m ∷ delivers.rest ≡ sent =
      subst (λ l. received ++ l ≡ sent) delivers.first (before.stands.balanced from to) in
      let linked = before.counted.linked from to in
      let link = left_linked task.setting from to received delivers.rest sent delivers.m whole linked in
      event_reached to (Took from delivers.m) n old new made before
      (took_counts task.setting from to delivers.m made.posts lists link.0 out.0 link.1)

  -- a new world has made none
  pub none_reached : (w : WorldState) → StandsFor task w (λ actor. no_lists) → IsReached task zero w
  none_reached w stands = record {
    lists = λ actor. no_lists;
    stands = stands;
    counted = none_counted task.setting (λ actor. no_lists) (λ a. refl);
  }

  module _ (is_task : IsTask task) (few : EventsAreFew) (n : ℕ) (w : WorldState) (reached : IsReached task n w) where
    -- they are no more than its journal allows
    few_reached : n ≤ most_events task.input task.setting (migrations task.rest.line (journal_in w))
    few_reached =
        few_events few task is_task (journal_in w) reached.lists (agree task w reached.lists reached.stands) n
        reached.counted

    -- so a number of 64 bits counts them
    pub counts_on : EventsFit → IsValidInput task.input → IsValidSetting task.setting → n < 2 ^ 64 - 1
    counts_on fits of_input of_setting =
        under n (most_events task.input task.setting (migrations task.rest.line (journal_in w))) (2 ^ 64 - 1)
        few_reached
        (fits task (journal_in w) reached.lists of_input of_setting is_task.begins
        (agree task w reached.lists reached.stands))

    -- and a run with as many bouts and the journal of its controller is within the bound
    pub bounded : (run : Run) → run.journal ≡ journal_in w → run.bouts ≡ n
        → run.bouts ≤ most_events task.input task.setting (migrations task.rest.line run.journal)
    bounded run told bouts =
        subst (λ z. z ≤ most_events task.input task.setting (migrations task.rest.line run.journal)) (sym bouts)
        (subst (λ js. n ≤ most_events task.input task.setting (migrations task.rest.line js)) (sym told) few_reached)

-- the migrations of a run, whose first epoch is 0, are its last epoch
pub run_bounded : (input : Input) (setting : Setting) (journal : List TurnLine) (n : ℕ)
    → n ≤ most_events input setting (migrations (first_rest setting).line journal)
    → n ≤ most_events input setting (last_epoch journal)
run_bounded input setting journal n few =
    let all : last_epoch journal - 0 ≡ last_epoch journal = omega arith in
    subst (λ e. n ≤ most_events input setting e) all few
