-- Where some actor of a run made an event, the lists count one more; so events are few.
use Rattle.std.proofs.Common.{◌≡◌, ℕ, zero, suc, ◌+◌, ◌-◌, ◌<◌, ◌≤◌, refl, sym, ap, subst, ◌∙◌, cond, Option, Some}
use Rattle.std.proofs.Common.{None, List, [], ◌∷◌, ◌++◌, length, append_assoc, arith}
use Rattle.std.specs.List.{AllByRecursion}
use Rattle.row_cells.specs.Lists.{IsPrefix}
use Rattle.row_cells.proofs.Everywhere.{all-append}
use Rattle.epoch_tags.specs.declared.actor.Actor.{Actor}
use Rattle.epoch_tags.specs.declared.actor.Actor.TheVariants.{Feeder, Joiner, Controller, Collector}
use Rattle.epoch_tags.specs.declared.message.Msg.{Msg}
use Rattle.epoch_tags.specs.declared.message.Post.{Post}
use Rattle.epoch_tags.specs.Posts.{posted_to_controller}
use Rattle.load_controller.specs.declared.line.TurnLine.{TurnLine}
use Rattle.trace_law.specs.declared.setting.Setting.{Setting}
use Rattle.trace_law.specs.Laws.{EventsAreFew}
use Rattle.trace_law.specs.Family.{migrations}
use Rattle.actor_core.specs.declared.cast.Cast.{Cast}
use Rattle.actor_core.specs.Lists.{ActorLists, Cause, Took, Began, no_lists, posted_to, with_event}
use Rattle.actor_core.specs.Standing.{Event, GoOut, Stands, Waits}
use Rattle.actor_core.specs.Families.{AreFronts, IsActor, family_of, start_for}
use Rattle.trace_law.specs.MostEvents.{most_events}
use Rattle.actor_core.specs.Numbers.{number}
use Rattle.actor_core.specs.Players.{AllStand, AreLinked, IsLinked, MayBegin, Player, Runs}
use Rattle.actor_core.specs.declared.machines.Core.{Core}
use Rattle.actor_core.specs.declared.machines.Core.TheVariants.{Feeder as TheFeeder, Joiner as TheJoiner}
use Rattle.actor_core.specs.declared.machines.Core.TheVariants.{Controller as TheController, Collector as TheCollector}
use Rattle.actor_core.specs.Tasks.{Task, IsTask, Agrees}
use Rattle.actor_core.proofs.OwnNumbers.{is_actor, same_self, some_is}
use Rattle.actor_core.proofs.EventCounts.{beginning_counts, count, left_linked, linked_after}
use Rattle.actor_core.proofs.EventCounts.{taking_counts}
use Rattle.actor_core.proofs.Runs.{Grows, prefix_self, runs_grow, runs_stand}
use Rattle.actor_core.proofs.Seated.{AllRelate, HasRun, Relates, all_grow}

-- ---- one actor of a task

-- an actor that begins is a feeder
begins_feeder : (task : Task) (a : Actor) (ls : ActorLists) (core : Core) → IsActor task.setting a
    → Stands (start_for task a) ls core → (¬ Waits core) → (p : ℕ) × (a ≡ Feeder p) × (p < task.setting.feeders)
begins_feeder task (Feeder p) ls core is st free = (p, refl, is)
begins_feeder task (Joiner j) ls (TheFeeder f) is st free = absurd st
begins_feeder task (Joiner j) ls (TheJoiner c) is st free = absurd (free tt)
begins_feeder task (Joiner j) ls (TheController c) is st free = absurd (free tt)
begins_feeder task (Joiner j) ls (TheCollector c) is st free = absurd (free tt)
begins_feeder task Controller ls (TheFeeder f) is st free = absurd st
begins_feeder task Controller ls (TheJoiner c) is st free = absurd (free tt)
begins_feeder task Controller ls (TheController c) is st free = absurd (free tt)
begins_feeder task Controller ls (TheCollector c) is st free = absurd (free tt)
begins_feeder task Collector ls (TheFeeder f) is st free = absurd st
begins_feeder task Collector ls (TheJoiner c) is st free = absurd (free tt)
begins_feeder task Collector ls (TheController c) is st free = absurd (free tt)
begins_feeder task Collector ls (TheCollector c) is st free = absurd (free tt)

module _ (task : Task) (a : Actor) (is : IsActor task.setting a) where
  -- ---- what it sends goes over links

  posts_linked : (cause : Cause) (posts : List Post) → GoOut (start_for task a) posts
      → (to : Actor) → AllByRecursion (IsLinked task.setting a to) (posted_to to posts)
  posts_linked cause posts out to =
      let all = linked_after task a cause posts (λ b. no_lists) (λ from to'. tt) is out a to in
      subst
      (λ c. AllByRecursion (IsLinked task.setting a to) ((cond c (with_event cause posts no_lists) no_lists).sent to))
      (same_self a) all

  runs_linked : (n : ℕ) (s t : Player) → Runs n s t → Stands (start_for task a) s.lists s.core
      → (to : Actor)
      → AllByRecursion (IsLinked task.setting a to) (s.lists.sent to)
      → AllByRecursion (IsLinked task.setting a to) (t.lists.sent to)
  runs_linked zero s t runs st to linked =
      subst (λ (p : Player). AllByRecursion (IsLinked task.setting a to) (p.lists.sent to)) (sym runs) linked
  runs_linked (suc n) s t runs st to linked =
      let middle = runs.0 in
      let event = runs.2 in
      let stood = runs_stand n s middle runs.1 (start_for task a) st in
      let out = event.event.over (start_for task a) middle.lists stood in
      subst (λ (ls : ActorLists). AllByRecursion (IsLinked task.setting a to) (ls.sent to)) (sym event.lists)
      (all-append (IsLinked task.setting a to) (middle.lists.sent to) (posted_to to event.posts)
      (runs_linked n s middle runs.1 st to linked) (posts_linked event.cause event.posts out to))

  -- ---- one event is one more

  -- it made some events and then one more, the others' lists growing
  module _ (n : ℕ) (s t : Player) (runs : Runs (suc n) s t)
      (st : Stands (start_for task a) s.lists s.core)
      (before after : Actor → ActorLists) (first : before a ≡ s.lists) (last : after a ≡ t.lists)
      (grow : (b : Actor) → Grows (before b) (after b)) (linked : AreLinked task.setting after)
      (fronts : AreFronts after) where
    abbrev middle : Player
    middle = runs.0

    up : Grows (before a) middle.lists
    up = subst (λ ls. Grows ls middle.lists) (sym first) (runs_grow n s middle runs.1)

    took_more : (from : Actor) (m : Msg) (posts : List Post) → t.lists ≡ with_event (Took from m) posts middle.lists
        → count task.setting before + 1 ≤ count task.setting after
    took_more from m posts lists =
        let between = middle.lists.received from in
        let front = fronts from a in
        let got : (after a).received from ≡ between ++ m ∷ [] =
        ap (λ (ls : ActorLists). ls.received from) (last ∙ lists)
        ∙ ap (λ c. cond c (between ++ m ∷ []) between) (same_self from) in
        let whole : between ++ m ∷ front.rest ≡ (after from).sent a =
        sym (append_assoc between (m ∷ []) front.rest) ∙ (ap (λ ms. ms ++ front.rest) (sym got) ∙ front.joins) in
        let link = left_linked task.setting from a between front.rest ((after from).sent a) m whole (linked from a) in
        taking_counts task.setting before after grow from a m between link.0 is link.1 (up.received from)
        (prefix_self (between ++ m ∷ []) ((after a).received from) got)

    began_more : (posts : List Post) → t.lists ≡ with_event Began posts middle.lists → (¬ Waits middle.core)
        → length (posted_to_controller posts) ≡ 1 → count task.setting before + 1 ≤ count task.setting after
    began_more posts lists free asks =
        let stood = runs_stand n s middle runs.1 (start_for task a) st in
        let feeder = begins_feeder task a middle.lists middle.core is stood free in
        let between = middle.lists.sent Controller in
        let sent = between ++ posted_to Controller posts in
        let same = ap (λ (ls : ActorLists). ls.sent Controller) (last ∙ lists) in
        let got = prefix_self sent ((after a).sent Controller) same in
        beginning_counts task.setting before after grow feeder.0 posts between feeder.2 asks
        (subst (λ z. IsPrefix ((before z).sent Controller) between) feeder.1 (up.sent Controller))
        (subst (λ z. IsPrefix sent ((after z).sent Controller)) feeder.1 got)

    more : (cause : Cause) (posts : List Post) → Event cause middle.core t.core posts → MayBegin cause middle.core
        → t.lists ≡ with_event cause posts middle.lists → count task.setting before + 1 ≤ count task.setting after
    more (Took from m) posts event free lists = took_more from m posts lists
    more Began posts event free lists = began_more posts lists free event.asks

    runs_count : count task.setting before + 1 ≤ count task.setting after
    runs_count =
        let event = runs.2 in more event.cause event.posts event.event event.free event.lists

-- ---- lists that count so many events

-- these lists go over links, and count so many events at least
pub record IsCounted (setting : Setting) (f : Actor → ActorLists) (n : ℕ) : Type 0 where
  pub linked : AreLinked setting f
  pub enough : n ≤ count setting f

-- empty lists count none
pub none_counted : (setting : Setting) (f : Actor → ActorLists) → ((a : Actor) → f a ≡ no_lists) → IsCounted setting f 0
none_counted setting f empty = record {
  linked = λ from to.
      subst (λ (ls : ActorLists). AllByRecursion (IsLinked setting from to) (ls.sent to)) (sym (empty from)) tt;
  enough = omega arith;
}

-- at least one event
pub record HasMadeSome (old new : Player) : Type 0 where
  pub before : ℕ
  pub runs : Runs (suc before) old new

-- each actor of a task made some events
module _ (task : Task) (cast : Cast) (old new : List Core) (f g : Actor → ActorLists)
    (stands : AllStand task cast old f)
    (all : AllRelate HasRun cast old new f g) where
  -- the machine that the actor of a number had
  stood : (a : Actor) (n : ℕ) → number cast a ≡ Some n → (R : Player → Player → Type 0)
      (own : Relates R cast old new f g a)
      → IsActor task.setting a × Stands (start_for task a) (f a) own.before
  stood a n is R own =
      let actor = is_actor task.setting cast a n stands.cast_is is in
      let st = stands.stands a actor in
      let same = some_is st.0 own.before (sym st.1 ∙ own.was) in
      (actor, subst (λ core. Stands (start_for task a) (f a) core) same st.2)

  -- what is sent goes over links still
  pub still_linked : AreLinked task.setting f → AreLinked task.setting g
  still_linked linked from to = go (number cast from) refl
    where
      go : (o : Option ℕ) → number cast from ≡ o
          → AllByRecursion (IsLinked task.setting from to) ((g from).sent to)
      go None is =
          subst (λ (ls : ActorLists). AllByRecursion (IsLinked task.setting from to) (ls.sent to))
          (sym (all.others from is)) (linked from to)
      go (Some n) is =
          let own = all.each from n is in
          let st = stood from n is HasRun own in
          let before : Player = record { core = own.before; lists = f from } in
          let after : Player = record { core = own.after; lists = g from } in
          runs_linked task from st.0 own.holds.count before after own.holds.runs st.1 to (linked from to)

  -- where one of them made an event, the lists count one more
  pub counted_more : (a : Actor) (place : ℕ) → number cast a ≡ Some place
      → Relates HasMadeSome cast old new f g a → AreFronts g
      → (n n' : ℕ) → n' ≤ n + 1 → IsCounted task.setting f n → IsCounted task.setting g n'
  counted_more a place is own fronts n n' few counted =
      let st = stood a place is HasMadeSome own in
      let linked = still_linked counted.linked in
      let before : Player = record { core = own.before; lists = f a } in
      let after : Player = record { core = own.after; lists = g a } in
      let grow = all_grow cast old new f g all in
      let made = own.holds in
      let more =
      runs_count task a st.0 made.before before after made.runs st.1 f g refl refl grow linked fronts in
      let enough = counted.enough in
      record { linked = linked; enough = omega (arith, few, more, enough) }

-- ---- so they are few

-- the lists of an agreeing family count no more events than its journal allows
pub few_events : EventsAreFew → (task : Task) → IsTask task → (journal : List TurnLine) (f : Actor → ActorLists)
    → Agrees task (family_of journal f)
    → (n : ℕ) → IsCounted task.setting f n → n ≤ most_events task.input task.setting (migrations task.rest.line journal)
few_events few task is_task journal f agrees n counted =
    let most : count task.setting f ≤ most_events task.input task.setting (migrations task.rest.line journal) =
    few task.input task.setting task.rest (family_of journal f) is_task.valid is_task.begins agrees in
    let enough = counted.enough in
    omega (arith, most, enough)
