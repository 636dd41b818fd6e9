-- A run over rings between two bouts: two bouts have made an event at least, so bouts are few.
use Rattle.std.proofs.Common.{◌≡◌, ℕ, ◌+◌, ◌-◌, ◌*◌, ◌^◌, ◌<◌, ◌≤◌, ◌⊎◌, inl, inr, refl, sym, ap, subst, ◌∙◌}
use Rattle.std.proofs.Common.{Bool, true, false, true≢false, Some, List, get_or, length, Result, Ok}
use Rattle.std.proofs.Common.{Err, arith}
use Rattle.std.specs.Prelude.{IfOk}
use Rattle.std.specs.declared.alloc.AllocError.{AllocError}
use Rattle.std.proofs.Math.Nat.{mul_assoc}
use Rattle.std.proofs.lemmas.Bool.{lt-ltb}
use Rattle.std.proofs.lemmas.List.{length-map}
use mathlib.Core.Path.{fun_ext}
use Rattle.row_cells.specs.declared.table.Side.TheVariants.{R, S}
use Rattle.epoch_tags.specs.Messages.{grants}
use Rattle.epoch_tags.specs.declared.actor.Actor.{Actor}
use Rattle.epoch_tags.specs.declared.actor.Actor.TheVariants.{Feeder}
use Rattle.reshuffler_core.specs.Law.{FeederStart}
use Rattle.load_controller.specs.declared.line.TurnLine.{TurnLine}
use Rattle.trace_law.specs.Family.{feeder_start, migrations}
use Rattle.trace_law.specs.Join.{row_count}
use Rattle.trace_law.specs.Laws.{EventsAreFew, KeepsALawfulJournal, LawfulIsBounded}
use Rattle.trace_law.specs.Validity.{IsValidInput, IsValidSetting}
use Rattle.trace_law.specs.MostEvents.{most_events}
use Rattle.actor_core.specs.declared.cast.Cast.{Cast}
use Rattle.actor_core.specs.Families.{AreFronts, family_of, start_for}
use Rattle.actor_core.specs.Lists.{ActorLists, no_lists}
use Rattle.actor_core.specs.Numbers.{actor_at, count_of, number}
use Rattle.actor_core.specs.Players.{AgreesOnLinks, IsFinishedFamily, lists_among}
use Rattle.actor_core.specs.Standing.{OfFeeder, Stands, Waits}
use Rattle.actor_core.specs.declared.machines.Core.{Core}
use Rattle.actor_core.specs.declared.machines.Core.TheVariants.{Feeder as TheFeeder, Joiner as TheJoiner}
use Rattle.actor_core.specs.declared.machines.Core.TheVariants.{Controller as TheController, Collector as TheCollector}
use Rattle.actor_core.specs.Tasks.{Task, IsTask, Agrees}
use Rattle.actor_core.proofs.Balances.{fronts_none}
use Rattle.actor_core.proofs.Beginnings.{there}
use Rattle.actor_core.proofs.CompleteAnswer.{agrees as agreeing}
use Rattle.actor_core.proofs.EventsFit.{under}
use Rattle.actor_core.proofs.EventsCounted.{HasMadeSome, IsCounted, counted_more, few_events, none_counted}
use Rattle.actor_core.proofs.OwnNumbers.{number_there, some_is}
use Rattle.actor_core.proofs.Seated.{core_there, relate}
use Rattle.ring_runtime.specs.Seats.{RingSeatView, lists_of, player_of}
use Rattle.ring_runtime.specs.Bouts.{AllAdvance, IsReady, RingSeatsView, SomeEvent, SomeSeat, StandsFor, cores_in}
use Rattle.ring_runtime.specs.Bouts.{journal_in, lists_in}
use Rattle.ring_runtime.specs.Runs.{most_bouts, orders_in}
use Rattle.ring_runtime.proofs.BoutsFit.{bouts_fit}
use Rattle.ring_runtime.proofs.OrdersSent.{orders_are}
use Rattle.ring_runtime.proofs.RingBouts.{StaySame, lists_same, ran, some_or_same}

-- ---- before the first bout

-- a feeder that has sent nothing would begin
first_begins : (p feeders : ℕ) (s : FeederStart) (core : Core) → Stands (OfFeeder p feeders s) no_lists core
    → ¬ Waits core
first_begins p feeders s (TheFeeder f) st (inl asked) =
    let more : 0 ≡ grants st.taken + 1 = st.asked.0 asked in absurd (omega (arith, more))
first_begins p feeders s (TheFeeder f) st (inr drained) =
    let some : 0 < 0 = st.drained.0 drained in absurd (omega (arith, some))
first_begins p feeders s (TheJoiner c) st waits = absurd st
first_begins p feeders s (TheController c) st waits = absurd st
first_begins p feeders s (TheCollector c) st waits = absurd st

first_number : (cast : Cast) → 0 < cast.feeders → number cast (Feeder 0) ≡ Some 0
first_number cast some = rw (lt-ltb 0 cast.feeders some) refl

module _ (task : Task) (some : 0 < task.setting.feeders) (v : RingSeatsView)
    (stands : StandsFor task v) (empty : (a : Actor) → lists_in v a ≡ no_lists) where
  -- so the first seat is ready
  begins_ready : SomeSeat IsReady v.seats
  begins_ready =
      let own = stands.stands (Feeder 0) some in
      let all = sym (length-map v.seats (λ (s : RingSeatView). s.core)) ∙ stands.all in
      let low : 0 < length v.seats = omega (arith, all) in
      let numbered =
      first_number v.cast (subst (λ c. 0 < c.feeders) (sym stands.cast_is) some) in
      let st = subst (λ ls. Stands (start_for task (Feeder 0)) ls own.0) (empty (Feeder 0)) own.2 in
      let free =
      first_begins 0 task.setting.feeders (feeder_start task.input task.setting task.rest 0) own.0 st in
      record {
        place = 0;
        there = low;
        holds = λ d.
            let here =
            core_there (λ (s : RingSeatView). s.core) v.cast v.seats (Feeder 0) 0 d numbered low in
            let same = some_is own.0 (get_or v.seats 0 d).core (sym own.1 ∙ here) in
            inr (subst (λ core. ¬ Waits core) same free);
      }

-- ---- between two bouts

-- these bouts are fewer than two for each of these events; or as many, and some seat is ready, so the next makes one
abbrev IsPaced : List RingSeatView → ℕ → ℕ → Type 0
IsPaced seats bouts events = (bouts + 1 ≤ 2 * events) ⊎ (SomeSeat IsReady seats × (bouts ≤ 2 * events))

paced_few : (seats : List RingSeatView) (bouts events : ℕ) → IsPaced seats bouts events → bouts ≤ 2 * events
paced_few seats bouts events (inl few) = omega (arith, few)
paced_few seats bouts events (inr both) = both.1

-- the seats stand for the task, and so many bouts were made
pub record IsUnderWay (task : Task) (v : RingSeatsView) (bouts : ℕ) : Type 0 where
  pub stands : StandsFor task v
  pub fronts : AreFronts (lists_in v)
  pub events : ℕ
  pub counted : IsCounted task.setting (lists_in v) events
  pub paced : IsPaced v.seats bouts events

-- before the first bout, seats that stand for empty lists are under way
pub begun : (task : Task) (v : RingSeatsView) → 0 < task.setting.feeders → StandsFor task v
    → ((a : Actor) → lists_in v a ≡ no_lists) → IsUnderWay task v 0
begun task v some stands empty = record {
  stands = stands;
  fronts = fronts_none (lists_in v) empty;
  events = 0;
  counted = none_counted task.setting (lists_in v) empty;
  paced = inr (begins_ready task some v stands empty, omega arith);
}

-- ---- one bout more

module _ (task : Task) (old new : RingSeatsView) (stands : StandsFor task old)
    (stands' : StandsFor task new) where
  same_cast : new.cast ≡ old.cast
  same_cast = stands'.cast_is ∙ sym stands.cast_is

  many : length old.seats ≡ count_of old.cast
  many = sym (length-map old.seats (λ (s : RingSeatView). s.core)) ∙ stands.all

  same_long : length new.seats ≡ length old.seats
  same_long =
      sym (length-map new.seats (λ (s : RingSeatView). s.core)) ∙ stands'.all ∙ ap count_of same_cast ∙ sym many

  -- the lists of after, found with the numbers of before
  same_lists_in : lists_among lists_of old.cast new.seats ≡ lists_in new
  same_lists_in = ap (λ c. lists_among lists_of c new.seats) (sym same_cast)

module _ (task : Task) (old new : RingSeatsView) (bouts : ℕ)
    (advance : AllAdvance old.seats new.seats) (fronts : AreFronts (lists_in new))
    (keeps : StandsFor task old → StandsFor task new)
    (before : IsUnderWay task old bouts) where
  abbrev stands' : StandsFor task new
  stands' = keeps before.stands

  abbrev after : Actor → ActorLists
  after = lists_among lists_of old.cast new.seats

  long : length new.seats ≡ length old.seats
  long = same_long task old new before.stands stands'

  all : length old.seats ≡ count_of old.cast
  all = many task old new before.stands stands'

  same : after ≡ lists_in new
  same = same_lists_in task old new before.stands stands'

  -- where a seat made an event, the lists count one more
  counted_event : SomeEvent old.seats new.seats → IsCounted task.setting after (before.events + 1)
  counted_event some =
      let cast = old.cast in
      let place = some.place in
      let d = (there old.seats place some.there).0 in
      let a = actor_at cast place in
      let is = number_there cast place (subst (λ z. place < z) all some.there) in
      let made : HasMadeSome (player_of (get_or old.seats place d)) (player_of (get_or new.seats place d)) =
      record { before = some.before; runs = some.runs d } in
      let one =
      relate (λ (s : RingSeatView). s.core) lists_of HasMadeSome cast old.seats new.seats long a place d is
      some.there made in
      let moved = ran true cast old.seats new.seats long all (λ e. advance)
      (λ e. absurd (true≢false e)) in
      counted_more task cast (cores_in old) (cores_in new) (lists_in old) after before.stands moved
      a place is one (subst AreFronts (sym same) fronts) before.events (before.events + 1) (omega arith) before.counted

  with_event : SomeEvent old.seats new.seats → IsUnderWay task new (bouts + 1)
  with_event some =
      let few = paced_few old.seats bouts before.events before.paced in
      record {
        stands = stands';
        fronts = fronts;
        events = before.events + 1;
        counted = subst (λ f. IsCounted task.setting f (before.events + 1)) same (counted_event some);
        paced = inl (omega (arith, few));
      }

  -- where none did, the lists are as they were
  without_event : StaySame old.seats new.seats (length old.seats) → SomeSeat IsReady new.seats
      → bouts + 1 ≤ 2 * before.events → IsUnderWay task new (bouts + 1)
  without_event stay ready few =
      let kept = sym same ∙ lists_same old.cast old.seats new.seats long advance all stay in
      record {
        stands = stands';
        fronts = fronts;
        events = before.events;
        counted = subst (λ f. IsCounted task.setting f before.events) (sym kept) before.counted;
        paced = inr (ready, few);
      }

  -- where a bout made an event if some seat was ready, and left one ready if it made none, the run is under way with
  -- one bout more
  pub one_bout_more : (SomeSeat IsReady old.seats → SomeEvent old.seats new.seats)
      → SomeEvent old.seats new.seats ⊎ SomeSeat IsReady new.seats → IsUnderWay task new (bouts + 1)
  one_bout_more event moves = elim before.paced [
    | inl few ↦ elim moves [
      | inl some ↦ with_event some
      | inr ready ↦
          let none = some_or_same old.cast old.seats new.seats long advance (length old.seats)
          (omega arith) in
          elim none [
            | inl some ↦ with_event some
            | inr stay ↦ without_event stay ready few
          ]
    ]
    | inr both ↦ with_event (event both.0)
  ]

-- what a bout answers where it succeeds
abbrev pub answer : Bool → Result Bool AllocError
answer went = Ok went

-- where `false` would mean that all is done, and it isn't, the answer is `true`
pub goes_on : (went done : Bool) → (answer went ≡ answer false → done ≡ true) → done ≡ false → answer went ≡ answer true
goes_on true done ends open_yet = refl
goes_on false done ends open_yet = absurd (true≢false (sym (ends refl) ∙ open_yet))

-- ---- so bouts are few

within : (bouts events most : ℕ) → bouts ≤ 2 * events → events ≤ most → bouts ≤ 2 * most
within bouts events most few low = omega arith

doubled : (a b c : ℕ) → 16 * a * b * c ≡ 2 * (8 * a * b * c)
doubled a b c =
    let first : 16 * a ≡ 2 * (8 * a) = omega arith in
    ap (λ x. x * b * c) first ∙ (ap (λ x. x * c) (mul_assoc 2 (8 * a) b) ∙ mul_assoc 2 (8 * a * b) c)

most_twice : (task : Task) (n : ℕ) → most_bouts task n ≡ 2 * most_events task.input task.setting n
most_twice task n =
    doubled (row_count task.input R + row_count task.input S + task.setting.feeders + 2) (2 ^ task.setting.k) (n + 2)

module _ (task : Task) (v : RingSeatsView) (bouts : ℕ) (way : IsUnderWay task v bouts)
    (law : EventsAreFew) (is_task : IsTask task) where
  few_by : (journal : List TurnLine) → Agrees task (family_of journal (lists_in v))
      → bouts ≤ 2 * most_events task.input task.setting (migrations task.rest.line journal)
  few_by journal agrees =
      let few = few_events law task is_task journal (lists_in v) agrees way.events way.counted in
      within bouts way.events (most_events task.input task.setting (migrations task.rest.line journal))
      (paced_few v.seats bouts way.events way.paced) few

  -- a number of 64 bits counts them
  pub counts_on : KeepsALawfulJournal → LawfulIsBounded → IsValidInput task.input → IsValidSetting task.setting
      → bouts < 2 ^ 64 - 1
  counts_on keeps bounded of_input of_setting =
      let journal = journal_in v in
      let agrees = agreeing task v.cast (cores_in v) (lists_in v) way.stands way.fronts in
      let fit = bouts_fit keeps bounded task journal (lists_in v) of_input of_setting is_task agrees in
      under bouts (2 * most_events task.input task.setting (migrations task.rest.line journal)) (2 ^ 64 - 1)
      (few_by journal agrees) fit

  -- ---- once the lists are a finished family

  module _ (journal : List TurnLine) (lists : Actor → ActorLists) (same : (a : Actor) → lists a ≡ lists_in v a)
      (family : IsFinishedFamily task journal lists) where
    -- the controller sent the first feeder as many orders as its journal has migrations
    pub left_orders : orders_in lists ≡ migrations task.rest.line journal
    left_orders = orders_are task is_task.valid.some journal lists family.agrees

    -- and there were at most two bouts for each event that a run with so many orders can have
    pub few_bouts : bouts ≤ most_bouts task (orders_in lists)
    few_bouts =
        let agrees = subst (λ f. Agrees task (family_of journal f)) (fun_ext same) family.agrees in
        subst (λ n. bouts ≤ most_bouts task n) (sym left_orders)
        (subst (λ n. bouts ≤ n) (sym (most_twice task (migrations task.rest.line journal))) (few_by journal agrees))

-- what is left of the seats agrees on the links of the run
pub left_linked : (task : Task) (v : RingSeatsView) (bouts : ℕ)
    → IsUnderWay task v bouts → (lists : Actor → ActorLists) → ((a : Actor) → lists a ≡ lists_in v a)
    → AgreesOnLinks task.setting lists
left_linked task v bouts way lists same =
    subst (AgreesOnLinks task.setting) (sym (fun_ext same)) (record {
      fronts = way.fronts;
      linked = way.counted.linked;
    })

-- what follows from two clauses of one result
pub from_two : {X E : Type 0} (result : Result X E) (P Q T : X → Type 0) → IfOk result P → IfOk result Q
    → ((x : X) → P x → Q x → T x) → IfOk result T
from_two (Ok x) P Q T p q follows = follows x p q
from_two (Err e) P Q T p q follows = tt
