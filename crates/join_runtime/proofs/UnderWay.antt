-- A run between two bouts.
use Rattle.std.proofs.Common.{◌≡◌, ℕ, zero, suc, ◌+◌, ◌-◌, ◌<◌, ◌≤◌, inl, inr, refl, sym, ap, subst, ◌∙◌, Bool, true}
use Rattle.std.proofs.Common.{false}
use Rattle.std.proofs.Common.{true≢false, List, get_or, length, Result, Ok, Err, arith}
use Rattle.std.specs.Prelude.{IfOk}
use Rattle.std.specs.declared.alloc.AllocError.{AllocError}
use Rattle.std.proofs.lemmas.List.{length-map}
use mathlib.Core.Path.{fun_ext}
use Rattle.epoch_tags.specs.declared.actor.Actor.{Actor}
use Rattle.load_controller.specs.declared.line.TurnLine.{TurnLine}
use Rattle.load_controller.specs.Journal.{last_epoch, last_line}
use Rattle.trace_law.specs.declared.input.Input.{Input}
use Rattle.trace_law.specs.declared.setting.Setting.{Setting}
use Rattle.trace_law.specs.Family.{first_rest, migrations}
use Rattle.trace_law.specs.Laws.{EventsAreFew}
use Rattle.theta_pred.specs.Formula.{Meaning}
use Rattle.actor_core.specs.Rests.{IsRestOf}
use Rattle.trace_law.specs.MostEvents.{most_events}
use Rattle.actor_core.specs.Lists.{ActorLists, no_lists}
use Rattle.actor_core.specs.Families.{AreFronts}
use Rattle.actor_core.specs.Numbers.{actor_at, count_of}
use Rattle.actor_core.specs.Players.{AgreesOnLinks, IsFinishedFamily, Runs, lists_among}
use Rattle.actor_core.specs.Tasks.{IsRun, IsTask, Task}
use Rattle.actor_core.proofs.OwnNumbers.{number_there}
use Rattle.actor_core.proofs.Balances.{fronts_none}
use Rattle.actor_core.proofs.Beginnings.{there}
use Rattle.actor_core.proofs.EventsCounted.{HasMadeSome, IsCounted, counted_more, few_events, none_counted}
use Rattle.actor_core.proofs.Seated.{relate}
use Rattle.join_runtime.specs.Views.{SeatView, lists_of, player}
use Rattle.join_runtime.specs.Turns.{Advances, Rests}
use Rattle.join_runtime.specs.Bouts.{AllAdvance, AllJoinBy, IsReady, SeatsView, SomeReady, StandsFor}
use Rattle.join_runtime.specs.Bouts.{cores_in, lists_in}
use Rattle.join_runtime.specs.Endings.{lists_left}
use Rattle.join_runtime.specs.Runs.{IsBegun, TellsOf}
use Rattle.join_runtime.specs.declared.ends.WaveTold.{WaveTold}
use Rattle.join_runtime.proofs.SeatBouts.{all_ran, answer}

-- the seats stand for a task, and so many bouts were made
pub record IsUnderWay (task : Task) (v : SeatsView) (bouts : ℕ) : Type 0 where
  pub stands : StandsFor task v
  pub fronts : AreFronts (lists_in v)
  pub counted : IsCounted task.setting (lists_in v) bouts

-- before the first bout
pub begun : (task : Task) (v : SeatsView) → StandsFor task v → ((a : Actor) → lists_in v a ≡ no_lists)
    → IsUnderWay task v 0
begun task v stands empty =
    let lists = lists_in v in
    record { stands = stands; fronts = fronts_none lists empty; counted = none_counted task.setting lists empty }

-- ---- a bout that goes on

-- the seats of one task, before a bout and after it
module _ (task : Task) (old new : SeatsView) (stands : StandsFor task old) (stands' : StandsFor task new) where
  -- the same take part
  pub same_cast : new.cast ≡ old.cast
  same_cast = stands'.cast_is ∙ sym stands.cast_is

  -- there is a seat for each feeder, each joiner, the controller and the collector
  pub many : length old.seats ≡ count_of old.cast
  many = sym (length-map old.seats (λ (s : SeatView). s.core)) ∙ stands.all

  -- the seats after a bout are as many as before it
  pub same_long : length new.seats ≡ length old.seats
  same_long =
      sym (length-map new.seats (λ (s : SeatView). s.core)) ∙ stands'.all ∙ ap count_of same_cast ∙ sym many

  -- their lists, found with the numbers of before
  lists_after : lists_among lists_of old.cast new.seats ≡ lists_in new
  lists_after = ap (λ c. lists_among lists_of c new.seats) (sym same_cast)

rested : (s : SeatView) → Rests s.core s.inbox → IsReady s → ⊥
rested s rests (inl some) = let none = rests.none_known in omega (arith, some, none)
rested s rests (inr free) = free rests.waits

-- a seat that was ready made an event
some_made : (s t : SeatView) → IsReady s → Advances s t → HasMadeSome (player s) (player t)
some_made s t ready a = go a.count a.runs a.none
  where
    go : (n : ℕ) → Runs n (player s) (player t) → (n ≡ 0 → Rests s.core s.inbox) → HasMadeSome (player s) (player t)
    go zero runs none = absurd (rested s (none refl) ready)
    go (suc n) runs none = record { before = n; runs = runs }

-- a bout that made an event
module _ (task : Task) (old new : SeatsView) (bouts bouts' : ℕ)
    (advance : AllAdvance old.seats new.seats) (some : SomeReady old.seats) (fronts : AreFronts (lists_in new))
    (keeps : StandsFor task old → StandsFor task new) (few : bouts' ≤ bouts + 1) where
  abbrev after : Actor → ActorLists
  after = lists_among lists_of old.cast new.seats

  counted_after : StandsFor task old → IsCounted task.setting (lists_in old) bouts
      → IsCounted task.setting after bouts'
  counted_after stands counted =
      let cast = old.cast in
      let place = some.place in
      let all = many task old new stands (keeps stands) in
      let long = same_long task old new stands (keeps stands) in
      let d = (there old.seats place some.there).0 in
      let moved = advance place d some.there in
      let made = some_made (get_or old.seats place d) (get_or new.seats place d) (some.ready d) moved in
      let a = actor_at cast place in
      let is = number_there cast place (subst (λ z. place < z) all some.there) in
      let one =
      relate (λ (s : SeatView). s.core) lists_of HasMadeSome cast old.seats new.seats long a place d is
      some.there made in
      let ran = all_ran cast old.seats new.seats long all advance in
      let same = lists_after task old new stands (keeps stands) in
      counted_more task cast (cores_in old) (cores_in new) (lists_in old) after stands
      ran a place is one (subst AreFronts (sym same) fronts) bouts bouts' few counted

  -- where a bout of a task under way had some seat ready and each seat made events unless it rested, the task is under
  -- way with one bout more
  pub one_bout_more : IsUnderWay task old bouts → IsUnderWay task new bouts'
  one_bout_more before =
      let same = lists_after task old new before.stands (keeps before.stands) in
      record {
        stands = keeps before.stands;
        fronts = fronts;
        counted = subst (λ f. IsCounted task.setting f bouts') same (counted_after before.stands before.counted);
      }

-- the lists are the same, and the seats stand for the task still
pub same_lists : (task : Task) (old new : SeatsView) (bouts : ℕ) → ((a : Actor) → lists_in new a ≡ lists_in old a)
    → (StandsFor task old → StandsFor task new) → IsUnderWay task old bouts → IsUnderWay task new bouts
same_lists task old new bouts same keeps before =
    let is : lists_in old ≡ lists_in new = sym (fun_ext same) in
    record {
      stands = keeps before.stands;
      fronts = subst AreFronts is before.fronts;
      counted = subst (λ f. IsCounted task.setting f bouts) is before.counted;
    }

-- what is left of the seats agrees on the links of the run
pub left_linked : (task : Task) (v : SeatsView) (bouts : ℕ) → IsUnderWay task v bouts
    → (lists : Actor → ActorLists) → ((a : Actor) → lists a ≡ lists_in v a) → AgreesOnLinks task.setting lists
left_linked task v bouts way lists same =
    subst (AgreesOnLinks task.setting) (sym (fun_ext same)) (record {
      fronts = way.fronts;
      linked = way.counted.linked;
    })

-- where `false` would mean that all is done, and it isn't, the answer is `true`
pub goes_on : (went done : Bool) → (answer went ≡ answer false → done ≡ true) → done ≡ false → answer went ≡ answer true
goes_on true done ends open_yet = refl
goes_on false done ends open_yet = absurd (true≢false (sym (ends refl) ∙ open_yet))

-- ---- so bouts are few

-- once the lists are a finished family, there were no more bouts than that run's journal allows events
pub few_bouts : EventsAreFew → (task : Task) → IsTask task → (v : SeatsView) (bouts : ℕ)
    → IsCounted task.setting (lists_in v) bouts → (journal : List TurnLine) (lists : Actor → ActorLists)
    → ((a : Actor) → lists a ≡ lists_in v a) → IsFinishedFamily task journal lists
    → bouts ≤ most_events task.input task.setting (migrations task.rest.line journal)
few_bouts few task is_task v bouts counted journal lists same family =
    let counted' = subst (λ f. IsCounted task.setting f bouts) (sym (fun_ext same)) counted in
    few_events few task is_task journal lists family.agrees bouts counted'

-- ---- what a wave tells

module _ (few : EventsAreFew) (begun : SeatsView) (v : SeatsView) (bouts : ℕ)
    (way : (task : Task) → IsBegun task begun → IsUnderWay task v bouts)
    (joins : (theta : Meaning) → AllJoinBy theta begun → AllJoinBy theta v) where
  -- of a wave that is under way, what its end tells is what its finished seats tell
  pub tells : (result : Result WaveTold AllocError)
      → IfOk result (λ told. (task : Task) → IsTask task → StandsFor task v → AreFronts (lists_in v)
      → IsFinishedFamily task told.wave.run.journal (lists_left told.ends))
      → IfOk result (λ told. (task : Task) → IsTask task → StandsFor task v → AreFronts (lists_in v)
      → IsRun task told.wave.run.journal told.wave.run)
      → IfOk result (λ told. (task : Task) → IsTask task → StandsFor task v → AreFronts (lists_in v)
      → AllJoinBy task.input.theta v → IsRestOf task.input task.setting told.wave.rest)
      → IfOk result (λ told. (first : TurnLine) → told.wave.rest.line ≡ last_line first told.wave.run.journal)
      → IfOk result (λ told. (a : Actor) → lists_left told.ends a ≡ lists_in v a)
      → IfOk result (λ told. told.wave.run.bouts ≡ bouts)
      → IfOk result (TellsOf begun)
  tells (Ok told) family run next line ends made = record {
    wave = λ task is.
        let under = way task is in
        let finished = family task is.is_task under.stands under.fronts in
        record {
          family = finished;
          linked = left_linked task v bouts under (lists_left told.ends) ends;
          run = run task is.is_task under.stands under.fronts;
          bound = subst
              (λ n. n ≤ most_events task.input task.setting (migrations task.rest.line told.wave.run.journal))
              (sym made) (few_bouts few task is.is_task v bouts under.counted told.wave.run.journal
              (lists_left told.ends) ends finished);
        };
    rest = λ task is joined.
        let under = way task is in
        next task is.is_task under.stands under.fronts (joins task.input.theta joined);
    line = line;
  }
  tells (Err e) family run next line ends made = tt

-- of a run, that is of the wave that begins with no rows, migrations are counted from none
pub from_none : (input : Input) (setting : Setting) (journal : List TurnLine) (n : ℕ)
    → n ≤ most_events input setting (migrations (first_rest setting).line journal)
    → n ≤ most_events input setting (last_epoch journal)
from_none input setting journal n few =
    let none : last_epoch journal - 0 ≡ last_epoch journal = omega arith in
    subst (λ e. n ≤ most_events input setting e) none few
