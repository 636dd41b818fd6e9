-- A run that puts lines, between two bouts and at its end.
use Rattle.std.proofs.Common.{◌≡◌, ℕ, zero, suc, ◌+◌, ◌-◌, ◌^◌, refl, sym, ap, subst, ◌∙◌, Option, List, [], ◌++◌}
use Rattle.std.proofs.Common.{filter_map, length, arith}
use Rattle.std.specs.Io.KnownBytes.{append_known}
use Rattle.std.specs.List.Sorted.{IsPermutation}
use Rattle.std.proofs.lemmas.List.Elements.{filter_map-append}
use Rattle.row_cells.specs.Lists.{IsPrefix, IsWithinBag, SameBag, gather}
use Rattle.join_rows.specs.Sinks.{AppendsFront}
use Rattle.row_cells.proofs.Bags.{SameBag-sym}
use Rattle.epoch_tags.specs.declared.actor.Actor.{Actor}
use Rattle.epoch_tags.specs.declared.actor.Actor.TheVariants.{Collector, Joiner}
use Rattle.epoch_tags.specs.declared.message.Msg.{Msg}
use Rattle.epoch_tags.specs.declared.tuple.Pair.{Pair}
use Rattle.epoch_tags.specs.Posts.{collector_msg}
use Rattle.load_controller.specs.declared.line.TurnLine.{TurnLine}
use Rattle.pair_collector.specs.Law.{CollectorLists, pairs_taken}
use Rattle.pair_collector.specs.Fresh.{pairs_since}
use Rattle.pair_collector.specs.Standing.{nothing_yet}
use Rattle.pair_collector.proofs.Fresh.{since_joins}
use Rattle.trace_law.specs.declared.input.Input.{Input}
use Rattle.trace_law.specs.declared.setting.Setting.{Setting}
use Rattle.trace_law.specs.Join.{nested_loop, wave_pairs}
use Rattle.trace_law.proofs.First.{all_pairs}
use Rattle.trace_law.specs.Laws.{AnswersInTheEnd, TakesNothingWrong}
use Rattle.trace_law.specs.Validity.{IsValid}
use Rattle.actor_core.specs.Families.{family_of}
use Rattle.actor_core.specs.Lists.{ActorLists, collector_lists, no_lists}
use Rattle.join_report.specs.PairLines.{pair_lines}
use Rattle.actor_core.specs.Players.{Extends, IsFinishedFamily}
use Rattle.actor_core.specs.Tasks.{IsTask, Task, task_of}
use Rattle.actor_core.proofs.CompleteAnswer.{agrees}
use Rattle.actor_core.proofs.Tasks.{first_is_task}
use Rattle.join_runtime.specs.Bouts.{AllAdvance, SeatsView, StandsFor, cores_in, lists_in}
use Rattle.join_runtime.specs.Endings.{family_in}
use Rattle.join_runtime.specs.Early.{AreGiven, WroteEach, WroteSome, collected_in, given_in}
use Rattle.join_runtime.proofs.GivenPairs.{given_kept}
use Rattle.join_runtime.proofs.UnderWay.{IsUnderWay, begun, same_lists}
use Rattle.join_runtime.proofs.Written.{HasWritten, cut_written, each_written, nothing_written, room_behind}
use Rattle.join_runtime.proofs.Written.{room_within, same_long, some_written, written_more}

-- the pairs that the collector of these seats took
abbrev pub taken_in : Setting → SeatsView → List Pair
taken_in setting v = pairs_taken (2 ^ setting.k) (collected_in v)

-- of a task whose pairs are those of the nested loop: each of them was given, and its line put; what had room for the
-- lines has room for what comes behind them
pub record HasPut (task : Task) (v : SeatsView) (bouts : ℕ) (old new : Option (List ℕ))
    (room room' : ℕ → Type 0) : Type 0 where
  pub is_task : IsTask task
  pub whole : wave_pairs task.input task.rest.line ≡ nested_loop task.input
  pub way : IsUnderWay task v bouts
  pub given : AreGiven (2 ^ task.setting.k) (collected_in v) (given_in v)
  pub written : HasWritten (taken_in task.setting v) old new
  pub takes : (more : ℕ) → room (length (pair_lines (taken_in task.setting v)) + more) → room' more

-- ---- at the beginning

gather_none : {X : Type 0} (n : ℕ) (xs : ℕ → List X) → ((j : ℕ) → xs j ≡ []) → gather n xs ≡ []
gather_none zero xs none = refl
gather_none (suc n) xs none = ap (λ ys. ys ++ xs n) (gather_none n xs none) ∙ none n

-- before the first bout of a run, seats that stand for empty lists and gave nothing have put no line, and the room is
-- the same
pub nothing_put : (input : Input) (setting : Setting) → IsValid input setting → (v : SeatsView)
    (old : Option (List ℕ)) (room : ℕ → Type 0)
    → StandsFor (task_of input setting) v → ((a : Actor) → lists_in v a ≡ no_lists)
    → AreGiven (2 ^ setting.k) nothing_yet (given_in v) → HasPut (task_of input setting) v 0 old old room room
nothing_put input setting valid v old room stands empty given =
    let none : taken_in setting v ≡ [] =
    ap (λ (ls : ActorLists). pairs_taken (2 ^ setting.k) (collector_lists ls)) (empty Collector)
    ∙ gather_none (2 ^ setting.k) (λ j. []) (λ j. refl) in
    let short : length (pair_lines (taken_in setting v)) ≡ 0 = ap (λ ps. length (pair_lines ps)) none in
    record {
      is_task = first_is_task input setting valid;
      whole = all_pairs input setting;
      way = begun (task_of input setting) v stands empty;
      given = subst (λ (ls : ActorLists). AreGiven (2 ^ setting.k) (collector_lists ls) (given_in v))
          (sym (empty Collector)) given;
      written = nothing_written (taken_in setting v) old old none refl;
      takes = λ more has. let is : length (pair_lines (taken_in setting v)) + more ≡ more = omega (arith, short) in
          subst room is has;
    }

-- ---- a front of the lines

right : TakesNothingWrong → (task : Task) → IsTask task → wave_pairs task.input task.rest.line ≡ nested_loop task.input
    → (v : SeatsView) (bouts : ℕ) → IsUnderWay task v bouts
    → IsWithinBag (taken_in task.setting v) (nested_loop task.input)
right law task is_task whole v bouts way =
    subst (IsWithinBag (taken_in task.setting v)) whole
    (law task.input task.setting task.rest (family_in v) is_task.valid is_task.begins
    (agrees task v.cast (cores_in v) (lists_in v) way.stands way.fronts))

-- where the lines of the pairs taken so far were put, these are lines of the nested loop's pairs, none of them more
-- often than it has it
pub some_put : TakesNothingWrong → (task : Task) (v : SeatsView) (bouts : ℕ) (old new : Option (List ℕ))
    (room room' : ℕ → Type 0) → HasPut task v bouts old new room room' → WroteSome task.input old new
some_put law task v bouts old new room room' put =
    some_written task.input (taken_in task.setting v) old new
    (right law task put.is_task put.whole v bouts put.way) put.written

-- where nothing was put, a front of the lines of no pairs was
pub none_put : (input : Input) (old new : Option (List ℕ)) → new ≡ old → WroteSome input old new
none_put input old new is = some_written input [] old new (record { sums = λ f. omega arith })
    (nothing_written [] old new refl is)

-- ---- a bout, and the pairs that came in it

typed_front : {X : Type 0} (kind : Msg → Option X) (xs ys : List Msg) → IsPrefix xs ys
    → IsPrefix (filter_map kind xs) (filter_map kind ys)
typed_front kind xs ys front = record {
  rest = filter_map kind front.rest;
  joins = sym (filter_map-append kind xs front.rest) ∙ ap (filter_map kind) front.joins;
}

-- a bout leads from `v` to `middle`, whose collector gives these pairs
module _ (task : Task) (v middle : SeatsView) (bouts bouts' : ℕ) (old now : Option (List ℕ))
    (room room' : ℕ → Type 0) (before : HasPut task v bouts old now room room')
    (way : IsUnderWay task middle bouts') (advance : AllAdvance v.seats middle.seats)
    (extends : Extends (lists_in v) (lists_in middle)) (fresh : List Pair)
    (gives : (earlier : CollectorLists) → StandsFor task middle
    → AreGiven (2 ^ task.setting.k) earlier (given_in middle)
    → IsPermutation (pairs_since (2 ^ task.setting.k) earlier (collected_in middle)) fresh) where
  abbrev taken : List Pair
  taken = taken_in task.setting v

  abbrev taken' : List Pair
  taken' = taken_in task.setting middle

  abbrev since : List Pair
  since = pairs_since (2 ^ task.setting.k) (collected_in v) (collected_in middle)

  moved : IsPermutation since fresh
  moved = gives (collected_in v) way.stands (subst (AreGiven (2 ^ task.setting.k) (collected_in v))
      (sym (given_kept task v middle before.way.stands way.stands advance)) before.given)

  all : SameBag (taken ++ since)
      taken'
  all = since_joins (2 ^ task.setting.k) (collected_in v) (collected_in middle)
      (λ j low. typed_front collector_msg ((lists_in v Collector).received (Joiner j))
      ((lists_in middle Collector).received (Joiner j)) (extends.received (Joiner j) Collector))

  within : TakesNothingWrong → IsWithinBag taken' (nested_loop task.input)
  within law = right law task before.is_task before.whole middle bouts' way

  -- where of the lines of the pairs given in a bout a front was put, what was put in all is a front of the lines of
  -- pairs of the nested loop
  pub fresh_cut : TakesNothingWrong → (new : Option (List ℕ)) → AppendsFront now new (pair_lines fresh)
      → WroteSome task.input old new
  fresh_cut law new front =
      cut_written taken since
      taken' fresh moved all old now before.written task.input new
      (within law) front

  -- what had room for the lines of the nested loop and more still has room, after the lines of earlier bouts, for those
  -- of this one, for those of the nested loop's pairs still to come, and for the same more
  pub fresh_room : TakesNothingWrong → (more : ℕ)
      → room (length (pair_lines (nested_loop task.input)) + more)
      → room' (length (pair_lines fresh) + (length (pair_lines (nested_loop task.input))
      - length (pair_lines taken') + more))
  fresh_room law more has =
      before.takes (length (pair_lines fresh) + (length (pair_lines (nested_loop task.input))
      - length (pair_lines taken') + more))
      (room_within taken since
      taken' fresh moved all room (nested_loop task.input) more
      (within law) has)

  -- where all lines of the pairs given in a bout were put, and the seats have the same lists after the giving, the run
  -- has put the line of each pair taken so far
  pub fresh_put : (after : SeatsView) → ((a : Actor) → lists_in after a ≡ lists_in middle a)
      → (StandsFor task middle → StandsFor task after)
      → (StandsFor task middle → AreGiven (2 ^ task.setting.k) (collected_in middle) (given_in after))
      → (new : Option (List ℕ)) → new ≡ append_known now (pair_lines fresh)
      → (room'' : ℕ → Type 0) → ((more : ℕ) → room' (length (pair_lines fresh) + more) → room'' more)
      → HasPut task after bouts' old new room room''
  fresh_put after same keeps given new is room'' takes =
      let alike : lists_in middle Collector ≡ lists_in after Collector = sym (same Collector) in
      record {
        is_task = before.is_task;
        whole = before.whole;
        way = same_lists task middle after bouts' same keeps way;
        given = subst (λ (ls : ActorLists). AreGiven (2 ^ task.setting.k) (collector_lists ls) (given_in after)) alike
            (given way.stands);
        written = subst (λ (ls : ActorLists). HasWritten (pairs_taken (2 ^ task.setting.k) (collector_lists ls))
            old new)
            alike
            (written_more taken since
            taken' fresh moved all old now before.written new is);
        takes = λ more has.
            let long : length (pair_lines (taken_in task.setting after)) ≡ length (pair_lines taken') =
            ap (λ (ls : ActorLists). length (pair_lines (pairs_taken (2 ^ task.setting.k) (collector_lists ls))))
            (sym alike) in
            takes more (before.takes (length (pair_lines fresh) + more)
            (room_behind taken since
            taken' fresh moved all room more (subst (λ n. room (n + more)) long has)));
      }

-- ---- at the end

-- the lists that are left are a finished family
module _ (law : AnswersInTheEnd) (task : Task) (v : SeatsView) (bouts : ℕ) (old new : Option (List ℕ))
    (room room' : ℕ → Type 0) (put : HasPut task v bouts old new room room')
    (journal : List TurnLine) (lists : Actor → ActorLists) (same : (a : Actor) → lists a ≡ lists_in v a)
    (family : IsFinishedFamily task journal lists) where
  all_taken : SameBag (taken_in task.setting v) (nested_loop task.input)
  all_taken =
      let answer = law task.input task.setting task.rest (family_of journal lists) put.is_task.valid
      put.is_task.begins family.agrees family.finished in
      subst (λ (ls : ActorLists). SameBag (pairs_taken (2 ^ task.setting.k) (collector_lists ls))
      (nested_loop task.input)) (same Collector)
      (subst (SameBag (pairs_taken (2 ^ task.setting.k) (collector_lists (lists Collector)))) put.whole answer.pairs)

  -- the lines of all pairs of the run were put, each whole, in some order
  pub each_put : (pairs : List Pair) → pairs ≡ wave_pairs task.input task.rest.line → WroteEach pairs old new
  each_put pairs are = each_written task.input (taken_in task.setting v) pairs old new all_taken (are ∙ put.whole)
      put.written

  -- what had room for the lines of the nested loop and more has room for the same more
  pub room_left : (more : ℕ) → room (length (pair_lines (nested_loop task.input)) + more) → room' more
  room_left more has = put.takes more (subst (λ n. room (n + more))
      (same_long (nested_loop task.input) (taken_in task.setting v) (SameBag-sym all_taken)) has)
