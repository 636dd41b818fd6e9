use Rattle.std.proofs.Common.{◌∙◌, ◌^◌, List, refl, sym, subst, arith, rules}
use Rattle.std.specs.Prelude.{IsPermutation}
use Rattle.epoch_tags.specs.declared.tuple.Pair.{Pair}
use Rattle.pair_collector.specs.Fresh.{pairs_since}
use Rattle.join_report.proofs.Puts.{PutsSome-refl, PutsSome-trans}
use Rattle.join_runtime.specs.Early.{collected_in}
use Rattle.join_runtime.specs.Endings.{lists_left}
use Rattle.actor_core.proofs.EventsCounted.{IsCounted}
use Rattle.join_runtime.specs.Bouts.{lists_in}
use Rattle.join_runtime.proofs.Lines.{each_put, fresh_cut, fresh_put, fresh_room, none_put, nothing_put, room_left}
use Rattle.join_runtime.proofs.Lines.{some_put}
use Rattle.join_runtime.proofs.UnderWay.{few_bouts, from_none, goes_on, left_linked, one_bout_more}
use Rattle.join_runtime.proofs.early_lines.run_early_by.Goals as goal
use Rattle.actor_core.specs.Tasks.{task_of}

pub loop-init : goal.loop-init
loop-init g c =
    let input = c.args.input.now in
    let setting = c.args.setting.now in
    let said = c.in_ok-seats.ensures in
    record {
      put = nothing_put input setting
          (c.limits_suffice.ensures input setting c.requires.input c.requires.setting) c.in_ok-seats.seats
          (g.K.Sink.written c.args.sink.now)
          (g.K.Sink.takes c.args.sink.now) said.stands said.empty said.given;
      left = PutsSome-refl (g.K.Sink.written c.args.sink.now) (g.K.Sink.takes c.args.sink.now);
      counts = refl;
    }

pub loop-preserved : goal.loop-preserved
loop-preserved g c =
    let task = task_of c.args.input.now c.args.setting.now in
    let said = c.in_ok-bout_by.ensures in
    let news = c.in_ok-fresh.ensures in
    let put = c.loop.invariant.put in
    let went = goes_on c.in_ok-bout_by.field-0 _ (λ rested. said.collected rested task put.is_task put.way.stands)
    (sym c.complete.ensures ∙ c.if-complete.false) in
    let way = one_bout_more task c.loop.seats c.bout_by.new.seats c.loop.bouts c.saturating_add-bouts.result
    (said.went went) (said.ready went) said.agrees (said.stands task)
    (let sum = c.saturating_add-bouts.ensures in omega (arith, sum)) put.way in
    record {
      put = fresh_put task c.loop.seats c.bout_by.new.seats c.loop.bouts c.saturating_add-bouts.result
          (g.K.Sink.written c.args.sink.now) (g.K.Sink.written c.loop.sink)
          (g.K.Sink.takes c.args.sink.now) (g.K.Sink.takes c.loop.sink) put way (said.went went)
          said.extends c.as_slice.result.now (λ earlier st gave. subst
          (λ (ps : List Pair). IsPermutation (pairs_since (2 ^ task.setting.k) earlier
          (collected_in c.bout_by.new.seats)) ps) (sym c.as_slice.ensures)
          (c.in_ok-fresh.ensures.gives task earlier st gave))
          c.fresh.new.self c.fresh.ensures.lists (c.fresh.ensures.stands task) (news.given task)
          (g.K.Sink.written c.put_lines.new.sink) c.in_ok-put_lines.ensures.written
          (g.K.Sink.takes c.put_lines.new.sink) (λ more has. (c.in_ok-put_lines.ensures.takes more has).1);
      left = PutsSome-trans (g.K.Sink.written c.args.sink.now) (g.K.Sink.written c.loop.sink)
          (g.K.Sink.written c.put_lines.new.sink)
          (g.K.Sink.takes c.args.sink.now) (g.K.Sink.takes c.loop.sink) (g.K.Sink.takes c.put_lines.new.sink)
          c.loop.invariant.left c.in_ok-put_lines.ensures.left;
      counts = c.in_ok-put_lines.ensures.kept (λ e. cc e) ∙ c.loop.invariant.counts;
    }

pub returns-in_err-seats-clause-lines : goal.returns-in_err-seats-clause-lines
returns-in_err-seats-clause-lines g c = none_put c.args.input.now (g.K.Sink.written c.args.sink.now)
    (g.K.Sink.written c.args.sink.now) refl

pub returns-in_err-bout_by-clause-lines : goal.returns-in_err-bout_by-clause-lines
returns-in_err-bout_by-clause-lines g c =
    let task = task_of c.args.input.now c.args.setting.now in
    some_put c.takes_nothing_wrong.ensures task c.loop.seats c.loop.bouts
    (g.K.Sink.written c.args.sink.now) (g.K.Sink.written c.loop.sink) (g.K.Sink.takes c.args.sink.now)
    (g.K.Sink.takes c.loop.sink) c.loop.invariant.put

pub returns-in_err-fresh-clause-lines : goal.returns-in_err-fresh-clause-lines
returns-in_err-fresh-clause-lines g c =
    let task = task_of c.args.input.now c.args.setting.now in
    some_put c.takes_nothing_wrong.ensures task c.loop.seats c.loop.bouts
    (g.K.Sink.written c.args.sink.now) (g.K.Sink.written c.loop.sink) (g.K.Sink.takes c.args.sink.now)
    (g.K.Sink.takes c.loop.sink) c.loop.invariant.put

pub returns-in_err-put_lines-clause-lines : goal.returns-in_err-put_lines-clause-lines
returns-in_err-put_lines-clause-lines g c =
    let task = task_of c.args.input.now c.args.setting.now in
    let said = c.in_ok-bout_by.ensures in
    let put = c.loop.invariant.put in
    let went = goes_on c.in_ok-bout_by.field-0 _ (λ rested. said.collected rested task put.is_task put.way.stands)
    (sym c.complete.ensures ∙ c.if-complete.false) in
    let way = one_bout_more task c.loop.seats c.bout_by.new.seats c.loop.bouts c.saturating_add-bouts.result
    (said.went went) (said.ready went) said.agrees (said.stands task)
    (let sum = c.saturating_add-bouts.ensures in omega (arith, sum)) put.way in
    fresh_cut task c.loop.seats c.bout_by.new.seats c.loop.bouts c.saturating_add-bouts.result
    (g.K.Sink.written c.args.sink.now) (g.K.Sink.written c.loop.sink)
    (g.K.Sink.takes c.args.sink.now) (g.K.Sink.takes c.loop.sink) put way (said.went went)
    said.extends c.as_slice.result.now (λ earlier st gave. subst
    (λ (ps : List Pair). IsPermutation (pairs_since (2 ^ task.setting.k) earlier (collected_in c.bout_by.new.seats)) ps)
    (sym c.as_slice.ensures) (c.in_ok-fresh.ensures.gives task earlier st gave))
    c.takes_nothing_wrong.ensures (g.K.Sink.written c.put_lines.new.sink) c.in_err-put_lines.ensures.front

pub returns-in_err-put_lines-clause-takes : goal.returns-in_err-put_lines-clause-takes
returns-in_err-put_lines-clause-takes g c more has =
    let task = task_of c.args.input.now c.args.setting.now in
    let said = c.in_ok-bout_by.ensures in
    let put = c.loop.invariant.put in
    let went = goes_on c.in_ok-bout_by.field-0 _ (λ rested. said.collected rested task put.is_task put.way.stands)
    (sym c.complete.ensures ∙ c.if-complete.false) in
    let way = one_bout_more task c.loop.seats c.bout_by.new.seats c.loop.bouts c.saturating_add-bouts.result
    (said.went went) (said.ready went) said.agrees (said.stands task)
    (let sum = c.saturating_add-bouts.ensures in omega (arith, sum)) put.way in
    let room = fresh_room task c.loop.seats c.bout_by.new.seats c.loop.bouts c.saturating_add-bouts.result
    (g.K.Sink.written c.args.sink.now) (g.K.Sink.written c.loop.sink)
    (g.K.Sink.takes c.args.sink.now) (g.K.Sink.takes c.loop.sink) put way (said.went went)
    said.extends c.as_slice.result.now (λ earlier st gave. subst
    (λ (ps : List Pair). IsPermutation (pairs_since (2 ^ task.setting.k) earlier (collected_in c.bout_by.new.seats)) ps)
    (sym c.as_slice.ensures) (c.in_ok-fresh.ensures.gives task earlier st gave))
    c.takes_nothing_wrong.ensures more has in
    let other = (c.in_err-put_lines.ensures.takes _ room).0 in
    (search (rules, other), search rules)

pub returns-in_err-seats-clause-left : goal.returns-in_err-seats-clause-left
returns-in_err-seats-clause-left g c = PutsSome-refl (g.K.Sink.written c.args.sink.now) (g.K.Sink.takes c.args.sink.now)

pub returns-in_err-put_lines-clause-left : goal.returns-in_err-put_lines-clause-left
returns-in_err-put_lines-clause-left g c =
    PutsSome-trans (g.K.Sink.written c.args.sink.now) (g.K.Sink.written c.loop.sink)
    (g.K.Sink.written c.put_lines.new.sink)
    (g.K.Sink.takes c.args.sink.now) (g.K.Sink.takes c.loop.sink) (g.K.Sink.takes c.put_lines.new.sink)
    c.loop.invariant.left c.in_err-put_lines.ensures.left

pub returns-in_err-finish-clause-lines : goal.returns-in_err-finish-clause-lines
returns-in_err-finish-clause-lines g c =
    let task = task_of c.args.input.now c.args.setting.now in
    some_put c.takes_nothing_wrong.ensures task c.loop.seats c.loop.bouts
    (g.K.Sink.written c.args.sink.now) (g.K.Sink.written c.loop.sink) (g.K.Sink.takes c.args.sink.now)
    (g.K.Sink.takes c.loop.sink) c.loop.invariant.put

pub returns-clause-family : goal.returns-clause-family
returns-clause-family g c =
    let put = c.loop.invariant.put in
    c.in_ok-finish.ensures.family (task_of c.args.input.now c.args.setting.now) put.is_task put.way.stands
    put.way.fronts

pub returns-clause-run : goal.returns-clause-run
returns-clause-run g c =
    let put = c.loop.invariant.put in
    c.in_ok-finish.ensures.run (task_of c.args.input.now c.args.setting.now) put.is_task put.way.stands
    put.way.fronts

pub returns-clause-bound : goal.returns-clause-bound
returns-clause-bound g c =
    let input = c.args.input.now in
    let setting = c.args.setting.now in
    let put = c.loop.invariant.put in
    let told = c.in_ok-finish.field-0 in
    let said = c.in_ok-finish.ensures in
    from_none input setting told.run.journal told.run.bouts
    (few_bouts c.events_are_few.ensures (task_of input setting) put.is_task c.loop.seats told.run.bouts
    (subst (IsCounted setting (lists_in c.loop.seats)) (sym said.bouts) put.way.counted) told.run.journal
    (lists_left told.ends) said.ends
    (said.family (task_of input setting) put.is_task put.way.stands put.way.fronts))

pub returns-clause-lines : goal.returns-clause-lines
returns-clause-lines g c =
    let task = task_of c.args.input.now c.args.setting.now in
    some_put c.takes_nothing_wrong.ensures task c.loop.seats c.loop.bouts
    (g.K.Sink.written c.args.sink.now) (g.K.Sink.written c.loop.sink) (g.K.Sink.takes c.args.sink.now)
    (g.K.Sink.takes c.loop.sink) c.loop.invariant.put

pub returns-clause-whole : goal.returns-clause-whole
returns-clause-whole g c =
    let task = task_of c.args.input.now c.args.setting.now in
    let put = c.loop.invariant.put in
    let told = c.in_ok-finish.field-0 in
    let said = c.in_ok-finish.ensures in
    each_put c.answers_in_the_end.ensures task c.loop.seats c.loop.bouts
    (g.K.Sink.written c.args.sink.now) (g.K.Sink.written c.loop.sink) (g.K.Sink.takes c.args.sink.now)
    (g.K.Sink.takes c.loop.sink) put
    told.run.journal (lists_left told.ends) said.ends (said.family task put.is_task put.way.stands put.way.fronts)
    told.run.pairs (said.run task put.is_task put.way.stands put.way.fronts).pairs

pub returns-clause-takes : goal.returns-clause-takes
returns-clause-takes g c more has =
    let task = task_of c.args.input.now c.args.setting.now in
    let put = c.loop.invariant.put in
    let told = c.in_ok-finish.field-0 in
    let said = c.in_ok-finish.ensures in (
      (λ e. cc e),
      room_left c.answers_in_the_end.ensures task c.loop.seats c.loop.bouts
          (g.K.Sink.written c.args.sink.now) (g.K.Sink.written c.loop.sink) (g.K.Sink.takes c.args.sink.now)
          (g.K.Sink.takes c.loop.sink) put
          told.run.journal (lists_left told.ends) said.ends
          (said.family task put.is_task put.way.stands put.way.fronts) more has,
    )

pub returns-clause-linked : goal.returns-clause-linked
returns-clause-linked g c =
    left_linked (task_of c.args.input.now c.args.setting.now) c.loop.seats c.loop.bouts c.loop.invariant.put.way
    (lists_left c.in_ok-finish.field-0.ends) c.in_ok-finish.ensures.ends
