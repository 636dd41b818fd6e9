use Rattle.std.proofs.Common.{◌≡◌, subst, sym, true}
use Rattle.actor_core.specs.Leavings.{AreLeft}
use Rattle.actor_core.proofs.LastTwo.{last_two}
use Rattle.join_runtime.specs.Bouts.{SeatsView, cores_in, lists_in}
use Rattle.join_runtime.specs.Endings.{EndsView, is_collected, lists_left}
use Rattle.join_runtime.proofs.Ended.{complete_there, ends_keep, told_family, told_journal, told_rest, told_run}
use Rattle.join_runtime.proofs.bouts.Seats.finish_wave.Goals as goal

pub wave_run-requires : goal.wave_run-requires
wave_run-requires c =
    let own = c.self.inside in
    let v : SeatsView = record {
      cast = own.cast;
      seats = own.seats.items;
      spent = own.spent;
    } in
    let left = c.in_ok-left.left in
    let are = subst (λ cs. AreLeft own.cast.feeders cs left.0 left.1 left.2) c.in_ok-cores.ensures.cores
    c.in_ok-left.ensures in
    let last = last_two (cores_in v) are.front left.1 left.2 are.all in
    let done : is_collected v ≡ true = rw (← c.self.view_is) at c.requires in
    complete_there v c.self.invariant.0 left.1 left.2 last done

pub returns : goal.returns
returns c =
    let own = c.self.inside in
    let v : SeatsView = record {
      cast = own.cast;
      seats = own.seats.items;
      spent = own.spent;
    } in
    let joined = c.self.invariant.0 in
    let left = c.in_ok-left.left in
    let are = subst (λ cs. AreLeft own.cast.feeders cs left.0 left.1 left.2) c.in_ok-cores.ensures.cores
    c.in_ok-left.ensures in
    let last = last_two (cores_in v) are.front left.1 left.2 are.all in
    let done : is_collected v ≡ true = rw (← c.self.view_is) at c.requires in
    let law = c.complete_is_finished.ensures in
    let said = c.in_ok-wave.ensures in
    let run = c.in_ok-wave.wave.run in
    let next = c.in_ok-wave.wave.rest in
    let kept = subst (λ stores. AreLeft own.cast.feeders (cores_in v) stores left.1 left.2) (sym said.stores) are in
    let e : EndsView = record { cast = own.cast; ends = c.in_ok-cores.ends.items } in
    let ends : (a : _) → lists_left e a ≡ lists_in v a = λ a.
    subst (λ es. lists_left (record { cast = own.cast; ends = es }) a ≡ lists_in v a)
    (sym c.in_ok-cores.ensures.ends) (ends_keep v a) in
    rw (← c.self.view_is)
    (record {
      family = λ task is_task stands fronts. told_family v joined left.1 left.2 last law done task is_task stands fronts
          run said.journal e ends;
      run = λ task is_task stands fronts. told_run v joined left.1 left.2 last law done task is_task stands fronts run
          c.finished_answers.ensures c.args.bouts said.run;
      rest = λ task is_task stands fronts joins. told_rest v joined left.1 left.2 last law done task is_task stands
          fronts c.answers_in_the_end.ensures joins next kept said.k said.line;
      line = said.last;
      ends = ends;
      journal = told_journal v joined left.1 left.2 last run said.journal;
      bouts = said.bouts;
    })
