use Rattle.std.proofs.lemmas.Result.{IfOk-weaker}
use Rattle.actor_core.specs.Rests.{task_upto}
use Rattle.actor_core.proofs.LaterEnds.{stands_beyond, stands_upto}
use Rattle.actor_core.proofs.Tasks.{upto_is_task}
use Rattle.join_runtime.specs.Runs.{IsBegun}
use Rattle.join_runtime.proofs.runs.run_wave.Goals as goal

pub returns : goal.returns
returns g c =
    let input = c.args.input.now in
    let setting = c.args.setting.now in
    let task = task_upto c.args.end input setting c.args.rest in
    let within = c.requires.end.within in
    let begun : IsBegun task c.in_ok-seats.seats = record {
      is_task = upto_is_task c.args.end input setting c.args.rest within c.requires.input c.requires.setting
          (stands_upto c.args.end input setting c.args.rest c.requires.end c.requires.rest);
      stands = c.in_ok-seats.ensures.stands;
      empty = c.in_ok-seats.ensures.empty;
    } in
    let result = c.in_threads.result in
    let tells = c.in_threads.ensures in
    record {
      family = IfOk-weaker result _ _ (λ told tells. (tells.wave task begun).family) tells;
      linked = IfOk-weaker result _ _ (λ told tells. (tells.wave task begun).linked) tells;
      run = IfOk-weaker result _ _ (λ told tells. (tells.wave task begun).run) tells;
      rest = IfOk-weaker result _ _ (λ told tells. stands_beyond c.args.end input setting told.wave.rest within
          (tells.rest task begun c.in_ok-seats.ensures.joins)) tells;
      line = IfOk-weaker result _ _ (λ told tells. tells.line c.args.rest.line) tells;
      bound = IfOk-weaker result _ _ (λ told tells. (tells.wave task begun).bound) tells;
    }
