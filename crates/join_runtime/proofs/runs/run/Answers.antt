use Rattle.actor_core.specs.Tasks.{task_of}
use Rattle.actor_core.proofs.Tasks.{first_is_task}
use Rattle.join_runtime.proofs.UnderWay.{from_none}
use Rattle.join_runtime.proofs.runs.run.Goals as goal

pub returns : goal.returns
returns g c =
    let input = c.args.input.now in
    let setting = c.args.setting.now in
    let valid = c.limits_suffice.ensures input setting c.requires.input c.requires.setting in
    let has = c.in_ok-told.ensures.wave (task_of input setting) (record {
      is_task = first_is_task input setting valid;
      stands = c.in_ok-seats.ensures.stands;
      empty = c.in_ok-seats.ensures.empty;
    }) in
    record {
      family = has.family;
      linked = has.linked;
      run = has.run;
      bound = from_none input setting c.in_ok-told.told.wave.run.journal c.in_ok-told.told.wave.run.bouts has.bound;
    }
