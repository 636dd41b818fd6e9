use Rattle.std.proofs.Common.{refl}
use Rattle.std.proofs.lemmas.Result.{on_ok_weaker}
use Rattle.actor_core.specs.Lists.{Took}
use Rattle.link_trace.proofs.Changed.{same_waiting, occurs_at}
use Rattle.link_trace.proofs.places.hand.Goals as goal

pub returns-clause-waiting : goal.returns-clause-waiting
returns-clause-waiting c =
    let place = c.index_mut.result.now in
    same_waiting c.args.places.now.items c.args.receiver place (record {
      core = c.on.new.self;
      waiting = place.waiting;
    }) c.index_mut.ensures.value
    c.requires.place refl

pub returns-clause-occurs : goal.returns-clause-occurs
returns-clause-occurs c =
    let place = c.index_mut.result.now in
    on_ok_weaker c.on.result
    (occurs_at c.args.places.now.items c.args.receiver place (record { core = c.on.new.self; waiting = place.waiting })
    c.index_mut.ensures.value c.requires.place (Took c.args.from c.args.msg) c.args.sends.now c.on.new.sends
    c.requires.none)
    c.on.ensures.occurs
