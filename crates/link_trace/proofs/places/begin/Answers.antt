use Rattle.std.proofs.Common.{subst}
use Rattle.std.proofs.lemmas.Result.{IfOk-weaker}
use Rattle.actor_core.specs.Lists.{Began}
use Rattle.actor_core.specs.Standing.{Waits}
use Rattle.actor_core.specs.declared.machines.Core.{Core}
use Rattle.link_trace.proofs.Changed.{same_waiting, begins_at, core_there}
use Rattle.link_trace.proofs.places.begin.Goals as goal

pub returns-clause-waiting : goal.returns-clause-waiting
returns-clause-waiting c =
    let places = c.args.places.now in
    same_waiting places.items c.args.at c.index_mut.result.now c.begin.new.self c.index_mut.ensures.value
    c.requires.place
    c.begin.ensures.waiting

pub returns-clause-occurs : goal.returns-clause-occurs
returns-clause-occurs c =
    let places = c.args.places.now in
    IfOk-weaker c.begin.result
    _ _ (λ b. begins_at places.items c.args.at c.index_mut.result.now c.begin.new.self c.index_mut.ensures.value
    c.requires.place Began b c.args.sends.now c.begin.new.sends c.requires.none)
    c.begin.ensures.occurs

pub returns-clause-idle : goal.returns-clause-idle
returns-clause-idle c is core there =
    let places = c.args.places.now in
    subst Waits (core_there places.items c.args.at c.index_mut.result.now core c.requires.place
    c.index_mut.ensures.value
    there)
    (c.begin.ensures.idle is)

pub returns-clause-free : goal.returns-clause-free
returns-clause-free c is core there =
    let places = c.args.places.now in
    subst (λ (z : Core). ¬ Waits z) (core_there places.items c.args.at c.index_mut.result.now core c.requires.place
    c.index_mut.ensures.value there) (c.begin.ensures.free is)
