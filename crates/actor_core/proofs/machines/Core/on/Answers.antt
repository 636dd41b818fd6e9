use Rattle.std.proofs.Common.{ap, refl}
use Rattle.std.proofs.lemmas.Bool.{false_from_ne_true}
use Rattle.std.proofs.lemmas.Result.{on_ok_weaker}
use Rattle.actor_core.specs.Families.{journal_of}
use Rattle.actor_core.specs.declared.machines.Core.TheVariants.{Feeder as TheFeeder, Joiner as TheJoiner}
use Rattle.actor_core.specs.declared.machines.Core.TheVariants.{Collector as TheCollector}
use Rattle.actor_core.proofs.Events.{by_both, feeder_takes, controller_takes, collector_takes, joiner_takes}
use Rattle.actor_core.proofs.Journals.{none_grows}
use Rattle.actor_core.proofs.machines.Core.on.Goals as goal

pub returns-in-Controller-Feeder-clause-occurs : goal.returns-in-Controller-Feeder-clause-occurs
returns-in-Controller-Feeder-clause-occurs c =
    rw (c.in-Feeder.is, c.in-Controller-Feeder.is-0, c.in-Controller-Feeder.is-1)
    (on_ok_weaker c.on.result (feeder_takes c.in-Feeder.feeder c.on.new.self c.in-Controller-Feeder.m c.args.sends.now
    c.on.new.sends) c.on.ensures.takes)

pub returns-else-not-fits-clause-occurs : goal.returns-else-not-fits-clause-occurs
returns-else-not-fits-clause-occurs c =
    let on = c.on-in-Joiner-msg in
    rw (c.in-Joiner.is, c.in-Joiner-msg.is)
    (by_both on.result (λ t going. joiner_takes c.in-Joiner.joiner on.new.self c.args.from c.in-Joiner-msg.m
    c.args.sends.now on.new.sends t (false_from_ne_true on.new.self.spent going.1)) on.ensures.takes on.ensures.goes_on)

pub returns-in-Controller-msg-clause-occurs : goal.returns-in-Controller-msg-clause-occurs
returns-in-Controller-msg-clause-occurs c =
    let on = c.on-in-Controller-msg in
    rw (c.in-Controller.is, c.in-Controller-msg.is)
    (on_ok_weaker on.result (controller_takes c.in-Controller.controller on.new.self c.args.from c.in-Controller-msg.m
    c.args.sends.now on.new.sends) on.ensures.takes)

pub returns-in-Collector-msg-clause-occurs : goal.returns-in-Collector-msg-clause-occurs
returns-in-Collector-msg-clause-occurs c =
    let on = c.on-in-Collector-msg in
    rw (c.in-Collector.is, c.in-Collector-msg.is)
    (by_both on.result (collector_takes c.in-Collector.collector on.new.self c.args.from c.in-Collector-msg.m
    c.args.sends.now) on.ensures.takes on.ensures.state)

pub returns-in-Controller-Feeder-clause-grows : goal.returns-in-Controller-Feeder-clause-grows
returns-in-Controller-Feeder-clause-grows c = none_grows c.on.result c.args.self.now (TheFeeder c.on.new.self)
    (ap journal_of c.in-Feeder.is) refl

pub returns-else-not-fits-clause-grows : goal.returns-else-not-fits-clause-grows
returns-else-not-fits-clause-grows c =
    none_grows c.on-in-Joiner-msg.result c.args.self.now (TheJoiner c.on-in-Joiner-msg.new.self)
    (ap journal_of c.in-Joiner.is) refl

pub returns-in-Controller-msg-clause-grows : goal.returns-in-Controller-msg-clause-grows
returns-in-Controller-msg-clause-grows c =
    let on = c.on-in-Controller-msg in
    rw c.in-Controller.is (on_ok_weaker on.result (λ t. t.grows) on.ensures.takes)

pub returns-in-Collector-msg-clause-grows : goal.returns-in-Collector-msg-clause-grows
returns-in-Collector-msg-clause-grows c =
    none_grows c.on-in-Collector-msg.result c.args.self.now (TheCollector c.on-in-Collector-msg.new.self)
    (ap journal_of c.in-Collector.is) refl
