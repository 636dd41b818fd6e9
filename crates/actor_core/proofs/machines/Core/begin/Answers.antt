use Rattle.std.proofs.Common.{ap, refl}
use Rattle.actor_core.specs.Families.{journal_of}
use Rattle.actor_core.specs.declared.machines.Core.TheVariants.{Feeder as TheFeeder}
use Rattle.actor_core.proofs.Events.{feeder_begins}
use Rattle.actor_core.proofs.Journals.{none_grows}
use Rattle.actor_core.proofs.Runs.{prefix_self}
use Rattle.actor_core.proofs.machines.Core.begin.Goals as goal

pub returns-in-Feeder-clause-begins : goal.returns-in-Feeder-clause-begins
returns-in-Feeder-clause-begins c is =
    rw c.in-Feeder.is (feeder_begins c.in-Feeder.feeder c.begin.new.self c.args.sends.now c.begin.new.sends
    (c.begin.ensures.begins is))

pub returns-in-Feeder-clause-idle : goal.returns-in-Feeder-clause-idle
returns-in-Feeder-clause-idle c is = rw c.in-Feeder.is (c.begin.ensures.waits is)

pub returns-in-Feeder-clause-free : goal.returns-in-Feeder-clause-free
returns-in-Feeder-clause-free c is = rw c.in-Feeder.is (c.begin.ensures.is_free is)

pub returns-in-Feeder-clause-grows : goal.returns-in-Feeder-clause-grows
returns-in-Feeder-clause-grows c = none_grows c.begin.result c.args.self.now (TheFeeder c.begin.new.self)
    (ap journal_of c.in-Feeder.is) refl

pub returns-in-Controller-clause-grows : goal.returns-in-Controller-clause-grows
returns-in-Controller-clause-grows c = prefix_self _ _ refl

pub returns-in-Joiner-clause-grows : goal.returns-in-Joiner-clause-grows
returns-in-Joiner-clause-grows c = prefix_self _ _ refl

pub returns-in-Collector-clause-grows : goal.returns-in-Collector-clause-grows
returns-in-Collector-clause-grows c = prefix_self _ _ refl
