use Rattle.std.proofs.Common.{subst}
use Rattle.epoch_tags.specs.declared.actor.Actor.TheVariants.{Controller, Collector}
use Rattle.load_controller.specs.Standing.{IsPassedOver}
use Rattle.load_controller.specs.Machine.{rules_of}
use Rattle.load_controller.proofs.MessageCalls.{passed_takes}
use Rattle.load_controller.proofs.ledger.Ledger.receive.Goals as goal

pub returns-in_ok-receive_of_feeder-in-Feeder-clause-passes :
    goal.returns-in_ok-receive_of_feeder-in-Feeder-clause-passes
returns-in_ok-receive_of_feeder-in-Feeder-clause-passes c = λ line past newest over.
    c.in_ok-receive_of_feeder-in-Feeder.ensures.passes line past newest
    (subst (λ from. IsPassedOver (rules_of c.args.self.now) line past from c.args.m) c.in-Feeder.is over)

pub returns-in-Controller-clause-takes : goal.returns-in-Controller-clause-takes
returns-in-Controller-clause-takes c = rw c.in-Controller.is
    (passed_takes Controller c.args.m c.args.self.now c.args.sends.now c.requires tt)

pub returns-in-Collector-clause-takes : goal.returns-in-Collector-clause-takes
returns-in-Collector-clause-takes c =
    rw c.in-Collector.is (passed_takes Collector c.args.m c.args.self.now c.args.sends.now c.requires tt)
