use Rattle.std.proofs.Common.{refl, subst}
use Rattle.std.proofs.lemmas.Bool.{false≢true}
use Rattle.epoch_tags.specs.declared.actor.Actor.TheVariants.{Feeder}
use Rattle.load_controller.specs.Machine.{CountsCause}
use Rattle.load_controller.proofs.MessageCalls.{passed_takes, no_place, feeder_takes, placed_not_passed}
use Rattle.load_controller.proofs.ledger.Ledger.receive_of_feeder.Goals as goal

pub returns-then-not-has_place-clause-takes : goal.returns-then-not-has_place-clause-takes
returns-then-not-has_place-clause-takes c =
    passed_takes (Feeder c.args.feeder) c.args.m c.args.self.now c.args.sends.now c.requires
    (no_place c.args.self.now c.requires c.args.feeder c.args.m (λ has. false≢true (c.if-not-has_place.ensures.1 has)))

pub returns-clause-takes : goal.returns-clause-takes
returns-clause-takes c =
    feeder_takes c.args.feeder c.args.m c.args.self.now c.count.new.self c.count_held.new.self c.args.sends.now
    c.count.new.sends c.count_held.new.sends
    c.requires c.in_ok-count.ensures.sound c.in_ok-count_held.ensures.sound (c.if-not-has_place.ensures.0 refl)
    (subst (λ cause. CountsCause cause c.args.self.now c.count.new.self c.args.sends.now c.count.new.sends)
    c.cause_of.ensures c.in_ok-count.ensures.took)
    c.in_ok-count_held.ensures.took c.in_ok-count_held.ensures.stuck

pub returns-clause-passes : goal.returns-clause-passes
returns-clause-passes c = λ line past newest over.
    absurd (placed_not_passed c.args.self.now c.args.feeder c.args.m c.requires (c.if-not-has_place.ensures.0 refl)
    line past newest over)
