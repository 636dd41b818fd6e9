use Rattle.std.proofs.Common.{ap, arith}
use Rattle.epoch_tags.specs.declared.actor.Actor.TheVariants.{Joiner}
use Rattle.epoch_tags.specs.declared.message.ToController.TheVariants.{Ask, Drained, Settled}
use Rattle.load_controller.proofs.MessageCalls.{passed_takes, joiner_takes}
use Rattle.load_controller.proofs.ledger.Ledger.receive_of_joiner.Goals as goal

pub returns-then-joiner-joiners-clause-takes : goal.returns-then-joiner-joiners-clause-takes
returns-then-joiner-joiners-clause-takes c =
    rw c.in-Settled.is (passed_takes (Joiner c.args.joiner) (Settled c.in-Settled.epoch)
    c.args.self.now c.args.sends.now c.requires
    (λ low. omega (arith, c.if-joiner-joiners.true, c.joiners.ensures)))

pub returns-in-Ask-clause-takes : goal.returns-in-Ask-clause-takes
returns-in-Ask-clause-takes c =
    rw c.in-Ask.is (passed_takes (Joiner c.args.joiner) (Ask c.in-Ask.dr c.in-Ask.ds)
    c.args.self.now c.args.sends.now c.requires tt)

pub returns-in-Drained-clause-takes : goal.returns-in-Drained-clause-takes
returns-in-Drained-clause-takes c = rw c.in-Drained.is (passed_takes (Joiner c.args.joiner)
    Drained c.args.self.now c.args.sends.now c.requires tt)

pub returns-in_ok-count_held-in-Settled-clause-takes : goal.returns-in_ok-count_held-in-Settled-clause-takes
returns-in_ok-count_held-in-Settled-clause-takes c =
    let old = c.args.self.now in
    rw c.in-Settled.is (joiner_takes c.args.joiner c.in-Settled.epoch old (record old { held = c.hold.new.self })
    c.count_held.new.self c.args.sends.now c.count_held.new.sends
    c.requires c.in_ok-count_held-in-Settled.ensures.sound (omega (arith, c.if-joiner-joiners.false, c.joiners.ensures))
    (ap (λ h. record old { held = h }) c.in_ok-hold-in-Settled.ensures.ok)
    c.in_ok-count_held-in-Settled.ensures.took c.in_ok-count_held-in-Settled.ensures.stuck)
