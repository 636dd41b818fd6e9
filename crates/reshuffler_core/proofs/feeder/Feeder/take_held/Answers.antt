use Rattle.std.proofs.Common.{refl, ◌∙◌}
use Rattle.reshuffler_core.proofs.WholeCalls.{stays, further}
use Rattle.reshuffler_core.proofs.feeder.Feeder.take_held.Goals as goal

pub held-init : goal.held-init
held-init c = record { spent = refl; advances = stays c.args.self.now c.args.sends.now }

pub held-preserved : goal.held-preserved
held-preserved c = record {
  spent = c.take_first.ensures.spent ∙ c.held.invariant.spent;
  advances = further c.args.self.now c.held.self c.take_first.new.self c.args.sends.now c.held.sends
      c.take_first.new.sends
      c.held.invariant.advances c.in_ok-take_first.ensures.advances;
}
