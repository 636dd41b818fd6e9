use Rattle.load_controller.proofs.MessageCalls.{passes_view}
use Rattle.load_controller.proofs.controller.Controller.on.Goals as goal

pub returns-in-Ok-clause-passes : goal.returns-in-Ok-clause-passes
returns-in-Ok-clause-passes c =
    passes_view c.args.from c.args.m c.self.inside.ledger c.receive.new.self c.self.inside.spent c.args.self.now
    c.args.sends.now c.receive.new.sends
    c.self.view_is c.if-self.false c.in-Ok.ensures.passes
