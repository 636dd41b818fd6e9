use Rattle.load_controller.specs.Standing.{rules_with}
use Rattle.load_controller.proofs.Fresh.{fresh}
use Rattle.load_controller.proofs.controller.Controller.start_at.Goals as goal

pub returns : goal.returns
returns c =
    fresh (rules_with c.args.k c.args.feeders c.args.fixed c.args.weights)
    c.args.line c.in_ok-start_at.field-0 c.in_ok-start_at.ensures
