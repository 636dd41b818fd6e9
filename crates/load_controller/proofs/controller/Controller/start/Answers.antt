use Rattle.std.proofs.Common.{subst, IfOk}
use Rattle.load_controller.specs.declared.line.TurnLine.{TurnLine}
use Rattle.load_controller.specs.Standing.{IsFresh, rules_with}
use Rattle.load_controller.proofs.Fresh.{start_fits, start_line_is}
use Rattle.load_controller.proofs.controller.Controller.start.Goals as goal

pub start_at-requires-clause-fits : goal.start_at-requires-clause-fits
start_at-requires-clause-fits c =
    start_fits c.args.k c.args.feeders c.args.fixed c.args.weights _ c.requires.shift
    (start_line_is c.args.k c.args.feeders c.args.fixed c.args.weights c.unwrap_or-shift.result
    c.unwrap_or-shift.ensures)

pub returns : goal.returns
returns c =
    let rules = rules_with c.args.k c.args.feeders c.args.fixed c.args.weights in
    subst (λ (line : TurnLine). IfOk c.start_at.result (λ controller. IsFresh rules line controller))
    (start_line_is c.args.k c.args.feeders c.args.fixed c.args.weights c.unwrap_or-shift.result
    c.unwrap_or-shift.ensures) c.start_at.ensures
