use Rattle.join_cli.proofs.Inputs.{valid_input}
use Rattle.join_cli.proofs.input.input.Goals as goal

pub returns-in-Ok-clause-valid : goal.returns-in-Ok-clause-valid
returns-in-Ok-clause-valid c =
    valid_input c.args.seed c.args.tables c.args.theta c.in-Ok.tickets_r c.in-Ok.tickets_s c.requires c.in-Ok.ensures.r
    c.in-Ok.ensures.s c.in-Ok.ensures.bytes_r c.in-Ok.ensures.bytes_s
