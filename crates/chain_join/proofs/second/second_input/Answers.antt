use Rattle.chain_join.proofs.Chained.{valid_second}
use Rattle.chain_join.proofs.second.second_input.Goals as goal

pub returns-in-Ok-clause-valid : goal.returns-in-Ok-clause-valid
returns-in-Ok-clause-valid c =
    let sides = c.in-Ok.ensures in
    valid_second c.args.first.now c.args.third c.args.seed c.in-Ok.table_r c.in-Ok.tickets_r c.in-Ok.tickets_s
    c.requires.input c.requires.few c.requires.rows c.requires.width_r c.requires.width_s
    sides.names sides.rows sides.tickets_r sides.tickets_s sides.bytes_r sides.bytes_s
