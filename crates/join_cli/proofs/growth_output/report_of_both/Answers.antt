use Rattle.std.proofs.Common.{◌≤◌, ◌^◌, length, arith}
use Rattle.row_cells.specs.declared.table.Side.TheVariants.{R, S}
use Rattle.join_cli.proofs.growth_output.report_of_both.Goals as goal

pub grown_report_text-requires-clause-rows_r : goal.grown_report_text-requires-clause-rows_r
grown_report_text-requires-clause-rows_r c =
    let few : length c.args.work.now.input.now.table_r.rows ≤ 2 ^ 18 = (c.args.work.now.valid_input.sides R).few in
    omega (arith, c.len-rows_r.ensures, few)

pub grown_report_text-requires-clause-rows_s : goal.grown_report_text-requires-clause-rows_s
grown_report_text-requires-clause-rows_s c =
    let few : length c.args.work.now.input.now.table_s.rows ≤ 2 ^ 18 = (c.args.work.now.valid_input.sides S).few in
    omega (arith, c.len-rows_s.ensures, few)
