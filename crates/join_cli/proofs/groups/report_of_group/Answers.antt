use Rattle.std.proofs.Common.{◌≡◌, ◌≤◌, ◌^◌, length, arith}
use Rattle.row_cells.specs.declared.table.Side.TheVariants.{R, S}
use Rattle.group_split.specs.Parts.{part}
use Rattle.group_split.proofs.Parted.{part_few}
use Rattle.join_cli.specs.Dealt.{group_input, group_setting}
use Rattle.join_cli.proofs.Reports.{few_steps, shifts_fit, valid_group}
use Rattle.join_cli.proofs.groups.report_of_group.Goals as goal

pub report_text-requires-clause-setting : goal.report_text-requires-clause-setting
report_text-requires-clause-setting c =
    (valid_group c.args.dealt.now c.args.group c.args.exponent c.requires.small).1

pub report_text-requires-clause-shifts : goal.report_text-requires-clause-shifts
report_text-requires-clause-shifts c =
    let dealt = c.args.dealt.now in
    let valid = valid_group dealt c.args.group c.args.exponent c.requires.small in
    shifts_fit (group_input dealt c.args.group) (group_setting dealt c.args.exponent) c.args.run.now.journal
    c.args.run.now valid.0 valid.1 c.requires.run

pub report_text-requires-clause-steps : goal.report_text-requires-clause-steps
report_text-requires-clause-steps c =
    let dealt = c.args.dealt.now in
    let valid = valid_group dealt c.args.group c.args.exponent c.requires.small in
    few_steps (group_input dealt c.args.group) (group_setting dealt c.args.exponent) c.args.run.now.journal
    c.args.run.now valid.0 valid.1 c.requires.run

pub report_text-requires-clause-rows_r : goal.report_text-requires-clause-rows_r
report_text-requires-clause-rows_r c =
    let dealt = c.args.dealt.now in
    let few : length dealt.work.input.now.table_r.rows ≤ 2 ^ 18 = (dealt.work.valid_input.sides R).few in
    let many = dealt.many in
    let fewer = part_few dealt.joiners dealt.numbers.now c.args.group in
    let is : c.in_ok-rows_r.rows_r ≡ length (part dealt.joiners dealt.numbers.now c.args.group) =
    c.in_ok-rows_r.ensures in
    omega (arith, is)

pub report_text-requires-clause-rows_s : goal.report_text-requires-clause-rows_s
report_text-requires-clause-rows_s c =
    let work = c.args.dealt.now.work in
    let few : length work.input.now.table_s.rows ≤ 2 ^ 18 = (work.valid_input.sides S).few in
    omega (arith, c.len-rows_s.ensures)
