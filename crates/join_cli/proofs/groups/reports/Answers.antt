use Rattle.std.proofs.Common.{◌≡◌, ◌∙◌, ap, length, arith}
use Rattle.group_split.specs.Sizes.{digits}
use Rattle.join_cli.proofs.Reports.{few_digits}
use Rattle.join_cli.proofs.groups.reports.Goals as goal

pub reports_from-requires-clause-few : goal.reports_from-requires-clause-few
reports_from-requires-clause-few c =
    let few = few_digits c.args.dealt.now.joiners in
    let is : length c.as_slice.result.now ≡ length (digits c.args.dealt.now.joiners) =
    ap length (c.as_slice.ensures ∙ c.in_ok-exponents.ensures.are) in
    omega (arith, is)
