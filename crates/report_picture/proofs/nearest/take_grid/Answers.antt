use Rattle.std.proofs.Common.{◌∙◌, List, ap, sym}
use Rattle.std.proofs.lemmas.Result.{on_ok_weaker}
use Rattle.report_lines.specs.declared.report_numbers.Report.{Report}
use Rattle.report_lines.specs.declared.report_numbers.Step.{Step}
use Rattle.report_picture.proofs.Made.{grid_behind, grid_before}
use Rattle.report_picture.proofs.nearest.take_grid.Goals as goal

pub returns-then-is_some-clause-exact : goal.returns-then-is_some-clause-exact
returns-then-is_some-clause-exact c =
    let old = c.args.report.now in
    let put : List Step → Report = λ steps. record old { later = steps } in
    on_ok_weaker c.push_step.result
    (λ more. ap put more ∙ sym (grid_behind old.growth old c.args.step
    (sym c.is_some.ensures ∙ c.if-is_some.true)))
    c.push_step.ensures.exact

pub returns-else-is_some-clause-exact : goal.returns-else-is_some-clause-exact
returns-else-is_some-clause-exact c =
    let old = c.args.report.now in
    let put : List Step → Report = λ steps. record old { steps = steps } in
    on_ok_weaker c.push_step-else-is_some.result
    (λ more. ap put more ∙ sym (grid_before old.growth old c.args.step
    (sym c.is_some.ensures ∙ c.if-is_some.false)))
    c.push_step-else-is_some.ensures.exact
