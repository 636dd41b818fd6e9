use Rattle.std.proofs.Common.{◌≡◌, ◌∙◌, ◌++◌, ℕ, List, [], ◌∷◌, ap, arith, length, sym, take}
use Rattle.std.proofs.lemmas.List.{take_all}
use Rattle.report_lines.specs.declared.report_numbers.Step.{Step}
use Rattle.join_report.specs.Report.{step_at, steps_told}
use Rattle.join_report.proofs.StepsTold.{steps_length, steps_more}
use Rattle.join_report.proofs.told.steps_of.Goals as goal

pub loop-place-preserved : goal.loop-place-preserved
loop-place-preserved c =
    let first = c.args.first in
    c.in_ok-push.ensures.ok
    ∙ ap (λ (steps : List Step). steps ++ c.step_at-step.result ∷ []) c.loop-place.invariant
    ∙ ap (λ (step : Step). steps_told first.k first.shift c.args.before c.args.journal.now
    (take c.loop-place.place c.args.moved.now) ++ step ∷ [])
    (c.step_at-step.ensures ∙ ap (λ (shift : ℕ). step_at first.k shift c.at.result.now) c.shift_at-shift.ensures.shift)
    ∙ sym (steps_more first.k first.shift c.args.before c.args.journal.now c.args.moved.now c.loop-place.place
    c.at.result.now c.at.ensures)

pub returns-clause-count : goal.returns-clause-count
returns-clause-count c =
    let first = c.args.first in
    let all : take c.loop-place.place c.args.moved.now ≡ c.args.moved.now = take_all _ _ (omega arith) in
    ap (λ (steps : List Step). length steps) c.loop-place.invariant
    ∙ steps_length first.k first.shift c.args.before c.args.journal.now (take c.loop-place.place c.args.moved.now)
    ∙ ap (λ (moved : List ℕ). length moved) all
