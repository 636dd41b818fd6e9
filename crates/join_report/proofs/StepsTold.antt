-- What is told of steps and joiners, one after the other.
use Rattle.std.proofs.Common.{◌≡◌, ◌∙◌, ◌+◌, ℕ, zero, suc, ap, arith, refl, List, [], ◌∷◌, ◌++◌, length, take, Some}
use Rattle.std.specs.Prelude.{slice_get}
use Rattle.load_controller.specs.declared.line.TurnLine.{TurnLine}
use Rattle.load_controller.specs.Journal.{shift_at}
use Rattle.report_lines.specs.declared.report_numbers.Step.{Step}
use Rattle.join_report.specs.Report.{step_at, steps_told}

one_step : (k first before : ℕ) (journal : List TurnLine) (moved : List ℕ) (place count : ℕ)
    → slice_get moved place ≡ Some count
    → steps_told k first before journal (take (suc place) moved)
    ≡ steps_told k first before journal (take place moved)
    ++ step_at k (shift_at first (before + place + 1) journal) count ∷ []
one_step k first before journal [] place count at = absurd (cc)
one_step k first before journal (x ∷ moved) zero count at =
    let same : x ≡ count = cc in
    let here : before + 1 ≡ before + 0 + 1 = omega arith in
    ap (λ (n : ℕ). step_at k (shift_at first (before + 1) journal) n ∷ []) same
    ∙ ap (λ (epoch : ℕ). step_at k (shift_at first epoch journal) count ∷ []) here
one_step k first before journal (x ∷ moved) (suc place) count at =
    let there : before + 1 + place + 1 ≡ before + suc place + 1 = omega arith in
    let here = step_at k (shift_at first (before + 1) journal) x in
    let steps = steps_told k first (before + 1) journal (take place moved) in
    ap (λ (steps : List Step). here ∷ steps) (one_step k first (before + 1) journal moved place count at)
    ∙ ap (λ (epoch : ℕ). here ∷ steps ++ step_at k (shift_at first epoch journal) count ∷ []) there

-- one step more
pub steps_more : (k first before : ℕ) (journal : List TurnLine) (moved : List ℕ) (place count : ℕ)
    → slice_get moved place ≡ Some count
    → steps_told k first before journal (take (place + 1) moved)
    ≡ steps_told k first before journal (take place moved)
    ++ step_at k (shift_at first (before + place + 1) journal) count ∷ []
steps_more k first before journal moved place count at =
    let next : place + 1 ≡ suc place = omega arith in
    ap (λ (n : ℕ). steps_told k first before journal (take n moved)) next
    ∙ one_step k first before journal moved place count at

-- there are as many as in the run
pub steps_length : (k first before : ℕ) (journal : List TurnLine) (moved : List ℕ)
    → length (steps_told k first before journal moved) ≡ length moved
steps_length k first before journal [] = refl
steps_length k first before journal (count ∷ moved) = ap suc (steps_length k first (before + 1) journal moved)
