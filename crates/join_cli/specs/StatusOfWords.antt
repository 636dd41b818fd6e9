-- Which exit status words and files come to.
use Rattle.std.specs.Prelude.{◌≡◌, ◌⊎◌, ℕ, List, Option, Result, Ok, Err}
use Rattle.join_words.specs.Words.{Asked}
use Rattle.join_words.specs.declared.options.WordsFault.{WordsFault}
use Rattle.join_plan.specs.declared.fault.Refusal.{Refusal}
use Rattle.join_plan.specs.declared.fitting.Planned.{Planned}
use Rattle.join_plan.specs.Plan.{IsPlanOf}
use Rattle.join_cli.specs.Chain.{IsBetween}
use Rattle.join_cli.specs.Outcomes.{outcome_of}
use Rattle.join_cli.specs.ExitStatus.{status_of}

-- the status of a plan: 0, or 5 where its first join has more pairs than a second takes; or that of a refusal
abbrev pub IsStatusOf : Asked → Result Planned Refusal → ℕ → Type 0
IsStatusOf asked (Ok planned) status = (status ≡ 0) ⊎ ((status ≡ 5) × ((pairs : ℕ) × IsBetween asked planned pairs))
IsStatusOf asked (Err refusal) status = status ≡ status_of (outcome_of refusal)

-- the status of what words ask for, over these files: that of the plan, or 2 where they ask for nothing
abbrev pub IsStatusOver : Result Asked WordsFault → (List ℕ → Option (List ℕ)) → ℕ → Type 0
IsStatusOver (Ok asked) files status =
    (plan : Result Planned Refusal) × IsPlanOf asked files plan × IsStatusOf asked plan status
IsStatusOver (Err fault) files status = status ≡ 2
