-- A verdict and an outcome over the same words and files say the same.
use Rattle.std.proofs.Common.{◌≡◌, ◌≢◌, ◌⊎◌, inl, inr, ℕ, List, Option, Some, Result, Ok, Err, sym}
use Rattle.std.proofs.Common.{subst}
use Rattle.join_rows.specs.Shelves.{Told}
use Rattle.join_words.specs.Words.{Asked}
use Rattle.join_words.specs.declared.options.WordsFault.{WordsFault}
use Rattle.join_plan.specs.declared.fault.LimitFault.TheVariants.{Between, TooLong, TooMany, Total}
use Rattle.join_plan.specs.declared.fault.Refusal.{Refusal}
use Rattle.join_plan.specs.declared.fitting.Planned.{Planned}
use Rattle.join_plan.proofs.Readings.{one_plan}
use Rattle.join_cli.specs.declared.outcome.Outcome.{Outcome}
use Rattle.join_cli.specs.declared.outcome.Outcome.TheVariants as outcomes
use Rattle.join_cli.specs.Ends.{EndsAs, IsDone, IsEndOf, IsOutcomeOf}
use Rattle.join_why.specs.declared.verdict.Verdict.{Verdict}
use Rattle.join_why.specs.declared.verdict.Verdict.TheVariants as verdicts
use Rattle.join_why.specs.Verdicts.{TellsPlan, lacks_memory, verdict_of}
use Rattle.why_law.specs.Agreement.{HasTooManyBetween, SayTheSame}

-- a plan that was carried out is done, or its first join has too many pairs for a second
ended : (asked : Asked) (planned : Planned) (outcome : Outcome) → IsEndOf asked planned outcome
    → IsDone outcome ⊎ HasTooManyBetween outcome
ended asked planned (outcomes.Done journal trail) ends = inl tt
ended asked planned (outcomes.DoneGroups journals trail) ends = inl tt
ended asked planned (outcomes.DoneChain first second trail) ends = inl tt
ended asked planned (outcomes.DoneRings journal left back) ends = inl tt
ended asked planned (outcomes.Words fault) ends = absurd ends
ended asked planned (outcomes.Predicate fault) ends = absurd ends
ended asked planned (outcomes.Then fault) ends = absurd ends
ended asked planned (outcomes.Input fault) ends = absurd ends
ended asked planned (outcomes.Limit (TooLong side wave)) ends = absurd ends
ended asked planned (outcomes.Limit (TooMany side wave)) ends = absurd ends
ended asked planned (outcomes.Limit (Total side wave rows)) ends = absurd ends
ended asked planned (outcomes.Limit (Between pairs)) ends = inr tt
ended asked planned outcomes.Read ends = absurd ends
ended asked planned outcomes.Write ends = absurd ends
ended asked planned outcomes.Memory ends = absurd ends

-- a verdict and an outcome that are those of one plan say the same
of_plan : (asked : Asked) (plan : Result Planned Refusal) (outcome : Outcome) → IsOutcomeOf asked plan outcome
    → SayTheSame (verdict_of plan) outcome
of_plan asked (Ok planned) outcome ends = ended asked planned outcome ends
of_plan asked (Err refusal) outcome ends = ends

-- so do those of what is asked for
pub of_asked : (told : Told) (files : List ℕ → Option (List ℕ)) (asked : Asked) (verdict : Verdict)
    (outcome : Outcome) → told ≡ Some files → (verdict ≡ lacks_memory) ⊎ TellsPlan asked files verdict
    → EndsAs told asked outcome → verdict ≢ lacks_memory → outcome ≢ outcomes.Memory → SayTheSame verdict outcome
of_asked told files asked verdict outcome tells said ends has_memory memory =
    elim said [
      | inl lacks ↦ absurd (has_memory lacks)
      | inr said_of ↦ elim (subst (λ (t : Told). EndsAs t asked outcome) tells ends) [
        | inl lacks ↦ absurd (memory lacks)
        | inr over ↦
            let one : over.plan ≡ said_of.plan = one_plan asked files over.plan said_of.plan over.of said_of.of in
            subst (λ (v : Verdict). SayTheSame v outcome) (sym said_of.is)
            (of_plan asked said_of.plan outcome (subst (λ plan. IsOutcomeOf asked plan outcome) one over.end))
      ]
    ]

-- and those of words that ask for nothing
pub of_fault : (fault : WordsFault) (verdict : Verdict) (outcome : Outcome)
    → (verdict ≡ verdicts.Words fault) ⊎ (verdict ≡ lacks_memory)
    → (outcome ≡ outcomes.Words fault) ⊎ (outcome ≡ outcomes.Memory)
    → verdict ≢ lacks_memory → outcome ≢ outcomes.Memory → SayTheSame verdict outcome
of_fault fault verdict outcome (inr lacks) ends has_memory memory = absurd (has_memory lacks)
of_fault fault verdict outcome (inl is) (inr lacks) has_memory memory = absurd (memory lacks)
of_fault fault verdict outcome (inl is) (inl ends) has_memory memory =
    subst (λ (v : Verdict). SayTheSame v outcome) (sym is) ends
