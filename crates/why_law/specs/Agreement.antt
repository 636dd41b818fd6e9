-- What a verdict on words and the outcome of joining them have in common.
use Rattle.std.specs.Prelude.{◌≡◌, ◌≢◌, ◌⊎◌, ⊤, ℕ, List, Option, Some}
use Rattle.join_rows.specs.declared.shelf.Shelf.{Ghosts as ShelfGhosts}
use Rattle.join_rows.specs.declared.sink.Sink.{Ghosts as SinkGhosts}
use Rattle.join_plan.specs.declared.fault.LimitFault.TheVariants.{Between}
use Rattle.join_cli.specs.declared.outcome.Outcome.{Outcome}
use Rattle.join_cli.specs.declared.outcome.Outcome.TheVariants as outcomes
use Rattle.join_cli.specs.Ends.{IsDone}
use Rattle.join_cli.specs.Outcomes.{outcome_of}
use Rattle.join_cli.specs.Promises.{Promises}
use Rattle.join_why.specs.declared.verdict.Verdict.{Verdict}
use Rattle.join_why.specs.declared.verdict.Verdict.TheVariants as verdicts
use Rattle.join_why.specs.Verdicts.{Judges, lacks_memory}

-- the first of two joins had too many pairs for the second
abbrev pub HasTooManyBetween : Outcome → Type 0
HasTooManyBetween (outcomes.Limit (Between pairs)) = ⊤
HasTooManyBetween _ = ⊥

-- the same fault or refusal, or the files were joined, or that shows only at the first join that its pairs are too many
abbrev pub SayTheSame : Verdict → Outcome → Type 0
SayTheSame (verdicts.Joins planned) outcome = IsDone outcome ⊎ HasTooManyBetween outcome
SayTheSame (verdicts.Words fault) outcome = outcome ≡ outcomes.Words fault
SayTheSame (verdicts.Refuses refusal) outcome = outcome ≡ outcome_of refusal

-- two shelves tell the same files, and no call of shelf or sink failed
pub record IsQuiet {F H K : Type 0} (f : ShelfGhosts F) (h : ShelfGhosts H) (k : SinkGhosts K)
    (looked_old looked_new : F) (old new : H) (before after : K) : Type 0 where
  pub files : List ℕ → Option (List ℕ)
  pub told_looked : f.told looked_old ≡ Some files
  pub told : h.told old ≡ Some files
  pub no_fault_looked : f.faults looked_new ≡ f.faults looked_old
  pub no_fault : h.faults new ≡ h.faults old
  pub no_fault_sink : k.faults after ≡ k.faults before

-- then a verdict and an outcome of the same words say the same, unless memory ran out
abbrev pub VerdictsAgree : {F H K : Type 0} → ShelfGhosts F → ShelfGhosts H → SinkGhosts K → Type 0
VerdictsAgree {F} {H} {K} f h k = (words : List (List ℕ)) (looked_old looked_new : F) (old new : H) (before after : K)
    (verdict : Verdict) (outcome : Outcome) → IsQuiet f h k looked_old looked_new old new before after
    → Judges f words looked_old looked_new verdict → Promises h k words old new before after outcome
    → verdict ≢ lacks_memory → outcome ≢ outcomes.Memory → SayTheSame verdict outcome
