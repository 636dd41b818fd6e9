-- The outcome that tells a refusal.
use Rattle.join_plan.specs.declared.fault.Refusal.{Refusal}
use Rattle.join_plan.specs.declared.fault.Refusal.TheVariants as refusals
use Rattle.join_cli.specs.declared.outcome.Outcome.{Outcome}
use Rattle.join_cli.specs.declared.outcome.Outcome.TheVariants.{Predicate, Then, Input, Limit, Read, Memory}

-- the outcome of a refusal
abbrev pub outcome_of : Refusal → Outcome
outcome_of (refusals.Predicate fault) = Predicate fault
outcome_of (refusals.Then fault) = Then fault
outcome_of (refusals.Input fault) = Input fault
outcome_of (refusals.Limit fault) = Limit fault
outcome_of refusals.Read = Read
outcome_of refusals.Memory = Memory
