-- What a plan or a refusal says, a verdict that tells it says too.
use Rattle.std.proofs.Common.{◌≡◌, ◌⊎◌, inl, inr, ℕ, List, Option, Result, Err, refl, ap}
use Rattle.theta_tree.specs.declared.fault.PredFault.{PredFault}
use Rattle.join_words.specs.Words.{Asked}
use Rattle.join_plan.specs.Plan.{IsPlanOf}
use Rattle.join_plan.specs.declared.fault.Refusal.{Refusal}
use Rattle.join_plan.specs.declared.fault.Refusal.TheVariants as refusals
use Rattle.join_plan.specs.declared.fitting.Planned.{Planned}
use Rattle.join_plan.specs.declared.refusal_of_fault.Which.{Which}
use Rattle.join_plan.specs.Texts.{RefusesText}
use Rattle.join_why.specs.declared.verdict.Verdict.TheVariants.{Refuses}
use Rattle.join_why.specs.Verdicts.{TellsEarly, TellsPlan, lacks_memory, verdict_of}

-- where the one is the plan's or want of memory, so is the verdict
pub told_by : (asked : Asked) (files : List ℕ → Option (List ℕ)) (result : Result Planned Refusal)
    → (result ≡ Err refusals.Memory) ⊎ IsPlanOf asked files result
    → (verdict_of result ≡ lacks_memory) ⊎ TellsPlan asked files (verdict_of result)
told_by asked files result (inl memory) = inl (ap verdict_of memory)
told_by asked files result (inr of) = inr (record { plan = result; of = of; is = refl })

-- a text that is refused by its fault is told so
pub told_early : (which : Which) (fault : PredFault) (refusal : Refusal)
    → RefusesText {T = Planned} which fault (Err refusal) → TellsEarly which fault (Refuses refusal)
told_early which fault refusal (inl memory) = inl (ap Refuses memory)
told_early which fault refusal (inr is) = inr (ap Refuses is)
