-- How a run ends by what was read of the files.
use Rattle.std.proofs.Common.{◌≡◌, ℕ, List, Option, Result, Ok, Err, refl, ap, subst}
use Rattle.join_rows.specs.Shelves.{Spot, Told}
use Rattle.join_words.specs.Words.{Asked}
use Rattle.join_plan.specs.declared.fault.Refusal.{Refusal}
use Rattle.join_plan.specs.declared.fitting.Planned.{Planned}
use Rattle.join_plan.specs.Seen.{IsSeenPlan, SeenBehind}
use Rattle.join_plan.specs.Texts.{Trees, trees_of}
use Rattle.join_cli.specs.declared.outcome.Outcome.{Outcome}
use Rattle.join_cli.specs.Ends.{Concludes}
use Rattle.join_cli.specs.Outcomes.{outcome_of}
use Rattle.join_cli.specs.Seen.{Ends, EndsBehind, EndsSeen}

-- a refusal in place of a plan
abbrev pub no_plan : Refusal → Result Planned Refusal
no_plan refusal = Err refusal

-- another outcome is another answer
pub other_outcome : (refusal why : Refusal) → (outcome_of refusal ≡ outcome_of why → ⊥) → no_plan refusal ≡ no_plan why
    → ⊥
other_outcome refusal why h e = let same : refusal ≡ why = cc e in h (ap outcome_of same)

-- what was refused ends so
pub end_refused : (told : Told) (spot : Spot) (asked : Asked) (written : Option (List ℕ)) (refusal : Refusal)
    → IsSeenPlan told spot asked (no_plan refusal) → EndsSeen told spot asked written written (outcome_of refusal)
end_refused told spot asked written refusal is =
    record { readings = is.readings; read = is.read; ends = by (trees_of is.readings) is.seen }
  where
    by : (trees : Result Trees Refusal) → SeenBehind told spot asked trees (no_plan refusal)
        → EndsBehind told spot asked written written (outcome_of refusal) trees
    by (Ok trees) seen = record {
      found = seen.found;
      seen = seen.seen;
      ends = subst (λ p. Ends asked written written p (outcome_of refusal)) seen.answer (refl, refl);
    }
    by (Err other) seen = let same : refusal ≡ other = cc seen in (ap outcome_of same, refl)

-- and what was planned as it was carried out
pub end_concluded : (told : Told) (spot : Spot) (asked : Asked) (old new : Option (List ℕ)) (planned : Planned)
    (outcome : Outcome) → IsSeenPlan told spot asked (Ok planned) → Concludes asked planned old new outcome
    → EndsSeen told spot asked old new outcome
end_concluded told spot asked old new planned outcome is concludes =
    record { readings = is.readings; read = is.read; ends = by (trees_of is.readings) is.seen }
  where
    by : (trees : Result Trees Refusal) → SeenBehind told spot asked trees (Ok planned)
        → EndsBehind told spot asked old new outcome trees
    by (Ok trees) seen = record {
      found = seen.found;
      seen = seen.seen;
      ends = subst (λ p. Ends asked old new p outcome) seen.answer concludes;
    }
    by (Err other) seen = absurd (cc seen)
