-- How a run ends by what was read of the files, whatever the shelf tells of them.
use Rattle.std.specs.Prelude.{◌≡◌, ℕ, List, Option, Result, Ok, Err}
use Rattle.join_rows.specs.Shelves.{Spot, Told}
use Rattle.join_words.specs.Words.{Asked}
use Rattle.join_plan.specs.declared.fault.Refusal.{Refusal}
use Rattle.join_plan.specs.declared.files.Gathered.{Gathered}
use Rattle.join_plan.specs.declared.fitting.Planned.{Planned}
use Rattle.join_plan.specs.Plan.{fitted}
use Rattle.join_plan.specs.Refusals.{then_of}
use Rattle.join_plan.specs.Seen.{GatheredSeen}
use Rattle.join_plan.specs.Texts.{AreRead, Readings, Trees, trees_of}
use Rattle.join_cli.specs.declared.outcome.Outcome.{Outcome}
use Rattle.join_cli.specs.Ends.{Concludes}
use Rattle.join_cli.specs.Outcomes.{outcome_of}

-- a plan was carried out, or it was refused and nothing written
abbrev pub Ends : Asked → Option (List ℕ) → Option (List ℕ) → Result Planned Refusal → Outcome → Type 0
Ends asked old new (Ok planned) outcome = Concludes asked planned old new outcome
Ends asked old new (Err refusal) outcome = (outcome ≡ outcome_of refusal) × (new ≡ old)

-- a run ends as what it has read of the files says, or as the made tables say
pub record EndsOver (told : Told) (spot : Spot) (asked : Asked) (trees : Trees) (old new : Option (List ℕ))
    (outcome : Outcome) : Type 0 where
  pub found : Result Gathered Refusal
  pub seen : GatheredSeen told spot asked found
  pub ends : Ends asked old new (then_of found (fitted trees)) outcome

-- of texts with these trees it ends as what was read of the files says; of a text without one it is refused, and
-- nothing written
abbrev pub EndsBehind : Told → Spot → Asked → Option (List ℕ) → Option (List ℕ) → Outcome → Result Trees Refusal
    → Type 0
EndsBehind told spot asked old new outcome (Ok trees) = EndsOver told spot asked trees old new outcome
EndsBehind told spot asked old new outcome (Err refusal) = (outcome ≡ outcome_of refusal) × (new ≡ old)

-- a run ends as the texts that are asked for read, and behind them as what it has read of the files says
pub record EndsSeen (told : Told) (spot : Spot) (asked : Asked) (old new : Option (List ℕ))
    (outcome : Outcome) : Type 0 where
  pub readings : Readings
  pub read : AreRead asked readings
  pub ends : EndsBehind told spot asked old new outcome (trees_of readings)
