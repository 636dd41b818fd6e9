-- The journals of a run's waves, one after the other.
use Rattle.std.specs.Prelude.{Bool, true, false, List, [], ◌∷◌, map, if◌then◌else◌}
use Rattle.load_controller.specs.declared.line.Cause.{Cause}
use Rattle.load_controller.specs.declared.line.Cause.TheVariants.{Count, Drain, Settle, Start, Wave}
use Rattle.load_controller.specs.declared.line.TurnLine.{TurnLine}
use Rattle.load_controller.specs.Journal.{IsLawful, begun}
use Rattle.trace_law.specs.declared.input.Input.{Input}
use Rattle.trace_law.specs.declared.setting.Setting.{Setting}
use Rattle.trace_law.specs.Batches.{size_of}
use Rattle.trace_law.specs.Family.{batches, rules_of}

-- the journal of a lawful controller that goes on from this line and counts all rows of the wave
abbrev pub IsLawfulFrom : Input → Setting → TurnLine → List TurnLine → Type 0
IsLawfulFrom input setting line journal =
    IsLawful (rules_of setting) (begun line) (λ p. map size_of (batches input setting line p)) journal

-- whether a later wave begins with a line of this cause
abbrev pub is_wave : Cause → Bool
is_wave Start = false
is_wave Wave = true
is_wave (Count feeder dr ds) = false
is_wave (Settle joiner) = false
is_wave (Drain feeder) = false

-- a line before the journals of waves: it begins that of the first of them, or it is a journal of its own where that
-- begins a later wave
abbrev pub with_line : TurnLine → List (List TurnLine) → List (List TurnLine)
with_line line [] = (line ∷ []) ∷ []
with_line line ([] ∷ waves) = (line ∷ []) ∷ waves
with_line line ((next ∷ wave) ∷ waves) =
    if is_wave next.cause then (line ∷ []) ∷ (next ∷ wave) ∷ waves else (line ∷ next ∷ wave) ∷ waves

-- the journals of the waves of a run: its lines are parted before each that begins a later wave
abbrev pub waves_in : List TurnLine → List (List TurnLine)
waves_in [] = []
waves_in (line ∷ journal) = with_line line (waves_in journal)
