-- The changes of the grid that a journal tells, and where its waves begin.
use Rattle.std.specs.Prelude.{◌==◌, ◌&&◌, ℕ, Bool, true, false, List, [], ◌∷◌, filter, if◌then◌else◌}
use Rattle.load_controller.specs.declared.line.Cause.{Cause}
use Rattle.load_controller.specs.declared.line.Cause.TheVariants.{Start, Wave, Count, Settle, Drain}
use Rattle.load_controller.specs.declared.line.TurnLine.{TurnLine}
use Rattle.journal_picture.specs.declared.changes.Step.{Step}

-- the line that ends the step of this epoch, of those behind a line of it: the first that isn't moving or has another
-- epoch, or where there is none the last
abbrev pub ended_at : ℕ → TurnLine → List TurnLine → TurnLine
ended_at epoch last [] = last
ended_at epoch last (next ∷ rest) = if next.moving && next.epoch == epoch then ended_at epoch next rest else next

-- the step that a line begins, with the line before it and those behind it
abbrev pub step_at : TurnLine → TurnLine → List TurnLine → Step
step_at before line rest = record { before = before; begun = line; ended = ended_at line.epoch line rest }

-- the steps behind a line: each line whose epoch isn't that of the line before it begins one
abbrev pub steps_from : TurnLine → List TurnLine → List Step
steps_from before [] = []
steps_from before (line ∷ rest) =
    if line.epoch == before.epoch then steps_from line rest else step_at before line rest ∷ steps_from line rest

-- the steps of a journal
abbrev pub steps_of : List TurnLine → List Step
steps_of [] = []
steps_of (first ∷ rest) = steps_from first rest

-- a line begins a wave behind the first
abbrev pub is_wave : Cause → Bool
is_wave Start = false
is_wave Wave = true
is_wave (Count feeder dr ds) = false
is_wave (Settle joiner) = false
is_wave (Drain feeder) = false

-- the lines of a journal that begin the waves behind the first
abbrev pub waves_of : List TurnLine → List TurnLine
waves_of journal = filter (λ line. is_wave line.cause) journal
