-- What some waves of a run leave.
use Rattle.std.specs.Prelude.{◌≡◌, ◌+◌, ◌*◌, ◌≤◌, List, [], ◌∷◌, length}
use Rattle.load_controller.specs.declared.line.TurnLine.{TurnLine}
use Rattle.load_controller.specs.Journal.{last_line}
use Rattle.actor_core.specs.declared.rests.Upto.{Upto}
use Rattle.join_plan.specs.declared.waves.WaveEnd.{WaveEnd}
use Rattle.join_cli.specs.Waves.{upto_of}

-- how many rows of each side a line has counted
abbrev pub counted : TurnLine → Upto
counted line = record { rows_r = line.rows_r; rows_s = line.rows_s }

-- the last line of these journals, of which the first goes on from this line
abbrev pub line_behind : TurnLine → List (List TurnLine) → TurnLine
line_behind line [] = line
line_behind line (journal ∷ journals) = line_behind (last_line line journal) journals

-- where the last of these waves ends, which begin behind so many rows
abbrev pub end_behind : Upto → List WaveEnd → Upto
end_behind before [] = before
end_behind before (end ∷ ends) = end_behind (upto_of end) ends

-- the waves with these journals, of which the first went on from this line, left this rest: its line is their last,
-- it has counted all rows up to their last end, and is few epochs later
pub record AreBehind (line : TurnLine) (ends : List WaveEnd) (journals : List (List TurnLine)) (left : TurnLine)
    : Type 0 where
  pub line_is : left ≡ line_behind line journals
  pub counts : counted left ≡ end_behind (counted line) ends
  pub few : left.epoch ≤ line.epoch + 304 * length ends
