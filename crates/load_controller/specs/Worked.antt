-- Worked rows.
use Rattle.std.specs.Prelude.{◌≡◌, ℕ, Bool, true, false, None, List, [], ◌∷◌, ◌++◌, map, reverse, refl}
use Rattle.epoch_tags.specs.declared.message.ToFeeder.TheVariants.{Order, Grant, Stop}
use Rattle.load_controller.specs.Law.{sent_by}
use Rattle.load_controller.specs.declared.line.Cause.{Cause}
use Rattle.load_controller.specs.declared.line.Cause.TheVariants.{Start, Wave, Count, Settle, Drain}
use Rattle.load_controller.specs.declared.line.TurnLine.{TurnLine}
use Rattle.load_controller.specs.Journal.{Rules, line_after, start_line}

-- the past that these causes make after a line
abbrev pub past_of : Rules → TurnLine → List TurnLine → List Cause → List TurnLine
past_of rules before past [] = before ∷ past
past_of rules before past (cause ∷ causes) = past_of rules (line_after rules before past cause) (before ∷ past) causes

-- of a line its epoch, its shift, and whether a step is open
abbrev pub epoch_shift_moving : TurnLine → ℕ × ℕ × Bool
epoch_shift_moving line = (line.epoch, line.shift, line.moving)

-- four joiners and one feeder
abbrev pub growing : Rules
growing = record { k = 2; feeders = 1; fixed = None; weights = record { r = 1; s = 1 } }

-- R grows, then S: a step to shift 0, and one back to shift 1, the last line first
pub growing_lines : map epoch_shift_moving (past_of growing (start_line growing) [] (
    Count 0 4 0 ∷ Settle 0 ∷ Settle 1 ∷ Settle 2 ∷ Settle 3 ∷ Count 0 4 0 ∷ Count 0 0 4 ∷ Count 0 0 4 ∷ Drain 0
    ∷ Settle 3 ∷ Settle 2 ∷ Settle 1 ∷ Settle 0 ∷ []))
    ≡ (2, 1, false) ∷ (2, 1, true) ∷ (2, 1, true) ∷ (2, 1, true) ∷ (2, 1, true) ∷ (2, 1, true) ∷ (1, 0, false)
    ∷ (1, 0, false)
    ∷ (1, 0, false) ∷ (1, 0, true) ∷ (1, 0, true) ∷ (1, 0, true) ∷ (1, 0, true) ∷ (0, 1, false) ∷ []
growing_lines = refl

-- what the feeder is sent for it
pub growing_sends : sent_by growing 0 (past_of growing (start_line growing) [] (
    Count 0 4 0 ∷ Settle 0 ∷ Settle 1 ∷ Settle 2 ∷ Settle 3 ∷ Count 0 4 0 ∷ Count 0 0 4 ∷ Count 0 0 4 ∷ Drain 0
    ∷ Settle 3 ∷ Settle 2 ∷ Settle 1 ∷ Settle 0 ∷ []))
    ≡ Order 1 0 ∷ Grant ∷ Grant ∷ Grant ∷ Order 2 1 ∷ Grant ∷ Stop ∷ []
growing_sends = refl

-- the first line of a wave that goes on from there
abbrev pub later_line : TurnLine
later_line =
    record {
      cause = Wave;
      rows_r = 8;
      rows_s = 8;
      base_r = 8;
      base_s = 8;
      epoch = 2;
      shift = 1;
      goal = 1;
      moving = false;
    }

-- 24 rows of R come in it: at 16 the shift stays (48 against 48), at 32 a step leads to shift 0 (64 against 80)
abbrev pub later_past : List TurnLine
later_past = past_of growing later_line [] (
    Count 0 4 0 ∷ Count 0 4 0 ∷ Count 0 4 0 ∷ Count 0 4 0 ∷ Count 0 4 0 ∷ Count 0 4 0
    ∷ Settle 0 ∷ Settle 1 ∷ Settle 2 ∷ Settle 3 ∷ Drain 0 ∷ [])

-- the last line first
pub later_lines : map epoch_shift_moving later_past
    ≡ (3, 0, false) ∷ (3, 0, false) ∷ (3, 0, true) ∷ (3, 0, true) ∷ (3, 0, true) ∷ (3, 0, true) ∷ (2, 1, false)
    ∷ (2, 1, false) ∷ (2, 1, false) ∷ (2, 1, false) ∷ (2, 1, false) ∷ (2, 1, false) ∷ []
later_lines = refl

-- the same, and a row of R weighs as much as two of S
abbrev pub heavy : Rules
heavy = record { k = 2; feeders = 1; fixed = None; weights = record { r = 2; s = 1 } }

-- the rows of S that come then move no step: at shift 0 there are 32 copies against 40, and 48 against 48 and 72
pub heavy_lines : map epoch_shift_moving (past_of heavy (start_line heavy) [] (
    Count 0 4 0 ∷ Settle 0 ∷ Settle 1 ∷ Settle 2 ∷ Settle 3 ∷ Count 0 4 0 ∷ Count 0 0 4 ∷ Count 0 0 4 ∷ []))
    ≡ (1, 0, false) ∷ (1, 0, false) ∷ (1, 0, false) ∷ (1, 0, false) ∷ (1, 0, true) ∷ (1, 0, true) ∷ (1, 0, true)
    ∷ (1, 0, true) ∷ (0, 1, false) ∷ []
heavy_lines = refl

-- sixteen joiners and one feeder
abbrev pub uneven : Rules
uneven = record { k = 4; feeders = 1; fixed = None; weights = record { r = 1; s = 1 } }

-- a line with twice as many rows of R as of S
abbrev pub uneven_line : TurnLine
uneven_line =
    record {
      cause = Start;
      rows_r = 128;
      rows_s = 64;
      base_r = 128;
      base_s = 64;
      epoch = 0;
      shift = 2;
      goal = 2;
      moving = false;
    }

-- of a line its bases, its epoch, its shift and its goal
abbrev pub bases_and_goal : TurnLine → List ℕ
bases_and_goal line = line.base_r ∷ line.base_s ∷ line.epoch ∷ line.shift ∷ line.goal ∷ []

-- at counts 255 and 64 over bases 128 and 64 no decision is due; at 256 and 64 one is, and a step to shift 1 starts
pub uneven_lines : map bases_and_goal (past_of uneven uneven_line [] (Count 0 127 0 ∷ Count 0 1 0 ∷ []))
    ≡ (256 ∷ 64 ∷ 1 ∷ 1 ∷ 1 ∷ []) ∷ (128 ∷ 64 ∷ 0 ∷ 2 ∷ 2 ∷ []) ∷ (128 ∷ 64 ∷ 0 ∷ 2 ∷ 2 ∷ []) ∷ []
uneven_lines = refl

-- two feeders with no rows: three lines, none moving, and a stop for each
abbrev pub empty : Rules
empty = record { k = 2; feeders = 2; fixed = None; weights = record { r = 1; s = 1 } }

-- both feeders drain at once
abbrev pub empty_past : List TurnLine
empty_past = reverse (past_of empty (start_line empty) [] (Drain 0 ∷ Drain 1 ∷ []))

-- the last line first
pub empty_lines : map epoch_shift_moving empty_past ≡ (0, 1, false) ∷ (0, 1, false) ∷ (0, 1, false) ∷ []
empty_lines = refl

-- what the two feeders are sent
pub empty_sends : sent_by empty 0 (reverse empty_past) ++ sent_by empty 1 (reverse empty_past) ≡ Stop ∷ Stop ∷ []
empty_sends = refl
