-- A worked row: four joiners, one feeder, batches of four, all rows of R first, eight rows on each side,
-- each step settled before the next count.
use Rattle.std.specs.Prelude.{◌≡◌, ℕ, None, List, [], ◌∷◌, map, reverse, refl, replicate, unwrap_or}
use Rattle.row_cells.specs.declared.table.Side.{Side}
use Rattle.row_cells.specs.declared.table.Side.TheVariants.{R, S}
use Rattle.theta_pred.specs.Formula.{every, no_formula}
use Rattle.load_controller.specs.declared.line.Cause.TheVariants.{Count, Settle, Drain}
use Rattle.load_controller.specs.declared.line.TurnLine.{TurnLine}
use Rattle.load_controller.specs.Journal.{start_line, goes_on, last_line, shift_at}
use Rattle.load_controller.specs.Worked.{past_of, growing, later_line, later_past}
use Rattle.trace_law.specs.declared.input.Input.{Input}
use Rattle.trace_law.specs.Join.{made, held, moved}
use Rattle.row_tickets.specs.declared.place.Feed.TheVariants.{RFirst}
use Rattle.row_tickets.specs.Share.{share, place_at}
use Rattle.trace_law.specs.Batches.{stamp_of}
use Rattle.trace_law.specs.declared.setting.Setting.{Setting}
use Rattle.trace_law.specs.Family.{shift_by, stamp_by}

-- the journal of this run
abbrev pub journal : List TurnLine
journal = reverse (past_of growing (start_line growing) [] (
    Count 0 4 0 ∷ Settle 0 ∷ Settle 1 ∷ Settle 2 ∷ Settle 3 ∷ Count 0 4 0 ∷ Count 0 0 4 ∷ Count 0 0 4 ∷ Drain 0
    ∷ Settle 3 ∷ Settle 2 ∷ Settle 1 ∷ Settle 0 ∷ []))

-- eight rows on each side, a predicate that is true of all, and the tickets spread over the grid
abbrev pub input : Input
input = record {
  table_r = record { names = []; rows = replicate 8 [] };
  table_s = record { names = []; rows = replicate 8 [] };
  theta = record { formula = every no_formula; width_r = 0; width_s = 0 };
  tickets_r = 0 ∷ 32 ∷ 64 ∷ 96 ∷ 128 ∷ 160 ∷ 192 ∷ 224 ∷ [];
  tickets_s = 0 ∷ 1 ∷ 2 ∷ 3 ∷ 4 ∷ 5 ∷ 6 ∷ 7 ∷ [];
}

-- the stamp of a row
abbrev pub stamp : Side → ℕ → ℕ
stamp side index = unwrap_or (stamp_of 1 4 (λ p. share RFirst 1 p 8 8) journal (place_at side index)) 0

-- the shift of an epoch
abbrev pub shift : ℕ → ℕ
shift e = shift_at 1 e journal

-- the rows of R are of epoch 1, those of S of epoch 1 and then of epoch 2
pub stamps : stamp R 0 ∷ stamp R 7 ∷ stamp S 3 ∷ stamp S 4 ∷ [] ≡ 1 ∷ 1 ∷ 1 ∷ 2 ∷ []
stamps = refl

-- each of the four joiners makes sixteen of the 64 pairs
pub each_makes_16 : map (made input (start_line growing) 2 stamp shift) (0 ∷ 1 ∷ 2 ∷ 3 ∷ []) ≡ 16 ∷ 16 ∷ 16 ∷ 16 ∷ []
each_makes_16 = refl

-- in the end joiners 0 and 3 hold four rows of either side
pub each_holds_4_and_4 : held input 2 1 R 0 ∷ held input 2 1 S 0 ∷ held input 2 1 R 3 ∷ held input 2 1 S 3 ∷ []
    ≡ 4 ∷ 4 ∷ 4 ∷ 4 ∷ []
each_holds_4_and_4 = refl

-- in the first step no row moves, for S has none yet; in the second each row of R does, once
pub moved_0_and_8 : moved input 2 stamp shift 1 ∷ moved input 2 stamp shift 2 ∷ [] ≡ 0 ∷ 8 ∷ []
moved_0_and_8 = refl

-- ---- a wave behind it, of 24 rows of R

-- it goes on from the last line
pub goes_on_from_there : goes_on (last_line (start_line growing) journal) ≡ later_line
goes_on_from_there = refl

-- the rows up to its end
abbrev pub later_input : Input
later_input =
    record input {
      table_r = record { names = []; rows = replicate 32 [] };
      tickets_r = replicate 32 0;
    }

-- in batches of four
abbrev pub later_setting : Setting
later_setting =
    record {
      k = 2;
      feeders = 1;
      workers = 1;
      batch = 4;
      feed = RFirst;
      fixed = None;
      weights = record { r = 1; s = 1 };
    }

-- the stamp of a row
abbrev pub later_stamp : Side → ℕ → ℕ
later_stamp = stamp_by later_input later_setting later_line (reverse later_past)

-- rows from before the wave have its first epoch, as have the first twenty of the wave; its last four are of epoch 3
pub later_stamps : map (later_stamp R) (0 ∷ 7 ∷ 8 ∷ 27 ∷ 28 ∷ 31 ∷ []) ≡ 2 ∷ 2 ∷ 2 ∷ 2 ∷ 3 ∷ 3 ∷ []
later_stamps = refl

-- the step to epoch 3 moves each of the eight rows of S, which two joiners held
pub later_moved : moved later_input 2 later_stamp (shift_by later_line (reverse later_past)) 3 ≡ 16
later_moved = refl
