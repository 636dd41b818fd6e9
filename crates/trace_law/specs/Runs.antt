-- What a run of an input and a setting is to answer.
use Rattle.std.specs.Prelude.{◌≡◌, ℕ, ◌+◌, ◌*◌, ◌^◌, ◌≤◌, ⊤, false, None, All, List, [], ◌∷◌, map, flat_map, reverse}
use Rattle.std.specs.Prelude.{sum_by}
use Rattle.std.specs.List.{range_with_len}
use Rattle.row_cells.specs.declared.table.Side.TheVariants.{R, S}
use Rattle.grid_map.specs.declared.cost.Weights.{Weights}
use Rattle.grid_map.specs.Load.{IsNear}
use Rattle.load_controller.specs.declared.line.TurnLine.{TurnLine}
use Rattle.load_controller.specs.Journal.{IsLawful, begun, last_epoch, last_line, due_lines}
use Rattle.pair_collector.specs.declared.collected.Collected.{Collected}
use Rattle.pair_collector.specs.declared.collected.Held.{Held}
use Rattle.trace_law.specs.declared.input.Input.{Input}
use Rattle.trace_law.specs.declared.setting.Setting.{Setting}
use Rattle.trace_law.specs.declared.run.Run.{Run}
use Rattle.trace_law.specs.Join.{row_count, wave_pairs, made, held, moved}
use Rattle.trace_law.specs.Batches.{size_of}
use Rattle.trace_law.specs.Family.{rules_of, batches, shift_by, stamp_by, migrations}

-- each line that isn't moving is near the best grid for its counts and these weights
abbrev pub AreNear : ℕ → Weights → List TurnLine → Type 0
AreNear k weights journal =
    All (λ line. line.moving ≡ false → IsNear k line.shift (weights.r * line.rows_r) (weights.s * line.rows_s)) journal

-- the line is of this epoch, at this shift, and isn't moving
pub record StaysAt (at shift : ℕ) (line : TurnLine) : Type 0 where
  pub epoch : line.epoch ≡ at
  pub stays : line.shift ≡ shift
  pub still : line.moving ≡ false

-- ---- the closed formulas over the journal of a wave that begins with this line

-- how many pairs joiner j makes
abbrev pub made_over : Input → Setting → TurnLine → List TurnLine → ℕ → ℕ
made_over input setting line journal j =
    made input line setting.k (stamp_by input setting line journal) (shift_by line journal) j

-- how many rows of each side joiner j holds at the last shift
abbrev pub load_over : Input → Setting → TurnLine → List TurnLine → ℕ → Held
load_over input setting line journal j =
    let last = shift_by line journal (last_epoch journal) in
    record { rows_r = held input setting.k last R j; rows_s = held input setting.k last S j }

-- how many rows move in the wave's step n, which leads to the n-th epoch after its first
abbrev pub moved_over : Input → Setting → TurnLine → List TurnLine → ℕ → ℕ
moved_over input setting line journal n =
    moved input setting.k (stamp_by input setting line journal) (shift_by line journal) (line.epoch + n + 1)

-- the run answers the wave's pairs in the nested loop's order, and the numbers of the formulas over this lawful journal
pub record IsRunOf (input : Input) (setting : Setting) (line : TurnLine) (journal : List TurnLine)
    (run : Run) : Type 0 where
  pub keeps : run.journal ≡ journal
  pub lawful : IsLawful (rules_of setting) (begun line) (λ p. map size_of (batches input setting line p)) journal
  pub near : setting.fixed ≡ None → AreNear setting.k setting.weights journal
  pub pairs : run.pairs ≡ wave_pairs input line
  pub made : run.made ≡ map (made_over input setting line journal) (range_with_len 0 (2 ^ setting.k))
  pub loads : run.loads ≡ map (load_over input setting line journal) (range_with_len 0 (2 ^ setting.k))
  pub moved : run.moved ≡ map (moved_over input setting line journal) (range_with_len 0 (migrations line journal))

-- the collector's answer with the journal
abbrev pub run_of : Collected → List TurnLine → ℕ → Run
run_of collected journal bouts =
    record {
      pairs = collected.pairs;
      made = collected.made;
      loads = collected.loads;
      moved = collected.moved;
      journal = journal;
      bouts = bouts;
    }

-- ---- several waves

-- the waves of a run, each with the input up to its end and its journal, of which the first goes on from this line:
-- each has the rows that were counted before it, its journal is lawful, and the next wave goes on from its last line
abbrev pub AreLawful : Setting → TurnLine → List (Input × List TurnLine) → Type 0
AreLawful setting line [] = ⊤
AreLawful setting line ((input, journal) ∷ waves) =
    (line.rows_r ≤ row_count input R) × (line.rows_s ≤ row_count input S)
    × IsLawful (rules_of setting) (begun line) (λ p. map size_of (batches input setting line p)) journal
    × AreLawful setting (last_line line journal) waves

-- the journal of a run: those of its waves, one after the other
abbrev pub journal_of : List (Input × List TurnLine) → List TurnLine
journal_of waves = flat_map (λ wave. wave.1) waves

-- how many of its lines have a due decision
abbrev pub decisions_in : Setting → List (Input × List TurnLine) → ℕ
decisions_in setting waves = sum_by (λ wave. due_lines (rules_of setting) (reverse wave.1)) waves
