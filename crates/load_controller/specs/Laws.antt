-- What every lawful journal keeps to.
use Rattle.std.specs.Prelude.{◌≡◌, ℕ, ◌+◌, ◌*◌, ◌^◌, ◌<◌, ◌≤◌, false, None, Some, List, ◌∷◌, length}
use Rattle.grid_map.specs.Load.{IsNear}
use Rattle.load_controller.specs.declared.line.TurnLine.{TurnLine}
use Rattle.load_controller.specs.Law.{AreSettled}
use Rattle.load_controller.specs.Journal.{Rules, Fits, Follows, AreLawful, start_line, last_of, due_in}

-- the line with which a run begins fits, where a fixed shift is one of the grid
abbrev pub StartFits : Type 0
StartFits = (rules : Rules) → ((shift : ℕ) → rules.fixed ≡ Some shift → shift ≤ rules.k) → Fits rules (start_line rules)

-- where no shift is fixed, each line that isn't moving is near the best grid for its counts
abbrev pub StaysNear : Type 0
StaysNear =
    (rules : Rules) (first line : TurnLine) (past : List TurnLine) → Fits rules first → rules.fixed ≡ None
    → Follows rules first (line ∷ past)
    → line.moving ≡ false → IsNear rules.k line.shift (rules.weights.r * line.rows_r) (rules.weights.s * line.rows_s)

-- there are at most k migrations for each binary digit of its counts
abbrev pub MigratesSeldom : Type 0
MigratesSeldom =
    (rules : Rules) (first line : TurnLine) (past : List TurnLine) → Fits rules first
    → Follows rules first (line ∷ past) → (a c : ℕ) → line.rows_r < 2 ^ a → line.rows_s < 2 ^ c
    → line.epoch ≤ first.epoch + rules.k * (a + c)

-- a line that isn't moving, of a journal that begins at a line which fits, fits too, where its counts are small enough
abbrev pub FitsAgain : Type 0
FitsAgain =
    (rules : Rules) (first line : TurnLine) (past : List TurnLine) → Fits rules first
    → Follows rules first (line ∷ past) → line.moving ≡ false
    → line.rows_r ≤ 2 ^ 32 → line.rows_s ≤ 2 ^ 32 → Fits rules line

-- and each joiner then has a line for each epoch after the first
abbrev pub EachHasSettled : Type 0
EachHasSettled =
    (rules : Rules) (first line : TurnLine) (past : List TurnLine) → first.moving ≡ false
    → Follows rules first (line ∷ past) → line.moving ≡ false
    → (j : ℕ) (epochs : List ℕ) → j < 2 ^ rules.k → AreSettled j (line ∷ past) epochs
    → first.epoch + length epochs ≡ line.epoch

-- the waves of a run have together no more migrations and decisions than one wave with all their rows
abbrev pub WavesMigrateSeldom : Type 0
WavesMigrateSeldom = (rules : Rules) (line : TurnLine) (waves : List ((ℕ → List (ℕ × ℕ)) × List TurnLine))
    → Fits rules line → AreLawful rules line waves → (a c : ℕ)
    → (last_of line waves).rows_r < 2 ^ a → (last_of line waves).rows_s < 2 ^ c
    → ((last_of line waves).epoch ≤ line.epoch + rules.k * (a + c)) × (due_in rules waves ≤ a + c)
